use Rattle.std.proofs.Common.{◌∙◌, List, length, ap, ◌++◌, drop, subst, take}
use Rattle.em_record.specs.declared.record.Record.{Record}
use Rattle.em_settle.specs.Add.{apply_of}
use Rattle.em_settle.specs.AddLaws.{apply_joins}
use Rattle.em_combine.specs.Gather.{GatherState}
use Rattle.em_combine.specs.Joining.{JoinsLoad}
use Rattle.em_combine.proofs.Fronts.{gather_join, sorted_room}
use Rattle.em_combine.proofs.gather.Gather.join.Goals as goal

pub join_front-self-inside-requires-clause-within :
    goal.join_front-self-inside-requires-clause-within
join_front-self-inside-requires-clause-within g c =
    sorted_room c.self.inside.area c.sort.new.self c.records_mut.result.now c.self.inside.len
    c.self.invariant.within c.sort.ensures.sorted c.records_mut.ensures.value

pub invariant_of-self : goal.invariant_of-self
invariant_of-self g c =
    let j = c.join_front-self-inside in
    (gather_join (apply_of c.args.settle.now.kind) (apply_joins c.args.settle.now.kind)
    c.self.inside.area c.sort.new.self c.records_mut.result.now j.new.records c.self.inside.len j.result
    c.self.invariant c.sort.ensures.sorted c.records_mut.ensures.value j.ensures.long j.ensures.within
    j.ensures.joined).is

pub returns-clause-joins : goal.returns-clause-joins
returns-clause-joins g c =
    let j = c.join_front-self-inside in
    let front = gather_join (apply_of c.args.settle.now.kind) (apply_joins c.args.settle.now.kind)
    c.self.inside.area c.sort.new.self c.records_mut.result.now j.new.records c.self.inside.len j.result
    c.self.invariant c.sort.ensures.sorted c.records_mut.ensures.value j.ensures.long j.ensures.within
    j.ensures.joined in
    let zs : List Record = take (length c.sort.new.self)
    (j.new.records ++ drop (length j.new.records) c.sort.new.self) in
    subst (λ (s : GatherState). JoinsLoad (apply_of c.args.settle.now.kind) s.items (take j.result zs))
    c.self.view_is front.joins

pub returns-clause-capacity : goal.returns-clause-capacity
returns-clause-capacity g c =
    let j = c.join_front-self-inside in
    (gather_join (apply_of c.args.settle.now.kind) (apply_joins c.args.settle.now.kind)
    c.self.inside.area c.sort.new.self c.records_mut.result.now j.new.records c.self.inside.len j.result
    c.self.invariant c.sort.ensures.sorted c.records_mut.ensures.value j.ensures.long j.ensures.within
    j.ensures.joined).long ∙ ap (λ (s : GatherState). s.capacity) c.self.view_is
