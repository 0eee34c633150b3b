use Rattle.std.proofs.Common.{ap, drop, take, subst, ◌∙◌}
use Rattle.std.specs.Prelude.{Option, IfSome, List}
use Rattle.em_record.specs.declared.record.Record.{Record}
use Rattle.em_space.specs.Seen.{seen}
use Rattle.em_chain.specs.Reads.{Reads}
use Rattle.em_tree_load.proofs.AreaFroms.{drop_set, take_before}
use Rattle.em_tree_load.proofs.AreaReads.{read_one}
use Rattle.em_tree_load.proofs.filling.read_to.Goals as goal

pub returns-clause-kept : goal.returns-clause-kept
returns-clause-kept g c =
    ap (λ (xs : List Record). take c.args.from xs) c.put_item.ensures
    ∙ take_before c.args.from c.args.place c.args.area.now c.in-Some.item

pub returns-clause-puts : goal.returns-clause-puts
returns-clause-puts g c =
    let o = c.in_ok-item.ensures in
    let s = seen g.D.Device.state c.args.rig.now in
    let t = seen g.D.Device.state c.next.new.rig in
    let P : Option Record → Type 0 =
    λ y. IfSome y (λ x. Reads s t c.args.reader.now c.next.new.self x) in
    record {
      item = c.in-Some.item;
      read = read_one c.in-Some.item c.in_ok-item.field-0 c.requires.taking o.goes
          (subst P c.in-Some.is o.reads) o.costs o.spends;
      put = ap (λ (xs : List Record). drop c.args.from xs) c.put_item.ensures
          ∙ drop_set c.args.from c.args.place c.args.area.now c.in-Some.item;
    }
