use Rattle.std.proofs.Common.{◌-◌, List, rules, ap, refl}
use Rattle.std.proofs.lemmas.Bool.{false≢true}
use Rattle.em_record.specs.declared.record.Record.{Record}
use Rattle.em_space.specs.Free.{header}
use Rattle.em_space.specs.Seen.{seen}
use Rattle.em_space.proofs.Held.{in_use_below}
use Rattle.em_space.proofs.Steps.{untold_by}
use Rattle.em_chain.specs.Reader.{LeadsOn}
use Rattle.em_chain.proofs.Readers.{last_is, leads_is}
use Rattle.em_chain.proofs.reader.Reader.last.Goals as goal

pub returns-then-not-leads_on-clause-cause : goal.returns-then-not-leads_on-clause-cause
returns-then-not-leads_on-clause-cause g c =
    let s = seen g.D.Device.state c.args.rig.now in
    let r = c.args.self.now in
    let i = c.requires.last.ready in
    let h = ap (λ (xs : List Record). (header xs).a) c.records.ensures in (
      untold_by _ (λ y.
          let d = leads_is s r i.is i.loaded y c.requires.last.last in
          let d2 : LeadsOn _ r.blocks r.count r.taking = rw (← h) at d in
          false≢true (c.if-not-leads_on.ensures.complete i.loaded.blocks d2)),
      in_use_below s (r.head - 1) c.requires.sound i.loaded.in_use,
    )

pub returns-clause-reads : goal.returns-clause-reads
returns-clause-reads g c =
    let s = seen g.D.Device.state c.args.rig.now in
    let t = seen g.D.Device.state c.let_go.new.rig in
    let i = c.requires.last.ready in
    let h = ap (λ (xs : List Record). (header xs).a) c.records.ensures in
    last_is s t c.args.self.now _ _ i.is i.loaded c.requires.last.last (rw (← h) (record {
      some = λ y. (c.if_left-self.ensures.some y, c.if_left-self-2.ensures.some y);
      none = λ y. (c.if_left-self.ensures.none y, c.if_left-self-2.ensures.none y);
    })) c.let_go.ensures.goes.touches (search rules) (c.if-not-leads_on.ensures.none_left refl)
