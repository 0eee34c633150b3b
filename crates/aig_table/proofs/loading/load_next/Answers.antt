use Rattle.std.proofs.Common.{subst, Option, IfSome}
use Rattle.em_record.specs.declared.record.Record.{Record}
use Rattle.em_space.specs.Seen.{seen}
use Rattle.em_chain.specs.Reads.{Reads}
use Rattle.aig_edges.proofs.Looks.{of_fault}
use Rattle.aig_table.specs.Loads.{LoadsTo}
use Rattle.aig_table.proofs.Loaded.{loads_one, loads_refused}
use Rattle.aig_table.proofs.loading.load_next.Goals as goal

pub returns-in_err-item-clause-loads : goal.returns-in_err-item-clause-loads
returns-in_err-item-clause-loads g c =
    let e = c.in_err-item.ensures in
    of_fault (λ r. LoadsTo c.args.from 1 (seen g.D.Device.state c.args.rig.now)
    (seen g.D.Device.state c.next.new.rig) c.args.reader.now c.next.new.self c.args.table.now c.args.table.now r)
    _ _ c.from_residual.ensures.1 (loads_refused c.args.reader.now c.requires.taking e.goes (e.spends c.requires.taking) e.cause)

pub returns-clause-loads : goal.returns-clause-loads
returns-clause-loads g c =
    let e = c.in_ok-item.ensures in
    let s = seen g.D.Device.state c.args.rig.now in
    let t = seen g.D.Device.state c.next.new.rig in
    let P : Option Record → Type 0 =
    λ y. IfSome y (λ x. Reads s t c.args.reader.now c.next.new.self x) in
    loads_one c.args.from c.low_bit.result c.low_bit.ensures.is c.requires.taking e.goes
    (subst P c.in-Some.is e.reads) (e.spends c.requires.taking) c.and_in.ensures.ands
