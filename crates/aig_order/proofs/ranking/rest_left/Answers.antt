use Rattle.std.proofs.Common.{◌≡◌, ℕ, Option, Result}
use Rattle.em_space.specs.Seen.{seen}
use Rattle.em_space.specs.declared.fault.EmFault.{EmFault}
use Rattle.em_chain.specs.Reader.{owed, reader_items}
use Rattle.aig_edges.specs.Looks.{LooksAll}
use Rattle.aig_edges.proofs.Looks.{of_fault, past_stops}
use Rattle.aig_order.specs.LeftGates.{left_gate}
use Rattle.aig_order.proofs.ranking.rest_left.Goals as goal

pub returns-in_err-item-clause-done : goal.returns-in_err-item-clause-done
returns-in_err-item-clause-done g c =
    let first = seen g.D.Device.state c.args.rig.now in
    of_fault (λ (r : Result (Option ℕ) EmFault). LooksAll (owed c.args.reader.now) first
    (seen g.D.Device.state c.next_record.new.rig)
    (λ (b : Option ℕ). b ≡ left_gate (reader_items first c.args.reader.now)) r) _ _
    c.from_residual.ensures.1 (past_stops c.loop.invariant.0 c.in_err-item.ensures.done)
