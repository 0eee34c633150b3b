use Rattle.std.proofs.Common.{◌≡◌, ◌≤◌, IsTrue}
use Rattle.em_space.specs.Seen.{seen}
use Rattle.em_chain.specs.Reader.{reader_items}
use Rattle.aig_edges.specs.Looks.{LooksPast}
use Rattle.aig_order.specs.LeftGates.{left_gate}
use Rattle.aig_order.proofs.ranking.rest_left.Given as goal

abbrev pub invariant-loop : goal.invariant-loop
invariant-loop g l =
    let first = seen g.D.Device.state l.fn.rig in
    let now = seen g.D.Device.state l.rig in
    LooksPast first now l.fn.reader l.reader l.counter
    × (IsTrue first.device.told → left_gate (reader_items first l.fn.reader)
    ≡ left_gate (reader_items now l.reader))
    × (l.counter ≤ l.count)
