use Rattle.std.proofs.Common.{◌≡◌, ◌≤◌, IsTrue, None}
use Rattle.em_space.specs.Seen.{seen}
use Rattle.em_chain.specs.Reader.{reader_items}
use Rattle.aig_edges.specs.Looks.{LooksPast}
use Rattle.aig_edges.specs.Repeats.{first_repeat}
use Rattle.aig_edges.proofs.looking.rest_repeats.Given as goal

abbrev pub invariant-loop : goal.invariant-loop
invariant-loop g l =
    let first = seen g.D.Device.state l.fn.rig in
    let now = seen g.D.Device.state l.rig in
    LooksPast first now l.fn.reader l.reader l.counter
    × (IsTrue first.device.told → first_repeat None (reader_items first l.fn.reader)
    ≡ first_repeat l.before (reader_items now l.reader))
    × (l.counter ≤ l.count)
