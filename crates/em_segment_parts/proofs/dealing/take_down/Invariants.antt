use Rattle.em_space.specs.Seen.{seen}
use Rattle.em_segment_parts.proofs.ListsTaken.{TakenSoFar}
use Rattle.em_segment_parts.proofs.dealing.take_down.Given as goal

abbrev pub invariant-loop : goal.invariant-loop
invariant-loop g l =
    TakenSoFar l.counter (seen g.D.Device.state l.fn.rig) (seen g.D.Device.state l.rig) l.fn.group
    l.group l.down.items
