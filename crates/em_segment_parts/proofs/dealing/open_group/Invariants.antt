use Rattle.em_space.specs.Seen.{seen}
use Rattle.em_segment_parts.specs.Deals.{OpensGroup}
use Rattle.em_segment_parts.proofs.dealing.open_group.Given as goal

abbrev pub invariant-loop : goal.invariant-loop
invariant-loop g l =
    OpensGroup l.counter (seen g.D.Device.state l.fn.rig) (seen g.D.Device.state l.rig) l.group
