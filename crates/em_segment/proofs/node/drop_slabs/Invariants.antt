use Rattle.std.proofs.Common.{length}
use Rattle.em_space.specs.Seen.{seen}
use Rattle.em_segment_parts.proofs.Dropping.{DropsSome}
use Rattle.em_segment.proofs.node.drop_slabs.Given as goal

abbrev pub invariant-loop-last : goal.invariant-loop-last
invariant-loop-last g l =
    DropsSome (seen g.D.Device.state l.fn.rig) (seen g.D.Device.state l.rig) l.fn.slabs.items
    l.slabs.items

abbrev pub decreases-loop-last : goal.decreases-loop-last
decreases-loop-last g l = length l.slabs.items
