use Rattle.std.proofs.Common.{◌≡◌, length}
use Rattle.em_space.specs.Seen.{seen}
use Rattle.em_segment_parts.specs.Chains.{chains_in}
use Rattle.em_segment_parts.proofs.StripLoads.{LoadsSoFar}
use Rattle.em_segment_parts.proofs.reporting.report_loads.Given as goal

abbrev pub invariant-loop-left : goal.invariant-loop-left
invariant-loop-left g l =
    LoadsSoFar (length l.fn.area) l.slabs l.k l.count l.left (seen g.D.Device.state l.fn.rig)
    (seen g.D.Device.state l.rig) l.fn.reader l.reader (chains_in l.lists) l.fn.pairs l.pairs
    × (length l.area ≡ length l.fn.area)

abbrev pub decreases-loop-left : goal.decreases-loop-left
decreases-loop-left g l = l.left
