use Rattle.em_space.specs.Seen.{seen}
use Rattle.em_segment_parts.specs.Chains.{chains_in}
use Rattle.em_segment_parts.proofs.Multislabs.{FrontSoFar}
use Rattle.em_segment_parts.proofs.reporting.report_load.Given as goal

abbrev pub invariant-loop-place : goal.invariant-loop-place
invariant-loop-place g l =
    FrontSoFar l.slabs l.k l.load l.place (seen g.D.Device.state l.fn.rig)
    (seen g.D.Device.state l.rig) (chains_in l.lists) l.fn.pairs l.pairs
