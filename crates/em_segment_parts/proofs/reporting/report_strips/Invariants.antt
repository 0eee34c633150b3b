use Rattle.std.proofs.Common.{length}
use Rattle.em_space.specs.Seen.{seen}
use Rattle.em_segment_model.specs.Slabs.{slabs_from}
use Rattle.em_segment_parts.specs.Chains.{chains_in}
use Rattle.em_segment_parts.proofs.AllStrips.{StripsSoFar}
use Rattle.em_segment_parts.proofs.reporting.report_strips.Given as goal

abbrev pub invariant-loop-k : goal.invariant-loop-k
invariant-loop-k g l =
    StripsSoFar (slabs_from 0 (length l.strips)) l.k (seen g.D.Device.state l.fn.rig)
    (seen g.D.Device.state l.rig) (chains_in l.strips) (chains_in l.lists) l.fn.pairs l.pairs
