use Rattle.std.proofs.Common.{take}
use Rattle.em_space.specs.Seen.{seen}
use Rattle.em_segment_model.specs.Loads.{late_pairs}
use Rattle.em_segment_parts.specs.Pairs.{WritesPairs}
use Rattle.em_segment_parts.proofs.listing.add_late.Given as goal

abbrev pub invariant-loop-k : goal.invariant-loop-k
invariant-loop-k g l =
    WritesPairs 0 (seen g.D.Device.state l.fn.rig) (seen g.D.Device.state l.rig) l.fn.pairs l.pairs
    (late_pairs (take l.k l.load) l.number)
