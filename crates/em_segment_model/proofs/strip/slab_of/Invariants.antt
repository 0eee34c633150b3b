use Rattle.em_segment_model.specs.Spans.{interval_at}
use Rattle.em_segment_model.proofs.Steps.{SlabSoFar}
use Rattle.em_segment_model.proofs.strip.slab_of.Given as goal

abbrev pub invariant-loop-k : goal.invariant-loop-k
invariant-loop-k l = SlabSoFar l.strips l.k (interval_at l.low l.high) l.first l.width
