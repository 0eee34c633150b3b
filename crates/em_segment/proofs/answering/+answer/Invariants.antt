use Rattle.std.proofs.Common.{◌+◌, ◌*◌}
use Rattle.em_space.specs.Seen.{seen}
use Rattle.em_segment.proofs.BelowRuns.{BelowSoFar}
use Rattle.em_segment.proofs.answering.+answer.Given as goal

-- a strip has fewer points than its node
abbrev pub decreases-answer : goal.decreases-answer
decreases-answer g l = 3 * l.points.count

abbrev pub decreases-answer_below : goal.decreases-answer_below
decreases-answer_below g l = 3 * l.most + 2

abbrev pub decreases-answer_last : goal.decreases-answer_last
decreases-answer_last g l = 3 * l.most + 1

abbrev pub invariant-answer_below-loop : goal.invariant-answer_below-loop
invariant-answer_below-loop g l =
    BelowSoFar l.most l.counter (seen g.D.Device.state l.fn.rig) (seen g.D.Device.state l.rig) l.fn.below
    l.below l.fn.pairs l.pairs
