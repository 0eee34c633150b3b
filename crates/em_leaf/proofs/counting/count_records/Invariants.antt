use Rattle.std.proofs.Common.{length}
use Rattle.em_space.specs.Seen.{seen}
use Rattle.em_leaf.specs.Front.{pass_steps}
use Rattle.em_leaf.proofs.Counted.{Counting}
use Rattle.em_leaf.proofs.counting.count_records.Given as goal

abbrev pub invariant-loop-count : goal.invariant-loop-count
invariant-loop-count g l =
    Counting (g.S.Settle.key_of l.settle) (g.S.Settle.step_of l.settle) l.ops
    (seen g.D.Device.state l.fn.rig)
    (seen g.D.Device.state l.rig) l.fn.reader l.reader l.front l.count

abbrev pub decreases-loop-count : goal.decreases-loop-count
decreases-loop-count g l = pass_steps l.front l.reader.count (length l.ops)
