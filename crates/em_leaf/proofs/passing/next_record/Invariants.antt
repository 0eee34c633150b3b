use Rattle.std.proofs.Common.{◌+◌, ◌-◌, [], length}
use Rattle.em_space.specs.Seen.{seen}
use Rattle.em_leaf.specs.Front.{pass_steps}
use Rattle.em_leaf.specs.Passing.{Passing, answers_most}
use Rattle.em_leaf.proofs.passing.next_record.Given as goal

abbrev pub invariant-loop-item : goal.invariant-loop-item
invariant-loop-item g l =
    Passing (answers_most (seen g.D.Device.state l.fn.rig) l.fn.answers
    (length l.ops - l.fn.front.settled) + l.fn.reader.blocks) (g.S.Settle.key_of l.settle)
    (g.S.Settle.step_of l.settle) l.ops (seen g.D.Device.state l.fn.rig)
    (seen g.D.Device.state l.rig) l.fn.reader l.reader l.fn.answers l.answers l.fn.front l.front []

abbrev pub decreases-loop-item : goal.decreases-loop-item
decreases-loop-item g l = pass_steps l.front l.reader.count (length l.ops)
