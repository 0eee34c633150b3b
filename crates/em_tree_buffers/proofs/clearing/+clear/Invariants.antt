use Rattle.std.proofs.Common.{◌+◌, ◌*◌}
use Rattle.em_space.specs.Seen.{seen}
use Rattle.em_tree_buffers.specs.Loops.{Clearing, due_of}
use Rattle.em_tree_buffers.proofs.clearing.+clear.Given as goal

abbrev pub decreases-empty_full : goal.decreases-empty_full
decreases-empty_full g l = 3 * l.level + 2

abbrev pub decreases-clear_next : goal.decreases-clear_next
decreases-clear_next g l = 3 * l.level + 1

abbrev pub decreases-clear_entry : goal.decreases-clear_entry
decreases-clear_entry g l = 3 * l.level

abbrev pub invariant-empty_full-loop-from : goal.invariant-empty_full-loop-from
invariant-empty_full-loop-from g l =
    let settle = l.fn.settle in
    Clearing (g.S.Settle.key_of settle) (g.S.Settle.step_of settle) (g.S.Settle.IsOp settle)
    (g.S.Settle.IsKept settle) (due_of l.level l.fn.keys) l.left (seen g.D.Device.state l.fn.rig)
    (seen g.D.Device.state l.rig) l.fn.trunk l.trunk

abbrev pub decreases-empty_full-loop-from : goal.decreases-empty_full-loop-from
decreases-empty_full-loop-from g l = l.trunk.steps
