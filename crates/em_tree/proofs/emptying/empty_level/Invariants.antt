use Rattle.em_space.specs.Seen.{seen}
use Rattle.em_tree.specs.Levels.{EmptyingLevel}
use Rattle.em_tree.proofs.emptying.empty_level.Given as goal

abbrev pub invariant-loop-from : goal.invariant-loop-from
invariant-loop-from g l =
    let settle = l.fn.settle in
    EmptyingLevel (g.S.Settle.key_of settle) (g.S.Settle.step_of settle) (g.S.Settle.IsOp settle)
    (g.S.Settle.IsKept settle) l.level l.left (seen g.D.Device.state l.fn.rig)
    (seen g.D.Device.state l.rig) l.fn.trunk l.trunk

abbrev pub decreases-loop-from : goal.decreases-loop-from
decreases-loop-from g l = l.trunk.steps
