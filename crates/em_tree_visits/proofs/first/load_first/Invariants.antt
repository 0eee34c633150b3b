use Rattle.em_space.specs.Seen.{seen}
use Rattle.em_tree_visits.specs.Visits.{LoadingFirst}
use Rattle.em_tree_visits.proofs.first.load_first.Given as goal

abbrev pub invariant-loop : goal.invariant-loop
invariant-loop g l =
    let settle = l.fn.settle in
    LoadingFirst (g.S.Settle.key_of settle) (g.S.Settle.step_of settle) (g.S.Settle.IsOp settle)
    (g.S.Settle.IsKept settle) (seen g.D.Device.state l.fn.rig) (seen g.D.Device.state l.rig) l.fn.trunk
    l.trunk

abbrev pub decreases-loop : goal.decreases-loop
decreases-loop g l = l.trunk.steps
