use Rattle.std.proofs.Common.{◌≡◌, length}
use Rattle.em_space.specs.Seen.{seen}
use Rattle.em_tree_visits.specs.FirstVisits.{Visiting}
use Rattle.em_tree_visits.proofs.visiting.take_all_first.Given as goal

abbrev pub invariant-loop-count : goal.invariant-loop-count
invariant-loop-count g l =
    let settle = l.fn.settle in
    Visiting (g.S.Settle.key_of settle) (g.S.Settle.step_of settle) (g.S.Settle.IsOp settle)
    (g.S.Settle.IsKept settle) l.taken l.into (seen g.D.Device.state l.fn.rig)
    (seen g.D.Device.state l.rig) l.fn.trunk l.trunk × (length l.into ≡ length l.fn.into)

abbrev pub decreases-loop-count : goal.decreases-loop-count
decreases-loop-count g l = l.trunk.steps
