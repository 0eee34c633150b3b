use Rattle.std.proofs.Common.{arith}
use Rattle.em_tree_visits.proofs.LeavingExits.{empties_err, plants_after}
use Rattle.em_tree_visits.proofs.leaving.empty_tree.Goals as goal

pub returns-in_err-release_tree : goal.returns-in_err-release_tree
returns-in_err-release_tree g c =
    empties_err c.from_residual.result c.in_err-release_tree.field-0.0 c.from_residual.ensures.1
    c.in_err-release_tree.ensures

pub plant-requires-clause-free : goal.plant-requires-clause-free
plant-requires-clause-free g c =
    let same = c.in_ok-release_tree.ensures.frames.free in
    omega (arith, c.requires.free, same)

pub returns : goal.returns
returns g c = plants_after c.in_ok-release_tree.ensures _ c.plant.result c.plant.ensures
