use Rattle.em_tree_visits.proofs.Arrival.{finds_leaf_of, leaf_finds, step_fits}
use Rattle.em_tree_visits.proofs.visiting.find_leaf.Goals as goal

pub returns-in_err-take_step : goal.returns-in_err-take_step
returns-in_err-take_step g c =
    finds_leaf_of _ _ _ c.from_residual.result c.in_err-take_step.field-0.0 c.from_residual.ensures.1
    c.in_err-take_step.ensures

pub first_leaf-requires-clause-can : goal.first_leaf-requires-clause-can
first_leaf-requires-clause-can g c = step_fits c.in_ok-take_step.ensures c.requires.can

pub returns : goal.returns
returns g c = leaf_finds _ _ _ _ c.in_ok-take_step.ensures c.first_leaf.result c.first_leaf.ensures
