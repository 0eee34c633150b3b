use Rattle.em_tree_visits.proofs.LeavingExits.{fork_leads_of, fork_of, leaves_err, lone_of, whole_all}
use Rattle.em_tree_visits.proofs.LeavingSteps.{empty_stopped, fork_can, leaf_can, leaf_emptied, leaf_removed, lone_can, remove_stopped, take_stopped}
use Rattle.em_tree_visits.proofs.leaving.take_whole.Goals as goal

pub take_leaf-requires-clause-can : goal.take_leaf-requires-clause-can
take_leaf-requires-clause-can g c = leaf_can c.requires.can.can

pub returns-in_err-count-clause-leaves : goal.returns-in_err-count-clause-leaves
returns-in_err-count-clause-leaves g c =
    leaves_err _ _ c.args.taken c.from_residual.result c.in_err-count.field-0.0 c.from_residual.ensures.1
    (take_stopped c.requires.can.can c.in_err-count.ensures.takes)

pub remove_first-requires-clause-can : goal.remove_first-requires-clause-can
remove_first-requires-clause-can g c =
    let can = c.requires.can.can in
    let took = c.in_ok-count.ensures.takes in
    fork_can can took (whole_all c.requires.can took) c.in-Some.fork (fork_leads_of can c.in-Some.fork c.in-Some.is)
    (fork_of can c.in-Some.fork c.in-Some.is)

pub returns-in_err-remove_first-in-Some-clause-leaves : goal.returns-in_err-remove_first-in-Some-clause-leaves
returns-in_err-remove_first-in-Some-clause-leaves g c =
    let can = c.requires.can.can in
    let took = c.in_ok-count.ensures.takes in
    leaves_err _ _ c.args.taken c.from_residual-in_err-remove_first-in-Some.result c.in_err-remove_first-in-Some.field-0.0
    c.from_residual-in_err-remove_first-in-Some.ensures.1
    (remove_stopped can took (whole_all c.requires.can took) c.in-Some.fork
    (fork_leads_of can c.in-Some.fork c.in-Some.is) (fork_of can c.in-Some.fork c.in-Some.is)
    c.in_err-remove_first-in-Some.ensures)

pub returns-in_ok-remove_first-in-Some-clause-leaves : goal.returns-in_ok-remove_first-in-Some-clause-leaves
returns-in_ok-remove_first-in-Some-clause-leaves g c =
    let can = c.requires.can.can in
    let took = c.in_ok-count.ensures.takes in
    leaf_removed can took (whole_all c.requires.can took) c.in-Some.fork
    (fork_leads_of can c.in-Some.fork c.in-Some.is) (fork_of can c.in-Some.fork c.in-Some.is)
    c.in_ok-remove_first-in-Some.ensures c.requires.few c.requires.can.fits

pub empty_tree-requires-clause-can : goal.empty_tree-requires-clause-can
empty_tree-requires-clause-can g c =
    let can = c.requires.can.can in
    let took = c.in_ok-count.ensures.takes in
    lone_can can took (whole_all c.requires.can took) (lone_of can c.in-None.is)

pub returns-in_err-block-in-None-clause-leaves : goal.returns-in_err-block-in-None-clause-leaves
returns-in_err-block-in-None-clause-leaves g c =
    let can = c.requires.can.can in
    let took = c.in_ok-count.ensures.takes in
    leaves_err _ _ c.args.taken c.from_residual-in_err-block-in-None.result c.in_err-block-in-None.field-0.0
    c.from_residual-in_err-block-in-None.ensures.1
    (empty_stopped can took (whole_all c.requires.can took) (lone_of can c.in-None.is) c.in_err-block-in-None.ensures)

pub returns-in_ok-block-in-None-clause-leaves : goal.returns-in_ok-block-in-None-clause-leaves
returns-in_ok-block-in-None-clause-leaves g c =
    let can = c.requires.can.can in
    let took = c.in_ok-count.ensures.takes in
    leaf_emptied can took (whole_all c.requires.can took) (lone_of can c.in-None.is) c.requires.few
    c.requires.can.fits c.in_ok-block-in-None.ensures
