use Rattle.em_tree_unload.proofs.RemovedEmpty.{can_by, fork_can, fork_kept, fork_removed, lone_can, lone_kept, lone_released, removes_of}
use Rattle.em_tree_unload.proofs.unloading.remove_empty.Goals as goal

pub remove_first-requires-clause-can : goal.remove_first-requires-clause-can
remove_first-requires-clause-can g c = fork_can (can_by c.requires.can c.in-Some.is)

pub returns-in_err-remove_first-in-Some : goal.returns-in_err-remove_first-in-Some
returns-in_err-remove_first-in-Some g c =
    removes_of _ _ c.args.root c.from_residual.result c.in_err-remove_first-in-Some.field-0.0
    c.from_residual.ensures.1
    (fork_kept (can_by c.requires.can c.in-Some.is) c.in_err-remove_first-in-Some.ensures)

pub returns-in_ok-remove_first-in-Some : goal.returns-in_ok-remove_first-in-Some
returns-in_ok-remove_first-in-Some g c =
    fork_removed (can_by c.requires.can c.in-Some.is) c.in_ok-remove_first-in-Some.ensures

pub release_tree-requires-clause-can : goal.release_tree-requires-clause-can
release_tree-requires-clause-can g c = lone_can (can_by c.requires.can c.in-None.is)

pub returns-in_err-release_tree-in-None : goal.returns-in_err-release_tree-in-None
returns-in_err-release_tree-in-None g c =
    removes_of _ _ c.args.root c.from_residual-in_err-release_tree-in-None.result
    c.in_err-release_tree-in-None.field-0.0 c.from_residual-in_err-release_tree-in-None.ensures.1
    (lone_kept (can_by c.requires.can c.in-None.is) c.in_err-release_tree-in-None.ensures)

pub returns-in_ok-release_tree-in-None : goal.returns-in_ok-release_tree-in-None
returns-in_ok-release_tree-in-None g c =
    lone_released (can_by c.requires.can c.in-None.is) c.in_ok-release_tree-in-None.ensures
