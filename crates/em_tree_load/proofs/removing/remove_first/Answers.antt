use Rattle.em_tree_load.proofs.FirstTaken.{can_drop, first_way_left, fork_unstored, gone_kept, gone_way, removes_first, removes_of}
use Rattle.em_tree_load.proofs.removing.remove_first.Goals as goal

pub drop_first-requires-clause-can : goal.drop_first-requires-clause-can
drop_first-requires-clause-can g c = can_drop c.requires.can

pub returns-in_err-dropped : goal.returns-in_err-dropped
returns-in_err-dropped g c =
    removes_of _ _ c.args.fork.level c.args.fork.block c.from_residual.result
    c.in_err-dropped.field-0.0 c.from_residual.ensures.1
    (fork_unstored c.args.fork.level c.args.fork.block c.requires.above c.in_err-dropped.ensures)

pub release_way-requires-clause-can : goal.release_way-requires-clause-can
release_way-requires-clause-can g c =
    gone_way c.args.fork.level c.args.fork.block c.requires.above c.requires.can
    c.in_ok-dropped.ensures

pub returns-in_err-release_way : goal.returns-in_err-release_way
returns-in_err-release_way g c =
    removes_of _ _ c.args.fork.level c.args.fork.block c.from_residual-in_err-release_way.result
    c.in_err-release_way.field-0.0 c.from_residual-in_err-release_way.ensures.1
    (gone_kept c.args.fork.level c.args.fork.block c.requires.above c.requires.can
    c.in_ok-dropped.ensures c.in_err-release_way.ensures)

pub lower_way-requires-clause-can : goal.lower_way-requires-clause-can
lower_way-requires-clause-can g c =
    first_way_left c.args.fork.level c.args.fork.block c.requires.above c.requires.can
    c.in_ok-dropped.ensures c.in_ok-release_way.ensures

pub returns : goal.returns
returns g c =
    removes_first c.args.fork.level c.args.fork.block _ c.lower_way.result c.requires.above
    c.requires.can c.in_ok-dropped.ensures c.in_ok-release_way.ensures c.lower_way.ensures
