use Rattle.em_bulk.proofs.TwoListed.{join_by, join_is, joined_err}
use Rattle.em_bulk.proofs.ending.list_joined.Goals as goal

pub returns-in_err-both-clause-lists : goal.returns-in_err-both-clause-lists
returns-in_err-both-clause-lists g c =
    joined_err c.requires.sound c.requires.can c.args.before c.args.before _ _ c.from_residual.result _ c.from_residual.ensures.1
    c.in_err-both.ensures

pub list_leaf-requires-clause-is : goal.list_leaf-requires-clause-is
list_leaf-requires-clause-is g c =
    join_is c.requires.sound c.requires.can c.args.before c.args.before c.in_ok-both.ensures

pub returns-clause-lists : goal.returns-clause-lists
returns-clause-lists g c =
    join_by c.requires.sound c.requires.can _ c.args.before c.in_ok-both.ensures _ _ c.list_leaf.result
    c.list_leaf.ensures.lists
