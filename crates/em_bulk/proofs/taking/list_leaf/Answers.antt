use Rattle.em_tree_trim.proofs.LeafListings.{lists_leaf, unlists_leaf, writer_beside}
use Rattle.em_bulk.proofs.taking.list_leaf.Goals as goal

pub returns-in_err-block-clause-lists : goal.returns-in_err-block-clause-lists
returns-in_err-block-clause-lists g c =
    unlists_leaf _ _ _ _ _ _ c.from_residual.result _ c.from_residual.ensures.1 c.in_err-block.ensures

pub list_subtree-requires-clause-is : goal.list_subtree-requires-clause-is
list_subtree-requires-clause-is g c = (writer_beside c.requires.is c.in_ok-block.ensures).is

pub returns-clause-lists : goal.returns-clause-lists
returns-clause-lists g c =
    lists_leaf _ _ _ _ _ _ _ _ c.list_subtree.result c.requires.sound c.requires.is c.in_ok-block.ensures
    c.list_subtree.ensures.lists c.list_subtree.ensures.costs
