use Rattle.em_tree_load.proofs.Alterations.{new_of, new_stops, new_stored, unallotted}
use Rattle.em_tree_load.proofs.leaf_block.store_new_leaf.Goals as goal

pub returns-in_err-block : goal.returns-in_err-block
returns-in_err-block g c =
    let o = c.in_err-block.ensures in
    new_of _ _ _ c.from_residual.result _ c.from_residual.ensures.1
    (unallotted o.goes o.moves o.owes o.cause o.same)

pub returns-in_err-store_leaf : goal.returns-in_err-store_leaf
returns-in_err-store_leaf g c =
    let o = c.in_ok-block.ensures in
    new_of _ _ _ c.from_residual-in_err-store_leaf.result _
    c.from_residual-in_err-store_leaf.ensures.1
    (new_stops o.goes o.given o.moves o.owes o.most c.in_err-store_leaf.ensures)

pub returns : goal.returns
returns g c =
    let o = c.in_ok-block.ensures in
    new_stored o.goes o.given o.moves o.owes o.most c.args.stored.now c.in_ok-store_leaf.ensures
