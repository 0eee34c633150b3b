use Rattle.em_tree_unload.proofs.Emptied.{can_find, empties_of, first_emptied, first_unfound, first_unstored}
use Rattle.em_tree_unload.proofs.unloading.empty_first.Goals as goal

pub first_leaf-requires-clause-can : goal.first_leaf-requires-clause-can
first_leaf-requires-clause-can g c = can_find c.requires.can

pub returns-in_err-first : goal.returns-in_err-first
returns-in_err-first g c =
    empties_of _ _ c.args.root c.from_residual.result c.in_err-first.field-0.0 c.from_residual.ensures.1
    (first_unfound c.in_err-first.ensures)

pub returns-in_err-store_leaf : goal.returns-in_err-store_leaf
returns-in_err-store_leaf g c =
    empties_of _ _ c.args.root c.from_residual-in_err-store_leaf.result c.in_err-store_leaf.field-0.0
    c.from_residual-in_err-store_leaf.ensures.1
    (first_unstored c.requires.can c.in_ok-first.ensures c.in_err-store_leaf.ensures)

pub returns : goal.returns
returns g c = first_emptied c.requires.can c.in_ok-first.ensures c.empty.ensures c.in_ok-store_leaf.ensures
