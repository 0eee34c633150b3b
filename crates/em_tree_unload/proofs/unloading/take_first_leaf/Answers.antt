use Rattle.em_tree_unload.proofs.Unloads.{remove_can, unemptied, unloaded, unloads_of, unremoved}
use Rattle.em_tree_unload.proofs.unloading.take_first_leaf.Goals as goal

pub remove_empty-requires-clause-can : goal.remove_empty-requires-clause-can
remove_empty-requires-clause-can g c = remove_can c.requires.can c.in_ok-first.ensures

pub returns-in_err-first : goal.returns-in_err-first
returns-in_err-first g c =
    unloads_of _ _ c.args.root c.from_residual.result c.in_err-first.field-0.0 c.from_residual.ensures.1
    (unemptied c.in_err-first.ensures)

pub returns-in_err-more : goal.returns-in_err-more
returns-in_err-more g c =
    unloads_of _ _ c.args.root c.from_residual-in_err-more.result c.in_err-more.field-0.0
    c.from_residual-in_err-more.ensures.1
    (unremoved c.requires.can c.in_ok-first.ensures c.in_err-more.ensures)

pub returns : goal.returns
returns g c = unloaded c.requires.can c.in_ok-first.ensures c.in_ok-more.ensures
