use Rattle.em_tree_trim.proofs.Trimmed.{list_can, trims, untrims}
use Rattle.em_tree_trim.proofs.trimming.trim_tree.Goals as goal

pub returns-in_err-list : goal.returns-in_err-list
returns-in_err-list g c =
    untrims _ _ _ _ c.from_residual.result _ c.from_residual.ensures.1 c.in_err-list.ensures

pub raise-requires-clause-can : goal.raise-requires-clause-can
raise-requires-clause-can g c = list_can c.requires.sound c.requires.can c.in_ok-list.ensures

pub returns : goal.returns
returns g c = trims c.requires.sound c.requires.can c.in_ok-list.ensures _ c.raise.result c.raise.ensures
