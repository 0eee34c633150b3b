use Rattle.em_tree_raise.proofs.Levels.{level_first}
use Rattle.em_tree_raise.proofs.RaisedTrees.{raises_all}
use Rattle.em_tree_raise.proofs.raising.raise.Goals as goal

pub raise_from-requires-clause-level : goal.raise_from-requires-clause-level
raise_from-requires-clause-level g c = level_first c.args.list.count c.requires.can.chain.count_most

pub returns : goal.returns
returns g c = raises_all _ c.requires.can c.raise_from.result c.raise_from.ensures
