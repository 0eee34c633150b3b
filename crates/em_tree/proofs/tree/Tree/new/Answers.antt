use Rattle.em_tree.proofs.NewTree.{fresh_is_new}
use Rattle.em_tree.proofs.tree.Tree.new.Goals as goal

pub returns-clause-makes : goal.returns-clause-makes
returns-clause-makes g c = fresh_is_new _ _ _ c.in_ok-trunk.ensures
