use Rattle.em_tree_raise.proofs.raising.+raise_from.Given as goal

abbrev pub decreases-raise_from : goal.decreases-raise_from
decreases-raise_from g l = l.list.count
