use Rattle.em_tree_load.proofs.removing.+release_way.Given as goal

abbrev pub decreases-release_way : goal.decreases-release_way
decreases-release_way g l = l.level
