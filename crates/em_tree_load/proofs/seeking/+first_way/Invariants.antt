use Rattle.em_tree_load.proofs.seeking.+first_way.Given as goal

abbrev pub decreases-first_way : goal.decreases-first_way
decreases-first_way g l = l.level
