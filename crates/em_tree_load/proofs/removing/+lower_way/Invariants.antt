use Rattle.em_tree_load.proofs.removing.+lower_way.Given as goal

abbrev pub decreases-lower_way : goal.decreases-lower_way
decreases-lower_way g l = l.level
