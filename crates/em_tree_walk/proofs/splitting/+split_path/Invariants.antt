use Rattle.em_tree_walk.proofs.splitting.+split_path.Given as goal

abbrev pub decreases-split_path : goal.decreases-split_path
decreases-split_path g l = l.level
