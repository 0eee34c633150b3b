use Rattle.em_tree.proofs.settling.+settle_down.Given as goal

abbrev pub decreases-settle_down : goal.decreases-settle_down
decreases-settle_down g l = l.level
