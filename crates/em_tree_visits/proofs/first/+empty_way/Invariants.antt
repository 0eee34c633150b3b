use Rattle.em_tree_visits.proofs.first.+empty_way.Given as goal

abbrev pub decreases-empty_way : goal.decreases-empty_way
decreases-empty_way g l = l.level
