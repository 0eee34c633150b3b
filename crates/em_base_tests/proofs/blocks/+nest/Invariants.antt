use Rattle.em_base_tests.proofs.blocks.+nest.Given as goal

abbrev pub decreases-nest : goal.decreases-nest
decreases-nest g l = l.count
