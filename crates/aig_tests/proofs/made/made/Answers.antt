use Rattle.aig_tests.proofs.Making.{has_opened}
use Rattle.aig_tests.proofs.made.made.Goals as goal

pub tallied-tallied-requires-clause-has : goal.tallied-tallied-requires-clause-has
tallied-tallied-requires-clause-has c = has_opened _ _ _ c.in_ok-rig.ensures.opened
