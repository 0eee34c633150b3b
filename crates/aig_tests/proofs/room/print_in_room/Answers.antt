use Rattle.aig_tests.proofs.Making.{has_usual}
use Rattle.aig_tests.proofs.room.print_in_room.Goals as goal

pub tallied-tallied-requires-clause-has : goal.tallied-tallied-requires-clause-has
tallied-tallied-requires-clause-has c = has_usual _ _ _ c.in_ok-rig.ensures.opened
