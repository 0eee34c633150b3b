use Rattle.em_structure_tests.proofs.StabKeeps.{can_finish, list_beside}
use Rattle.em_structure_tests.proofs.stabs.finish.Goals as goal

pub finish-requires-clause-is : goal.finish-requires-clause-is
finish-requires-clause-is g c = (list_beside c.requires.ready.is c.in-Ok.ensures.lends).is

pub finish-requires-clause-can : goal.finish-requires-clause-can
finish-requires-clause-can g c =
    let n = c.in-Ok.ensures in
    can_finish c.requires.ready.serves c.requires.free c.requires.ready.is n.lends n.blocks n.counts
