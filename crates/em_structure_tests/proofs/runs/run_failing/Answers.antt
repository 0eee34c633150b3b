use Rattle.std.proofs.Common.{refl}
use Rattle.em_structure_tests.proofs.Frames.{opened_has, whole_again}
use Rattle.em_structure_tests.proofs.runs.run_failing.Goals as goal

pub serve-told-requires : goal.serve-told-requires
serve-told-requires c = opened_has _ _ _ _ refl c.in_ok-rig.ensures.opened

pub ended-requires : goal.ended-requires
ended-requires c = whole_again _ _ _ _ _ c.in_ok-rig.ensures.opened c.serve-told.ensures
