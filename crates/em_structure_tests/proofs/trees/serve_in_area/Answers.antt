use Rattle.em_structure_tests.proofs.Frames.{given_area_keeps, lent_area_has}
use Rattle.em_structure_tests.proofs.trees.serve_in_area.Goals as goal

pub serve-told-requires-clause-frames : goal.serve-told-requires-clause-frames
serve-told-requires-clause-frames g c =
    lent_area_has _ _ c.requires c.lend_area-area.ensures.sound c.lend_area-area.ensures.lent

pub returns : goal.returns
returns g c =
    given_area_keeps _ _ _ _ c.requires c.lend_area-area.ensures.lent c.serve-told.ensures.kept
    c.give_area.ensures.sound c.give_area.ensures.given
