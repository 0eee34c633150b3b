use Rattle.em_bulk.proofs.NonePlanted.{none_planted, none_unplanted}
use Rattle.em_bulk.proofs.builder.Builder.plant_none.Goals as goal

pub returns-in_err-block : goal.returns-in_err-block
returns-in_err-block g c =
    none_unplanted c.requires.sound c.requires.is c.requires.none c.abandon.ensures c.from_residual.result _
    c.from_residual.ensures.1 c.in_err-block.ensures

pub returns : goal.returns
returns g c =
    none_planted c.requires.sound c.requires.is c.requires.none c.abandon.ensures c.in_ok-block.ensures
