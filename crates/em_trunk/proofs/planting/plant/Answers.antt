use Rattle.std.proofs.Common.{arith}
use Rattle.em_trunk.proofs.Planted.{plants_framed}
use Rattle.em_trunk.proofs.planting.plant.Goals as goal

pub returns : goal.returns
returns g c =
    plants_framed _ c.plant_in-root.result c.requires.sound (omega (arith, c.requires.free))
    c.lend-frame.ensures.lent c.plant_in-root.ensures.plants c.give.ensures.given
