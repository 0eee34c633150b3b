use Rattle.std.proofs.Common.{arith}
use Rattle.em_space.specs.Seen.{seen}
use Rattle.em_trunk.proofs.Planted.{plants_err, plants_last}
use Rattle.em_trunk.proofs.planting.plant_in.Goals as goal

pub returns-in_err-leaf-clause-plants : goal.returns-in_err-leaf-clause-plants
returns-in_err-leaf-clause-plants g c =
    plants_err c.from_residual.result _ c.from_residual.ensures.1 c.in_err-leaf.ensures

pub returns-clause-plants : goal.returns-clause-plants
returns-clause-plants g c =
    let long = c.requires.sound.shape in
    plants_last {s = seen g.D.Device.state c.args.rig.now}
    (seen g.D.Device.state c.store_new-2.new.rig) _ c.store_new-2.result
    (omega (arith, long.block_low, c.requires.len)) c.in_ok-leaf.ensures c.put_leaf.ensures.is
    c.empty.ensures c.put_first.ensures.is c.store_new-2.ensures
