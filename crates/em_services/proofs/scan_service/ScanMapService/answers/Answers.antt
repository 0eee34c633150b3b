use Rattle.em_space.specs.Seen.{seen}
use Rattle.em_services.proofs.Scanning.{map_full, map_items}
use Rattle.em_services.proofs.scan_service.ScanMapService.answers.Goals as goal

pub returns-clause-full : goal.returns-clause-full
returns-clause-full g c = λ before cs h.
    let f = c.finish.ensures in
    map_full (seen g.D.Device.state c.args.rig.now) (seen g.D.Device.state c.finish.new.rig) c.args.self
    c.requires.sound c.requires.is.0 before cs h c.finish.result f.full_if_few f.cause f.gives.touches.blocks

pub returns-clause-items : goal.returns-clause-items
returns-clause-items g c =
    map_items (seen g.D.Device.state c.args.rig.now) (seen g.D.Device.state c.finish.new.rig) c.args.self
    c.finish.result c.finish.ensures.answers
