use Rattle.std.specs.Prelude.{◌++◌}
use Rattle.em_space.specs.Seen.{seen}
use Rattle.em_services.proofs.Scanning.{stab_full}
use Rattle.em_services.proofs.scan_service.ScanStabService.answers.Goals as goal

pub returns-clause-full : goal.returns-clause-full
returns-clause-full g c = λ before cs h.
    let f = c.finish.ensures in
    stab_full (seen g.D.Device.state c.args.rig.now) (seen g.D.Device.state c.finish.new.rig) c.args.self.list
    c.requires.sound c.requires.is (before ++ cs) h c.finish.result f.full_if_few f.cause f.gives.touches.blocks
