use Rattle.em_space.specs.Seen.{seen}
use Rattle.em_services.proofs.Rules.{both_still, ok_still}
use Rattle.em_services.proofs.ScanSyncs.{sync_gives, sync_is}
use Rattle.em_services.proofs.scan_service.ScanMapService.sync.Goals as goal

pub returns-clause-gives : goal.returns-clause-gives
returns-clause-gives g c = λ kind.
    sync_gives (seen g.D.Device.state c.args.rig.now) (seen g.D.Device.state c.sync.new.rig) c.args.self.now
    c.sync.new.self c.requires.sound c.requires.is.0 c.sync.result c.sync.ensures.syncs

pub returns-clause-is : goal.returns-clause-is
returns-clause-is g c =
    both_still _ _ c.sync.result
    (sync_is (seen g.D.Device.state c.args.rig.now) (seen g.D.Device.state c.sync.new.rig) c.args.self.now
    c.sync.new.self c.requires.sound c.requires.is.0 c.sync.result c.sync.ensures.syncs)
    (rw c.sync.ensures.settle c.requires.is.1)

pub returns-clause-share : goal.returns-clause-share
returns-clause-share g c = λ kind. ok_still _ c.sync.result (λ told before cs h. tt)
