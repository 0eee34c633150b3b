use Rattle.em_space.specs.Seen.{seen}
use Rattle.em_services.proofs.Batching.{take_moves, take_cause, take_full, take_goes, take_is, take_room, take_size}
use Rattle.em_services.proofs.Rules.{both_still}
use Rattle.em_services.proofs.batch_service.BatchService.take.Goals as goal

pub returns-clause-moves : goal.returns-clause-moves
returns-clause-moves g c =
    take_moves c.args.command (seen g.D.Device.state c.args.rig.now) (seen g.D.Device.state c.give_batch.new.rig)
    c.args.self.now c.give_batch.new.batch c.requires.sound c.give_batch.ensures.counts

pub returns-clause-room : goal.returns-clause-room
returns-clause-room g c =
    take_room (seen g.D.Device.state c.args.rig.now) (seen g.D.Device.state c.give_batch.new.rig)
    c.args.self.now c.requires.is.0 c.requires.sound c.give_batch.ensures.room

pub returns-clause-full : goal.returns-clause-full
returns-clause-full g c =
    let s = seen g.D.Device.state c.args.rig.now in
    let t = seen g.D.Device.state c.give_batch.new.rig in
    let e = c.give_batch.ensures in
    take_full s t c.args.self.now c.requires.is.0 c.requires.sound c.give_batch.result e.over
    (take_cause _ c.args.command s t c.args.self.now c.give_batch.new.batch c.give_batch.result e.takes)
    (take_goes _ c.args.command s t c.args.self.now c.give_batch.new.batch c.give_batch.result
    e.takes).touches.blocks

pub returns-clause-is : goal.returns-clause-is
returns-clause-is g c =
    both_still _ _ c.give_batch.result
    (take_is _ c.args.command (seen g.D.Device.state c.args.rig.now) (seen g.D.Device.state c.give_batch.new.rig)
    c.args.self.now c.give_batch.new.batch c.give_batch.result c.give_batch.ensures.takes c.requires.is.0)
    (rw c.give_batch.ensures.rule c.requires.is.1)

pub returns-clause-sizes : goal.returns-clause-sizes
returns-clause-sizes g c =
    take_size c.args.command (seen g.D.Device.state c.args.rig.now) (seen g.D.Device.state c.give_batch.new.rig)
    c.args.self.now c.give_batch.new.batch c.give_batch.ensures.counts
