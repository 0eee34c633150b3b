use Rattle.em_space.specs.Seen.{seen}
use Rattle.em_services.proofs.Rules.{both_still}
use Rattle.em_services.proofs.Syncing.{handed_are, synced_cause, synced_frames, synced_full, synced_gives, synced_goes, synced_has, synced_is, synced_items, synced_moves, synced_owes, synced_room, synced_size, synced_within, unsynced_full, unsynced_moves, unsynced_owes, unsynced_room}
use Rattle.em_services.proofs.batch_service.BatchService.sync.Goals as goal

pub order_answers-requires : goal.order_answers-requires
order_answers-requires g c = record {
  are = handed_are (seen g.D.Device.state c.args.rig.now) (seen g.D.Device.state c.sync.new.rig) c.args.self.now
      c.sync.new.self c.in-Ok.handed c.in-Ok.ensures.syncs c.requires.is.0 c.requires.free;
}

pub returns-in-Ok-clause-is : goal.returns-in-Ok-clause-is
returns-in-Ok-clause-is g c =
    both_still _ _ c.order_answers.result
    (synced_is (seen g.D.Device.state c.args.rig.now) (seen g.D.Device.state c.sync.new.rig) c.args.self.now
    c.sync.new.self c.in-Ok.handed c.in-Ok.ensures.syncs c.requires.is.0 (seen g.D.Device.state c.order_answers.new.rig)
    c.in-Ok.ensures.counts c.requires.sound c.order_answers.result c.order_answers.ensures.orders)
    (rw c.in-Ok.ensures.rule c.requires.is.1)

pub returns-in-Ok-clause-has : goal.returns-in-Ok-clause-has
returns-in-Ok-clause-has g c = λ kind.
    synced_has (seen g.D.Device.state c.args.rig.now) (seen g.D.Device.state c.sync.new.rig) c.args.self.now
    c.sync.new.self c.in-Ok.handed c.in-Ok.ensures.syncs c.requires.is.0 (seen g.D.Device.state c.order_answers.new.rig)
    c.in-Ok.ensures.counts c.requires.sound c.order_answers.result c.order_answers.ensures.orders

pub returns-in-Ok-clause-gives : goal.returns-in-Ok-clause-gives
returns-in-Ok-clause-gives g c = λ kind.
    synced_gives (seen g.D.Device.state c.args.rig.now) (seen g.D.Device.state c.sync.new.rig) c.args.self.now
    c.sync.new.self c.in-Ok.handed c.in-Ok.ensures.syncs c.requires.is.0 (seen g.D.Device.state c.order_answers.new.rig)
    c.in-Ok.ensures.counts c.requires.sound c.order_answers.result c.order_answers.ensures.orders

pub returns-in-Ok-clause-items : goal.returns-in-Ok-clause-items
returns-in-Ok-clause-items g c = λ kind.
    synced_items (seen g.D.Device.state c.args.rig.now) (seen g.D.Device.state c.sync.new.rig) c.args.self.now
    c.sync.new.self c.in-Ok.handed c.in-Ok.ensures.syncs c.requires.is.0 (seen g.D.Device.state c.order_answers.new.rig)
    c.in-Ok.ensures.counts c.requires.sound c.order_answers.result c.order_answers.ensures.orders

pub returns-in-Ok-clause-moves : goal.returns-in-Ok-clause-moves
returns-in-Ok-clause-moves g c = λ kind.
    synced_moves (seen g.D.Device.state c.args.rig.now) (seen g.D.Device.state c.sync.new.rig) c.args.self.now
    c.sync.new.self c.in-Ok.handed c.in-Ok.ensures.syncs c.requires.is.0 (seen g.D.Device.state c.order_answers.new.rig)
    c.in-Ok.ensures.counts c.requires.sound c.order_answers.result c.order_answers.ensures.orders

pub returns-in-Ok-clause-share : goal.returns-in-Ok-clause-share
returns-in-Ok-clause-share g c = λ kind.
    synced_within (seen g.D.Device.state c.args.rig.now) (seen g.D.Device.state c.sync.new.rig) c.args.self.now
    c.sync.new.self c.in-Ok.handed c.in-Ok.ensures.syncs c.requires.is.0 (seen g.D.Device.state c.order_answers.new.rig)
    c.in-Ok.ensures.counts c.requires.sound c.order_answers.result c.order_answers.ensures.orders

pub returns-in-Ok-clause-full : goal.returns-in-Ok-clause-full
returns-in-Ok-clause-full g c =
    synced_full (seen g.D.Device.state c.args.rig.now) (seen g.D.Device.state c.sync.new.rig) c.args.self.now
    c.sync.new.self c.in-Ok.handed c.in-Ok.ensures.syncs c.requires.is.0 (seen g.D.Device.state c.order_answers.new.rig)
    c.in-Ok.ensures.counts c.requires.sound c.order_answers.result c.order_answers.ensures.orders

pub returns-in-Ok-clause-room : goal.returns-in-Ok-clause-room
returns-in-Ok-clause-room g c =
    synced_room (seen g.D.Device.state c.args.rig.now) (seen g.D.Device.state c.sync.new.rig) c.args.self.now
    c.sync.new.self c.in-Ok.handed c.in-Ok.ensures.syncs c.requires.is.0 (seen g.D.Device.state c.order_answers.new.rig)
    c.in-Ok.ensures.counts c.requires.sound c.order_answers.result c.order_answers.ensures.orders c.in-Ok.ensures.room

pub returns-in-Err-clause-moves : goal.returns-in-Err-clause-moves
returns-in-Err-clause-moves g c = λ kind.
    unsynced_moves (seen g.D.Device.state c.args.rig.now) (seen g.D.Device.state c.sync.new.rig) c.args.self.now
    c.sync.new.self c.in-Err.fault c.in-Err.ensures.syncs c.in-Err.ensures.counts c.requires.is.0 c.requires.sound

pub returns-in-Err-clause-room : goal.returns-in-Err-clause-room
returns-in-Err-clause-room g c =
    unsynced_room (seen g.D.Device.state c.args.rig.now) (seen g.D.Device.state c.sync.new.rig) c.args.self.now
    c.sync.new.self c.in-Err.fault c.in-Err.ensures.syncs c.in-Err.ensures.counts c.requires.is.0 c.requires.sound c.in-Err.ensures.room

pub returns-in-Err-clause-full : goal.returns-in-Err-clause-full
returns-in-Err-clause-full g c =
    unsynced_full (seen g.D.Device.state c.args.rig.now) (seen g.D.Device.state c.sync.new.rig) c.args.self.now
    c.sync.new.self c.in-Err.fault c.in-Err.ensures.syncs c.in-Err.ensures.counts c.requires.is.0 c.requires.sound c.in-Err.ensures.over

pub returns-in-Ok-clause-goes : goal.returns-in-Ok-clause-goes
returns-in-Ok-clause-goes g c =
    synced_goes (seen g.D.Device.state c.args.rig.now) (seen g.D.Device.state c.sync.new.rig) c.args.self.now
    c.sync.new.self c.in-Ok.handed c.in-Ok.ensures.syncs c.requires.is.0 (seen g.D.Device.state c.order_answers.new.rig)
    c.in-Ok.ensures.counts c.requires.sound c.order_answers.result c.order_answers.ensures.orders

pub returns-in-Ok-clause-frames : goal.returns-in-Ok-clause-frames
returns-in-Ok-clause-frames g c =
    synced_frames (seen g.D.Device.state c.args.rig.now) (seen g.D.Device.state c.sync.new.rig) c.args.self.now
    c.sync.new.self c.in-Ok.handed c.in-Ok.ensures.syncs c.requires.is.0 (seen g.D.Device.state c.order_answers.new.rig)
    c.in-Ok.ensures.counts c.requires.sound c.order_answers.result c.order_answers.ensures.orders

pub returns-in-Ok-clause-owes : goal.returns-in-Ok-clause-owes
returns-in-Ok-clause-owes g c =
    synced_owes (seen g.D.Device.state c.args.rig.now) (seen g.D.Device.state c.sync.new.rig) c.args.self.now
    c.sync.new.self c.in-Ok.handed c.in-Ok.ensures.syncs c.requires.is.0 (seen g.D.Device.state c.order_answers.new.rig)
    c.in-Ok.ensures.counts c.requires.sound c.order_answers.result c.order_answers.ensures.orders

pub returns-in-Ok-clause-cause : goal.returns-in-Ok-clause-cause
returns-in-Ok-clause-cause g c =
    synced_cause (seen g.D.Device.state c.args.rig.now) (seen g.D.Device.state c.sync.new.rig) c.args.self.now
    c.sync.new.self c.in-Ok.handed c.in-Ok.ensures.syncs c.requires.is.0 (seen g.D.Device.state c.order_answers.new.rig)
    c.in-Ok.ensures.counts c.requires.sound c.order_answers.result c.order_answers.ensures.orders

pub returns-in-Err-clause-owes : goal.returns-in-Err-clause-owes
returns-in-Err-clause-owes g c =
    unsynced_owes (seen g.D.Device.state c.args.rig.now) (seen g.D.Device.state c.sync.new.rig) c.args.self.now
    c.sync.new.self c.in-Err.fault c.in-Err.ensures.syncs c.in-Err.ensures.counts c.requires.is.0 c.requires.sound

pub returns-in-Ok-clause-idle : goal.returns-in-Ok-clause-idle
returns-in-Ok-clause-idle g c = λ other. absurd (other tt)

pub returns-in-Err-clause-idle : goal.returns-in-Err-clause-idle
returns-in-Err-clause-idle g c = λ other. absurd (other tt)

pub returns-in-Ok-clause-sizes : goal.returns-in-Ok-clause-sizes
returns-in-Ok-clause-sizes g c =
    synced_size (seen g.D.Device.state c.args.rig.now) (seen g.D.Device.state c.sync.new.rig) c.args.self.now
    c.sync.new.self c.in-Ok.ensures.counts

pub returns-in-Err-clause-sizes : goal.returns-in-Err-clause-sizes
returns-in-Err-clause-sizes g c =
    synced_size (seen g.D.Device.state c.args.rig.now) (seen g.D.Device.state c.sync.new.rig) c.args.self.now
    c.sync.new.self c.in-Err.ensures.counts
