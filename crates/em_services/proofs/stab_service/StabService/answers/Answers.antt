use Rattle.std.proofs.Common.{◌++◌, refl}
use Rattle.em_space.specs.Seen.{seen}
use Rattle.em_pqueue.specs.contracts.queue.ExtQueueQueue.TheImpl.{ghosts as ext}
use Rattle.em_ready.proofs.Queues.{fails_ext, makes_ext}
use Rattle.em_services.proofs.StabAnswers.{can_finish, finish_cause, finish_gives, finish_items, finish_leaves, finish_moves, finish_owes, list_is, unmade_cause, unmade_frames, unmade_gives, unmade_moves, unmade_owes, finish_full, finish_room_is, unmade_full, unmade_room}
use Rattle.em_services.proofs.stab_service.StabService.answers.Goals as goal
use Rattle.em_pqueue.specs.QueueLaws.{frames_of}

pub finish-requires-clause-is : goal.finish-requires-clause-is
finish-requires-clause-is g c =
    list_is ext c.in-Ok.queue c.args.self (seen g.D.Device.state c.args.rig.now)
    (seen g.D.Device.state c.new.new.rig) c.requires.sound c.requires.is
    (makes_ext c.in-Ok.ensures.makes)

pub finish-requires-clause-can : goal.finish-requires-clause-can
finish-requires-clause-can g c =
    can_finish ext c.in-Ok.queue c.args.self (seen g.D.Device.state c.args.rig.now)
    (seen g.D.Device.state c.new.new.rig) c.requires.sound c.requires.is
    (makes_ext c.in-Ok.ensures.makes) c.requires.free

pub returns-in-Ok-clause-gives : goal.returns-in-Ok-clause-gives
returns-in-Ok-clause-gives g c =
    finish_gives ext c.in-Ok.queue c.args.self (seen g.D.Device.state c.args.rig.now)
    (seen g.D.Device.state c.new.new.rig) c.requires.sound c.requires.is
    (makes_ext c.in-Ok.ensures.makes) (seen g.D.Device.state c.finish.new.rig) c.finish.result
    c.finish.ensures.finishes

pub returns-in-Ok-clause-leaves : goal.returns-in-Ok-clause-leaves
returns-in-Ok-clause-leaves g c =
    finish_leaves ext c.in-Ok.queue c.args.self (seen g.D.Device.state c.args.rig.now)
    (seen g.D.Device.state c.new.new.rig) c.requires.sound c.requires.is
    (makes_ext c.in-Ok.ensures.makes) (seen g.D.Device.state c.finish.new.rig) c.finish.result
    c.finish.ensures.finishes

pub returns-in-Ok-clause-items : goal.returns-in-Ok-clause-items
returns-in-Ok-clause-items g c =
    finish_items ext c.in-Ok.queue c.args.self (seen g.D.Device.state c.args.rig.now)
    (seen g.D.Device.state c.new.new.rig) c.requires.sound c.requires.is
    (makes_ext c.in-Ok.ensures.makes) (seen g.D.Device.state c.finish.new.rig) c.finish.result
    c.finish.ensures.finishes

pub returns-in-Ok-clause-moves : goal.returns-in-Ok-clause-moves
returns-in-Ok-clause-moves g c = λ before cs h.
    finish_moves ext c.in-Ok.queue c.args.self (seen g.D.Device.state c.args.rig.now)
    (seen g.D.Device.state c.new.new.rig) c.requires.sound c.requires.is
    (makes_ext c.in-Ok.ensures.makes) (seen g.D.Device.state c.finish.new.rig) refl
    c.finish.ensures.costs (before ++ cs) h

pub returns-in-Ok-clause-owes : goal.returns-in-Ok-clause-owes
returns-in-Ok-clause-owes g c =
    finish_owes ext c.in-Ok.queue c.args.self (seen g.D.Device.state c.args.rig.now)
    (seen g.D.Device.state c.new.new.rig) c.requires.sound c.requires.is
    (makes_ext c.in-Ok.ensures.makes) (seen g.D.Device.state c.finish.new.rig) c.finish.result
    c.finish.ensures.finishes

pub returns-in-Ok-clause-cause : goal.returns-in-Ok-clause-cause
returns-in-Ok-clause-cause g c =
    finish_cause ext c.in-Ok.queue c.args.self (seen g.D.Device.state c.args.rig.now)
    (seen g.D.Device.state c.new.new.rig) c.requires.sound c.requires.is
    (makes_ext c.in-Ok.ensures.makes) (seen g.D.Device.state c.finish.new.rig) c.finish.result
    c.finish.ensures.finishes

pub abandon-requires-clause-frames : goal.abandon-requires-clause-frames
abandon-requires-clause-frames g c =
    unmade_frames c.args.self (seen g.D.Device.state c.args.rig.now)
    (seen g.D.Device.state c.new.new.rig) c.in-Err.fault c.requires.sound c.requires.is
    (fails_ext c.in-Err.ensures.stops)

pub returns-in-Err-clause-gives : goal.returns-in-Err-clause-gives
returns-in-Err-clause-gives g c =
    unmade_gives c.args.self (seen g.D.Device.state c.args.rig.now)
    (seen g.D.Device.state c.new.new.rig) c.in-Err.fault c.requires.sound c.requires.is
    (fails_ext c.in-Err.ensures.stops) (seen g.D.Device.state c.abandon.new.rig)
    c.abandon.ensures.leaves

pub returns-in-Err-clause-moves : goal.returns-in-Err-clause-moves
returns-in-Err-clause-moves g c = λ before cs h.
    unmade_moves c.args.self (seen g.D.Device.state c.args.rig.now)
    (seen g.D.Device.state c.new.new.rig) c.in-Err.fault c.requires.sound c.requires.is
    (fails_ext c.in-Err.ensures.stops) (seen g.D.Device.state c.abandon.new.rig)
    c.abandon.ensures.leaves (before ++ cs) h

pub returns-in-Err-clause-owes : goal.returns-in-Err-clause-owes
returns-in-Err-clause-owes g c =
    unmade_owes c.args.self (seen g.D.Device.state c.args.rig.now)
    (seen g.D.Device.state c.new.new.rig) c.in-Err.fault c.requires.sound c.requires.is
    (fails_ext c.in-Err.ensures.stops) (seen g.D.Device.state c.abandon.new.rig)
    c.abandon.ensures.leaves

pub returns-in-Err-clause-cause : goal.returns-in-Err-clause-cause
returns-in-Err-clause-cause g c =
    unmade_cause c.args.self (seen g.D.Device.state c.args.rig.now)
    (seen g.D.Device.state c.new.new.rig) c.in-Err.fault c.requires.sound c.requires.is
    (fails_ext c.in-Err.ensures.stops) (seen g.D.Device.state c.abandon.new.rig)
    c.abandon.ensures.leaves

pub returns-in-Ok-clause-room : goal.returns-in-Ok-clause-room
returns-in-Ok-clause-room g c = λ before cs h.
    finish_room_is ext c.in-Ok.queue c.args.self (seen g.D.Device.state c.args.rig.now)
    (seen g.D.Device.state c.new.new.rig) c.requires.sound c.requires.is
    (makes_ext c.in-Ok.ensures.makes) (seen g.D.Device.state c.finish.new.rig) refl
    (frames_of c.in-Ok.queue (seen g.D.Device.state c.new.new.rig) c.in-Ok.ensures.makes.is).fits (before ++ cs) h
    c.finish.ensures.costs

pub returns-in-Ok-clause-full : goal.returns-in-Ok-clause-full
returns-in-Ok-clause-full g c = λ before cs h.
    finish_full ext c.in-Ok.queue c.args.self (seen g.D.Device.state c.args.rig.now)
    (seen g.D.Device.state c.new.new.rig) c.requires.sound c.requires.is
    (makes_ext c.in-Ok.ensures.makes) (seen g.D.Device.state c.finish.new.rig) refl
    (frames_of c.in-Ok.queue (seen g.D.Device.state c.new.new.rig) c.in-Ok.ensures.makes.is).fits (before ++ cs) h
    c.finish.result c.finish.ensures.full

pub returns-in-Err-clause-room : goal.returns-in-Err-clause-room
returns-in-Err-clause-room g c = λ before cs h.
    unmade_room c.args.self (seen g.D.Device.state c.args.rig.now)
    (seen g.D.Device.state c.new.new.rig) c.in-Err.fault c.requires.sound c.requires.is
    (fails_ext c.in-Err.ensures.stops) (seen g.D.Device.state c.abandon.new.rig)
    c.abandon.ensures.leaves (before ++ cs) h

pub returns-in-Err-clause-full : goal.returns-in-Err-clause-full
returns-in-Err-clause-full g c = λ before cs h.
    unmade_full c.args.self (seen g.D.Device.state c.args.rig.now)
    (seen g.D.Device.state c.new.new.rig) c.in-Err.fault c.requires.sound c.requires.is
    (fails_ext c.in-Err.ensures.stops) (seen g.D.Device.state c.abandon.new.rig)
    c.abandon.ensures.leaves (before ++ cs) h
