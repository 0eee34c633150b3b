use Rattle.std.proofs.Common.{◌++◌, Some, arith}
use Rattle.em_record.specs.Cost.{room}
use Rattle.em_space.specs.Seen.{seen}
use Rattle.em_map.specs.Batch.{batch_blocks}
use Rattle.em_services.specs.BatchService.{batch_counts}
use Rattle.em_services.proofs.BatchAnswers.{answers_are, answers_cause, answers_full, answers_gives, answers_items, answers_leaves, answers_moves, answers_owes, answers_room_is, unfinished_full, unfinished_moves, unfinished_owes, unfinished_room}
use Rattle.em_services.proofs.Loads.{load_leaves, load_moves}
use Rattle.em_services.proofs.load_service.LoadService.answers.Goals as goal

pub order_answers-requires : goal.order_answers-requires
order_answers-requires g c = record {
  are = answers_are (seen g.D.Device.state c.args.rig.now) (seen g.D.Device.state c.finish.new.rig)
      c.args.self.batch c.in-Ok.answers c.in-Ok.ensures.finishes c.requires.is.0 c.requires.free;
}

pub returns-in-Ok-clause-gives : goal.returns-in-Ok-clause-gives
returns-in-Ok-clause-gives g c =
    answers_gives (seen g.D.Device.state c.args.rig.now) (seen g.D.Device.state c.finish.new.rig)
    (seen g.D.Device.state c.order_answers.new.rig) c.args.self.batch c.in-Ok.answers
    c.in-Ok.ensures.finishes c.order_answers.result c.order_answers.ensures.orders

pub returns-in-Ok-clause-leaves : goal.returns-in-Ok-clause-leaves
returns-in-Ok-clause-leaves g c =
    let s = seen g.D.Device.state c.args.rig.now in
    let m = seen g.D.Device.state c.finish.new.rig in
    let t = seen g.D.Device.state c.order_answers.new.rig in
    let v = c.args.self in
    let e = c.in-Ok.ensures in
    load_leaves (Some room) v.built (batch_blocks s v.batch) (batch_blocks s v.batch) (batch_counts v.batch)
    (batch_counts v.batch) s t c.order_answers.result
    (answers_leaves s m t v.batch c.in-Ok.answers e.finishes c.order_answers.result c.order_answers.ensures.orders)

pub returns-in-Ok-clause-items : goal.returns-in-Ok-clause-items
returns-in-Ok-clause-items g c =
    answers_items (seen g.D.Device.state c.args.rig.now) (seen g.D.Device.state c.finish.new.rig)
    (seen g.D.Device.state c.order_answers.new.rig) c.args.self.batch c.in-Ok.answers
    c.in-Ok.ensures.finishes c.order_answers.result c.order_answers.ensures.orders

pub returns-in-Ok-clause-moves : goal.returns-in-Ok-clause-moves
returns-in-Ok-clause-moves g c = λ before cs h.
    let s = seen g.D.Device.state c.args.rig.now in
    let m = seen g.D.Device.state c.finish.new.rig in
    let t = seen g.D.Device.state c.order_answers.new.rig in
    let v = c.args.self in
    let e = c.in-Ok.ensures in
    load_moves s v c.requires.is.2 before cs (before ++ cs) h (omega arith) v.batch.syncs t
    (answers_moves s m t v.batch c.in-Ok.answers e.finishes c.order_answers.result c.order_answers.ensures.orders
    c.requires.sound e.costs before cs h)

pub returns-in-Ok-clause-room : goal.returns-in-Ok-clause-room
returns-in-Ok-clause-room g c =
    answers_room_is (seen g.D.Device.state c.args.rig.now) (seen g.D.Device.state c.finish.new.rig)
    (seen g.D.Device.state c.order_answers.new.rig) c.args.self.batch c.in-Ok.answers
    c.in-Ok.ensures.finishes c.requires.is.0 c.requires.sound c.order_answers.result
    c.order_answers.ensures.orders c.in-Ok.ensures.room

pub returns-in-Ok-clause-full : goal.returns-in-Ok-clause-full
returns-in-Ok-clause-full g c =
    answers_full (seen g.D.Device.state c.args.rig.now) (seen g.D.Device.state c.finish.new.rig)
    (seen g.D.Device.state c.order_answers.new.rig) c.args.self.batch c.in-Ok.answers
    c.in-Ok.ensures.finishes c.requires.is.0 c.requires.sound c.order_answers.result
    c.order_answers.ensures.orders

pub returns-in-Ok-clause-owes : goal.returns-in-Ok-clause-owes
returns-in-Ok-clause-owes g c =
    answers_owes (seen g.D.Device.state c.args.rig.now) (seen g.D.Device.state c.finish.new.rig)
    (seen g.D.Device.state c.order_answers.new.rig) c.args.self.batch c.in-Ok.answers
    c.in-Ok.ensures.finishes c.order_answers.result c.order_answers.ensures.orders

pub returns-in-Ok-clause-cause : goal.returns-in-Ok-clause-cause
returns-in-Ok-clause-cause g c =
    answers_cause (seen g.D.Device.state c.args.rig.now) (seen g.D.Device.state c.finish.new.rig)
    (seen g.D.Device.state c.order_answers.new.rig) c.args.self.batch c.in-Ok.answers
    c.in-Ok.ensures.finishes c.order_answers.result c.order_answers.ensures.orders

pub returns-in-Err-clause-room : goal.returns-in-Err-clause-room
returns-in-Err-clause-room g c =
    unfinished_room (seen g.D.Device.state c.args.rig.now) (seen g.D.Device.state c.finish.new.rig)
    c.args.self.batch c.in-Err.fault c.in-Err.ensures.finishes c.requires.is.0 c.requires.sound
    c.in-Err.ensures.room

pub returns-in-Err-clause-full : goal.returns-in-Err-clause-full
returns-in-Err-clause-full g c =
    unfinished_full (seen g.D.Device.state c.args.rig.now) (seen g.D.Device.state c.finish.new.rig)
    c.args.self.batch c.in-Err.fault c.in-Err.ensures.finishes c.requires.is.0 c.requires.sound
    c.in-Err.ensures.over

pub returns-in-Err-clause-moves : goal.returns-in-Err-clause-moves
returns-in-Err-clause-moves g c = λ before cs h.
    let s = seen g.D.Device.state c.args.rig.now in
    let t = seen g.D.Device.state c.finish.new.rig in
    let v = c.args.self in
    load_moves s v c.requires.is.2 before cs (before ++ cs) h (omega arith) v.batch.syncs t
    (unfinished_moves s t v.batch c.in-Err.fault c.in-Err.ensures.finishes c.in-Err.ensures.costs c.requires.sound before
    cs h)

pub returns-in-Err-clause-owes : goal.returns-in-Err-clause-owes
returns-in-Err-clause-owes g c =
    unfinished_owes (seen g.D.Device.state c.args.rig.now) (seen g.D.Device.state c.finish.new.rig)
    c.args.self.batch c.in-Err.fault c.in-Err.ensures.finishes
