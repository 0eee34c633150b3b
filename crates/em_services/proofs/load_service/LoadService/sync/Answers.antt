use Rattle.std.proofs.Common.{◌++◌, ◌∷◌, [], ◌∙◌, ◌+◌, Some, arith}
use Rattle.std.proofs.lemmas.List.{length-append}
use Rattle.em_record.specs.Cost.{room}
use Rattle.em_model.specs.declared.command.Command.TheVariants.{Sync}
use Rattle.em_space.specs.Seen.{seen}
use Rattle.em_map.specs.Batch.{batch_blocks, trunk_of}
use Rattle.em_services.specs.BatchService.{batch_counts}
use Rattle.em_services.specs.LoadLaws.{share_kept}
use Rattle.em_services.proofs.Loads.{load_gives, load_moves, load_spent}
use Rattle.em_services.proofs.Handed.{handed_within}
use Rattle.em_services.proofs.Rules.{all_still, ok_still}
use Rattle.em_services.proofs.Syncing.{handed_are, synced_cause, synced_frames, synced_full, synced_gives, synced_goes, synced_has, synced_is, synced_items, synced_moves, synced_owes, synced_room, unsynced_full, unsynced_moves, unsynced_owes, unsynced_room}
use Rattle.em_services.proofs.load_service.LoadService.sync.Goals as goal

pub order_answers-requires : goal.order_answers-requires
order_answers-requires g c = record {
  are = handed_are (seen g.D.Device.state c.args.rig.now) (seen g.D.Device.state c.sync.new.rig) c.args.self.now.batch
      c.sync.new.self c.in-Ok.handed c.in-Ok.ensures.syncs c.requires.is.0 c.requires.free;
}

pub returns-in-Ok-clause-goes : goal.returns-in-Ok-clause-goes
returns-in-Ok-clause-goes g c =
    synced_goes (seen g.D.Device.state c.args.rig.now) (seen g.D.Device.state c.sync.new.rig) c.args.self.now.batch
    c.sync.new.self c.in-Ok.handed c.in-Ok.ensures.syncs c.requires.is.0 (seen g.D.Device.state c.order_answers.new.rig)
    c.in-Ok.ensures.counts c.requires.sound c.order_answers.result c.order_answers.ensures.orders

pub returns-in-Ok-clause-frames : goal.returns-in-Ok-clause-frames
returns-in-Ok-clause-frames g c =
    synced_frames (seen g.D.Device.state c.args.rig.now) (seen g.D.Device.state c.sync.new.rig) c.args.self.now.batch
    c.sync.new.self c.in-Ok.handed c.in-Ok.ensures.syncs c.requires.is.0 (seen g.D.Device.state c.order_answers.new.rig)
    c.in-Ok.ensures.counts c.requires.sound c.order_answers.result c.order_answers.ensures.orders

pub returns-in-Ok-clause-is : goal.returns-in-Ok-clause-is
returns-in-Ok-clause-is g c =
    let s = seen g.D.Device.state c.args.rig.now in
    let m = seen g.D.Device.state c.sync.new.rig in
    let t = seen g.D.Device.state c.order_answers.new.rig in
    let v = c.args.self.now in
    let d = c.sync.new.self in
    let e = c.in-Ok.ensures in
    all_still _ _ _ c.order_answers.result
    (synced_is s m v.batch d c.in-Ok.handed e.syncs c.requires.is.0 t e.counts c.requires.sound c.order_answers.result
    c.order_answers.ensures.orders)
    (rw (e.rule) c.requires.is.1)
    (record {
      plain = e.counts.early ∙ c.requires.is.2.plain;
      built = share_kept v.built (trunk_of v.batch).adopted (trunk_of d).adopted s.pool.shape t.pool.shape
          (synced_goes s m v.batch d c.in-Ok.handed e.syncs c.requires.is.0 t e.counts c.requires.sound
          c.order_answers.result c.order_answers.ensures.orders).touches.shape e.counts.adopted c.requires.is.2.built;
    })

pub returns-in-Ok-clause-has : goal.returns-in-Ok-clause-has
returns-in-Ok-clause-has g c = λ kind.
    synced_has (seen g.D.Device.state c.args.rig.now) (seen g.D.Device.state c.sync.new.rig) c.args.self.now.batch
    c.sync.new.self c.in-Ok.handed c.in-Ok.ensures.syncs c.requires.is.0 (seen g.D.Device.state c.order_answers.new.rig)
    c.in-Ok.ensures.counts c.requires.sound c.order_answers.result c.order_answers.ensures.orders

pub returns-in-Ok-clause-gives : goal.returns-in-Ok-clause-gives
returns-in-Ok-clause-gives g c = λ kind.
    let s = seen g.D.Device.state c.args.rig.now in
    let m = seen g.D.Device.state c.sync.new.rig in
    let t = seen g.D.Device.state c.order_answers.new.rig in
    let v = c.args.self.now in
    let d = c.sync.new.self in
    let e = c.in-Ok.ensures in
    load_gives (Some room) v.built (batch_blocks s v.batch) (batch_blocks t d) (batch_counts v.batch) (batch_counts d) s t
    c.order_answers.result
    (synced_gives s m v.batch d c.in-Ok.handed e.syncs c.requires.is.0 t e.counts c.requires.sound c.order_answers.result
    c.order_answers.ensures.orders)

pub returns-in-Ok-clause-items : goal.returns-in-Ok-clause-items
returns-in-Ok-clause-items g c = λ kind.
    synced_items (seen g.D.Device.state c.args.rig.now) (seen g.D.Device.state c.sync.new.rig) c.args.self.now.batch
    c.sync.new.self c.in-Ok.handed c.in-Ok.ensures.syncs c.requires.is.0 (seen g.D.Device.state c.order_answers.new.rig)
    c.in-Ok.ensures.counts c.requires.sound c.order_answers.result c.order_answers.ensures.orders

pub returns-in-Ok-clause-room : goal.returns-in-Ok-clause-room
returns-in-Ok-clause-room g c =
    synced_room (seen g.D.Device.state c.args.rig.now) (seen g.D.Device.state c.sync.new.rig) c.args.self.now.batch
    c.sync.new.self c.in-Ok.handed c.in-Ok.ensures.syncs c.requires.is.0 (seen g.D.Device.state c.order_answers.new.rig)
    c.in-Ok.ensures.counts c.requires.sound c.order_answers.result c.order_answers.ensures.orders c.in-Ok.ensures.room

pub returns-in-Ok-clause-full : goal.returns-in-Ok-clause-full
returns-in-Ok-clause-full g c =
    synced_full (seen g.D.Device.state c.args.rig.now) (seen g.D.Device.state c.sync.new.rig) c.args.self.now.batch
    c.sync.new.self c.in-Ok.handed c.in-Ok.ensures.syncs c.requires.is.0 (seen g.D.Device.state c.order_answers.new.rig)
    c.in-Ok.ensures.counts c.requires.sound c.order_answers.result c.order_answers.ensures.orders

pub returns-in-Ok-clause-moves : goal.returns-in-Ok-clause-moves
returns-in-Ok-clause-moves g c = λ kind before cs h.
    let s = seen g.D.Device.state c.args.rig.now in
    let m = seen g.D.Device.state c.sync.new.rig in
    let t = seen g.D.Device.state c.order_answers.new.rig in
    let v = c.args.self.now in
    let d = c.sync.new.self in
    let e = c.in-Ok.ensures in
    let one = length-append (before ++ cs) (Sync ∷ []) in
    load_moves s v c.requires.is.2 before cs (before ++ cs ++ Sync ∷ []) h (omega (arith, one)) (v.batch.syncs + 1) t
    (synced_moves s m v.batch d c.in-Ok.handed e.syncs c.requires.is.0 t e.counts c.requires.sound c.order_answers.result
    c.order_answers.ensures.orders before cs h)

pub returns-in-Ok-clause-share : goal.returns-in-Ok-clause-share
returns-in-Ok-clause-share g c = λ kind. ok_still _ c.order_answers.result (λ told before cs h.
    let s = seen g.D.Device.state c.args.rig.now in
    let m = seen g.D.Device.state c.sync.new.rig in
    let v = c.args.self.now in
    let d = c.sync.new.self in
    let e = c.in-Ok.ensures in
    let one = length-append (before ++ cs) (Sync ∷ []) in
    load_spent s v c.requires.is.2 before cs (before ++ cs ++ Sync ∷ []) h (omega (arith, one)) d.syncs
    ((batch_counts d).spent s.pool.shape)
    (handed_within s m v.batch d c.in-Ok.handed e.syncs c.requires.is.0 e.counts told before cs h))

pub returns-in-Ok-clause-owes : goal.returns-in-Ok-clause-owes
returns-in-Ok-clause-owes g c =
    synced_owes (seen g.D.Device.state c.args.rig.now) (seen g.D.Device.state c.sync.new.rig) c.args.self.now.batch
    c.sync.new.self c.in-Ok.handed c.in-Ok.ensures.syncs c.requires.is.0 (seen g.D.Device.state c.order_answers.new.rig)
    c.in-Ok.ensures.counts c.requires.sound c.order_answers.result c.order_answers.ensures.orders

pub returns-in-Ok-clause-cause : goal.returns-in-Ok-clause-cause
returns-in-Ok-clause-cause g c =
    synced_cause (seen g.D.Device.state c.args.rig.now) (seen g.D.Device.state c.sync.new.rig) c.args.self.now.batch
    c.sync.new.self c.in-Ok.handed c.in-Ok.ensures.syncs c.requires.is.0 (seen g.D.Device.state c.order_answers.new.rig)
    c.in-Ok.ensures.counts c.requires.sound c.order_answers.result c.order_answers.ensures.orders

pub returns-in-Ok-clause-idle : goal.returns-in-Ok-clause-idle
returns-in-Ok-clause-idle g c = λ other. absurd (other tt)

pub returns-in-Err-clause-room : goal.returns-in-Err-clause-room
returns-in-Err-clause-room g c =
    unsynced_room (seen g.D.Device.state c.args.rig.now) (seen g.D.Device.state c.sync.new.rig) c.args.self.now.batch
    c.sync.new.self c.in-Err.fault c.in-Err.ensures.syncs c.in-Err.ensures.counts c.requires.is.0 c.requires.sound
    c.in-Err.ensures.room

pub returns-in-Err-clause-full : goal.returns-in-Err-clause-full
returns-in-Err-clause-full g c =
    unsynced_full (seen g.D.Device.state c.args.rig.now) (seen g.D.Device.state c.sync.new.rig) c.args.self.now.batch
    c.sync.new.self c.in-Err.fault c.in-Err.ensures.syncs c.in-Err.ensures.counts c.requires.is.0 c.requires.sound
    c.in-Err.ensures.over

pub returns-in-Err-clause-moves : goal.returns-in-Err-clause-moves
returns-in-Err-clause-moves g c = λ kind before cs h.
    let s = seen g.D.Device.state c.args.rig.now in
    let t = seen g.D.Device.state c.sync.new.rig in
    let v = c.args.self.now in
    let e = c.in-Err.ensures in
    let one = length-append (before ++ cs) (Sync ∷ []) in
    load_moves s v c.requires.is.2 before cs (before ++ cs ++ Sync ∷ []) h (omega (arith, one)) (v.batch.syncs + 1) t
    (unsynced_moves s t v.batch c.sync.new.self c.in-Err.fault e.syncs e.counts c.requires.is.0 c.requires.sound before cs
    h)

pub returns-in-Err-clause-owes : goal.returns-in-Err-clause-owes
returns-in-Err-clause-owes g c =
    unsynced_owes (seen g.D.Device.state c.args.rig.now) (seen g.D.Device.state c.sync.new.rig) c.args.self.now.batch
    c.sync.new.self c.in-Err.fault c.in-Err.ensures.syncs c.in-Err.ensures.counts c.requires.is.0 c.requires.sound

pub returns-in-Err-clause-idle : goal.returns-in-Err-clause-idle
returns-in-Err-clause-idle g c = λ other. absurd (other tt)
