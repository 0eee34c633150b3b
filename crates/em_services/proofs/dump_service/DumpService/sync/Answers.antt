use Rattle.std.proofs.Common.{ℕ, ◌+◌, ◌*◌, ◌≤◌, ◌++◌, ◌∷◌, [], ◌∙◌, subst, Some}
use Rattle.em_model.specs.declared.command.Command.TheVariants.{Sync}
use Rattle.em_space.specs.Seen.{seen}
use Rattle.em_services.specs.BatchService.{batch_counts, map_share}
use Rattle.em_services.proofs.Areas.{within_equal}
use Rattle.em_services.proofs.DumpAnswers.{plain_size}
use Rattle.em_services.proofs.DumpSyncs.{dropped_cause, dropped_full, dropped_gives, dropped_items, dropped_moves, dropped_owes, dropped_room}
use Rattle.em_services.proofs.Handed.{handed_frames, handed_goes, handed_has, handed_is, handed_within}
use Rattle.em_services.proofs.Rules.{ok_still}
use Rattle.em_services.proofs.Syncing.{unsynced_full, unsynced_moves, unsynced_owes, unsynced_room}
use Rattle.em_services.proofs.dump_service.DumpService.sync.Goals as goal

pub returns-in-Ok-clause-goes : goal.returns-in-Ok-clause-goes
returns-in-Ok-clause-goes g c =
    handed_goes (seen g.D.Device.state c.args.rig.now) (seen g.D.Device.state c.sync.new.rig) c.args.self.now.batch
    c.sync.new.self c.in-Ok.handed c.in-Ok.ensures.syncs c.requires.is.0 (seen g.D.Device.state c.give_up.new.rig)
    c.give_up.ensures.goes

pub returns-in-Ok-clause-frames : goal.returns-in-Ok-clause-frames
returns-in-Ok-clause-frames g c =
    handed_frames (seen g.D.Device.state c.args.rig.now) (seen g.D.Device.state c.sync.new.rig) c.args.self.now.batch
    c.sync.new.self c.in-Ok.handed c.in-Ok.ensures.syncs c.requires.is.0 (seen g.D.Device.state c.give_up.new.rig)
    c.give_up.ensures.goes

pub returns-in-Ok-clause-is : goal.returns-in-Ok-clause-is
returns-in-Ok-clause-is g c =
    let e = c.in-Ok.ensures in
    ok_still _ c.give_up.result (
      handed_is (seen g.D.Device.state c.args.rig.now) (seen g.D.Device.state c.sync.new.rig) c.args.self.now.batch
          c.sync.new.self c.in-Ok.handed e.syncs c.requires.is.0 (seen g.D.Device.state c.give_up.new.rig)
          c.give_up.ensures.goes,
      rw (e.rule) c.requires.is.1,
      record {
        plain = e.counts.early ∙ c.requires.is.2.plain;
        own = e.counts.adopted ∙ c.requires.is.2.own;
      },
    )

pub returns-in-Ok-clause-has : goal.returns-in-Ok-clause-has
returns-in-Ok-clause-has g c = λ kind. ok_still _ c.give_up.result
    (handed_has (seen g.D.Device.state c.args.rig.now) (seen g.D.Device.state c.sync.new.rig) c.args.self.now.batch
    c.sync.new.self c.in-Ok.handed c.in-Ok.ensures.syncs c.requires.is.0 (seen g.D.Device.state c.give_up.new.rig)
    c.give_up.ensures.goes)

pub returns-in-Ok-clause-gives : goal.returns-in-Ok-clause-gives
returns-in-Ok-clause-gives g c = λ kind.
    let e = c.give_up.ensures in
    dropped_gives (seen g.D.Device.state c.args.rig.now) (seen g.D.Device.state c.sync.new.rig)
    (seen g.D.Device.state c.give_up.new.rig) c.args.self.now.batch c.sync.new.self c.in-Ok.handed c.in-Ok.ensures.syncs
    c.requires.is.0 c.in-Ok.ensures.counts c.requires.sound e.goes c.give_up.result e.empty e.frees

pub returns-in-Ok-clause-items : goal.returns-in-Ok-clause-items
returns-in-Ok-clause-items g c = λ kind.
    let e = c.give_up.ensures in
    dropped_items (seen g.D.Device.state c.args.rig.now) (seen g.D.Device.state c.sync.new.rig)
    (seen g.D.Device.state c.give_up.new.rig) c.args.self.now.batch c.sync.new.self c.in-Ok.handed c.in-Ok.ensures.syncs
    c.requires.is.0 c.in-Ok.ensures.counts c.requires.sound e.goes c.give_up.result e.empty

pub returns-in-Ok-clause-room : goal.returns-in-Ok-clause-room
returns-in-Ok-clause-room g c =
    let e = c.give_up.ensures in
    dropped_room (seen g.D.Device.state c.args.rig.now) (seen g.D.Device.state c.sync.new.rig)
    (seen g.D.Device.state c.give_up.new.rig) c.args.self.now.batch c.sync.new.self c.in-Ok.handed c.in-Ok.ensures.syncs
    c.requires.is.0 c.in-Ok.ensures.counts c.requires.sound e.goes e.frees.most c.in-Ok.ensures.room

pub returns-in-Ok-clause-full : goal.returns-in-Ok-clause-full
returns-in-Ok-clause-full g c =
    let e = c.give_up.ensures in
    dropped_full (seen g.D.Device.state c.args.rig.now) (seen g.D.Device.state c.sync.new.rig)
    (seen g.D.Device.state c.give_up.new.rig) c.args.self.now.batch c.sync.new.self c.in-Ok.handed c.in-Ok.ensures.syncs
    c.requires.is.0 c.in-Ok.ensures.counts c.requires.sound e.goes c.give_up.result e.cause

pub returns-in-Ok-clause-moves : goal.returns-in-Ok-clause-moves
returns-in-Ok-clause-moves g c = λ kind before cs h.
    let s = seen g.D.Device.state c.args.rig.now in
    let t = seen g.D.Device.state c.give_up.new.rig in
    let b = c.args.self.now.batch in
    let e = c.give_up.ensures in
    within_equal (Some map_share) _ _ (b.syncs + 1) (batch_counts b).spent s t
    (plain_size b s.pool.shape (before ++ cs ++ Sync ∷ []) c.requires.is.2.plain)
    (dropped_moves s (seen g.D.Device.state c.sync.new.rig) t b c.sync.new.self c.in-Ok.handed c.in-Ok.ensures.syncs
    c.requires.is.0 c.in-Ok.ensures.counts c.requires.sound e.goes e.frees.moves before cs h)

pub returns-in-Ok-clause-share : goal.returns-in-Ok-clause-share
returns-in-Ok-clause-share g c = λ kind. ok_still _ c.give_up.result (λ told before cs h.
    let s = seen g.D.Device.state c.args.rig.now in
    let b = c.args.self.now.batch in
    let d = c.sync.new.self in
    subst (λ (n : ℕ). (batch_counts d).spent s.pool.shape ≤ (d.syncs + 1) * map_share s.pool.shape n)
    (plain_size b s.pool.shape (before ++ cs ++ Sync ∷ []) c.requires.is.2.plain)
    (handed_within s (seen g.D.Device.state c.sync.new.rig) b d c.in-Ok.handed c.in-Ok.ensures.syncs c.requires.is.0
    c.in-Ok.ensures.counts told before cs h))

pub returns-in-Ok-clause-owes : goal.returns-in-Ok-clause-owes
returns-in-Ok-clause-owes g c =
    let e = c.give_up.ensures in
    dropped_owes (seen g.D.Device.state c.args.rig.now) (seen g.D.Device.state c.sync.new.rig)
    (seen g.D.Device.state c.give_up.new.rig) c.args.self.now.batch c.sync.new.self c.in-Ok.handed c.in-Ok.ensures.syncs
    c.requires.is.0 c.in-Ok.ensures.counts c.requires.sound e.goes c.give_up.result e.frees.used_most

pub returns-in-Ok-clause-cause : goal.returns-in-Ok-clause-cause
returns-in-Ok-clause-cause g c =
    let e = c.give_up.ensures in
    dropped_cause (seen g.D.Device.state c.args.rig.now) (seen g.D.Device.state c.sync.new.rig)
    (seen g.D.Device.state c.give_up.new.rig) c.args.self.now.batch c.sync.new.self c.in-Ok.handed c.in-Ok.ensures.syncs
    c.requires.is.0 c.in-Ok.ensures.counts c.requires.sound e.goes c.give_up.result e.cause

pub returns-in-Ok-clause-idle : goal.returns-in-Ok-clause-idle
returns-in-Ok-clause-idle g c = λ other. absurd (other tt)

pub returns-in-Err-clause-room : goal.returns-in-Err-clause-room
returns-in-Err-clause-room g c =
    unsynced_room (seen g.D.Device.state c.args.rig.now) (seen g.D.Device.state c.sync.new.rig) c.args.self.now.batch
    c.sync.new.self c.in-Err.fault c.in-Err.ensures.syncs c.in-Err.ensures.counts c.requires.is.0 c.requires.sound
    c.in-Err.ensures.room

pub returns-in-Err-clause-full : goal.returns-in-Err-clause-full
returns-in-Err-clause-full g c =
    unsynced_full (seen g.D.Device.state c.args.rig.now) (seen g.D.Device.state c.sync.new.rig) c.args.self.now.batch
    c.sync.new.self c.in-Err.fault c.in-Err.ensures.syncs c.in-Err.ensures.counts c.requires.is.0 c.requires.sound
    c.in-Err.ensures.over

pub returns-in-Err-clause-moves : goal.returns-in-Err-clause-moves
returns-in-Err-clause-moves g c = λ kind before cs h.
    let s = seen g.D.Device.state c.args.rig.now in
    let t = seen g.D.Device.state c.sync.new.rig in
    let b = c.args.self.now.batch in
    within_equal (Some map_share) _ _ (b.syncs + 1) (batch_counts b).spent s t
    (plain_size b s.pool.shape (before ++ cs ++ Sync ∷ []) c.requires.is.2.plain)
    (unsynced_moves s t b c.sync.new.self c.in-Err.fault c.in-Err.ensures.syncs c.in-Err.ensures.counts c.requires.is.0
    c.requires.sound before cs h)

pub returns-in-Err-clause-owes : goal.returns-in-Err-clause-owes
returns-in-Err-clause-owes g c =
    unsynced_owes (seen g.D.Device.state c.args.rig.now) (seen g.D.Device.state c.sync.new.rig) c.args.self.now.batch
    c.sync.new.self c.in-Err.fault c.in-Err.ensures.syncs c.in-Err.ensures.counts c.requires.is.0 c.requires.sound

pub returns-in-Err-clause-idle : goal.returns-in-Err-clause-idle
returns-in-Err-clause-idle g c = λ other. absurd (other tt)
