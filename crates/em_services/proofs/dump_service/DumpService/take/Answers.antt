use Rattle.std.proofs.Common.{◌++◌, ◌∷◌, [], ◌∙◌, Some}
use Rattle.em_space.specs.Seen.{seen}
use Rattle.em_services.specs.BatchService.{batch_counts, map_share}
use Rattle.em_services.proofs.Areas.{within_equal}
use Rattle.em_services.proofs.Batching.{take_cause, take_full, take_goes, take_is, take_moves, take_room}
use Rattle.em_services.proofs.DumpAnswers.{plain_size}
use Rattle.em_services.proofs.Rules.{all_still}
use Rattle.em_services.proofs.dump_service.DumpService.take.Goals as goal

pub returns-clause-moves : goal.returns-clause-moves
returns-clause-moves g c = λ before cs h.
    let s = seen g.D.Device.state c.args.rig.now in
    let t = seen g.D.Device.state c.give_batch.new.rig in
    let b = c.args.self.now.batch in
    let all = before ++ cs ++ c.args.command ∷ [] in
    within_equal (Some map_share) _ _ b.syncs (batch_counts b).spent s t
    (plain_size b s.pool.shape all c.requires.is.2.plain)
    (take_moves c.args.command s t b c.give_batch.new.batch c.requires.sound c.give_batch.ensures.counts before cs h)

pub returns-clause-room : goal.returns-clause-room
returns-clause-room g c =
    take_room (seen g.D.Device.state c.args.rig.now) (seen g.D.Device.state c.give_batch.new.rig)
    c.args.self.now.batch c.requires.is.0 c.requires.sound c.give_batch.ensures.room

pub returns-clause-full : goal.returns-clause-full
returns-clause-full g c =
    let s = seen g.D.Device.state c.args.rig.now in
    let t = seen g.D.Device.state c.give_batch.new.rig in
    let b = c.args.self.now.batch in
    let d = c.give_batch.new.batch in
    let e = c.give_batch.ensures in
    take_full s t b c.requires.is.0 c.requires.sound c.give_batch.result e.over
    (take_cause _ c.args.command s t b d c.give_batch.result e.takes)
    (take_goes _ c.args.command s t b d c.give_batch.result e.takes).touches.blocks

pub returns-clause-is : goal.returns-clause-is
returns-clause-is g c =
    let e = c.give_batch.ensures in
    all_still _ _ _ c.give_batch.result
    (take_is _ c.args.command (seen g.D.Device.state c.args.rig.now) (seen g.D.Device.state c.give_batch.new.rig)
    c.args.self.now.batch c.give_batch.new.batch c.give_batch.result e.takes c.requires.is.0)
    (rw (e.rule) c.requires.is.1) (record { plain = e.counts.early ∙ c.requires.is.2.plain; own = e.counts.adopted ∙ c.requires.is.2.own })
