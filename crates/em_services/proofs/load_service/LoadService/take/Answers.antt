use Rattle.std.proofs.Common.{◌++◌, ◌∷◌, [], ◌∙◌, Some, arith}
use Rattle.std.proofs.lemmas.List.{length-append}
use Rattle.em_record.specs.Cost.{room}
use Rattle.em_space.specs.Seen.{seen}
use Rattle.em_map.specs.Batch.{batch_blocks, trunk_of}
use Rattle.em_services.specs.BatchService.{batch_counts}
use Rattle.em_services.specs.LoadLaws.{share_kept}
use Rattle.em_services.proofs.Batching.{take_cause, take_full, take_goes, take_is, take_moves, take_room, takes}
use Rattle.em_services.proofs.Loads.{load_moves, load_takes}
use Rattle.em_services.proofs.Rules.{all_still}
use Rattle.em_services.proofs.load_service.LoadService.take.Goals as goal

pub returns-clause-moves : goal.returns-clause-moves
returns-clause-moves g c = λ before cs h.
    let s = seen g.D.Device.state c.args.rig.now in
    let t = seen g.D.Device.state c.give_batch.new.rig in
    let v = c.args.self.now in
    let one = length-append (before ++ cs) (c.args.command ∷ []) in
    load_moves s v c.requires.is.2 before cs (before ++ cs ++ c.args.command ∷ []) h (omega (arith, one)) v.batch.syncs t
    (take_moves c.args.command s t v.batch c.give_batch.new.batch c.requires.sound c.give_batch.ensures.counts before cs h)

pub returns-clause-takes : goal.returns-clause-takes
returns-clause-takes g c =
    let s = seen g.D.Device.state c.args.rig.now in
    let t = seen g.D.Device.state c.give_batch.new.rig in
    let v = c.args.self.now in
    let d = c.give_batch.new.batch in
    let e = c.give_batch.ensures in
    load_takes (Some room) v.built (batch_blocks s v.batch) (batch_blocks t d) (batch_counts v.batch) (batch_counts d) s t
    c.give_batch.result 0
    (takes _ c.args.command s t v.batch d c.give_batch.result e.takes e.counts c.requires.is.0 c.requires.sound)

pub returns-clause-room : goal.returns-clause-room
returns-clause-room g c =
    take_room (seen g.D.Device.state c.args.rig.now) (seen g.D.Device.state c.give_batch.new.rig)
    c.args.self.now.batch c.requires.is.0 c.requires.sound c.give_batch.ensures.room

pub returns-clause-full : goal.returns-clause-full
returns-clause-full g c =
    let s = seen g.D.Device.state c.args.rig.now in
    let t = seen g.D.Device.state c.give_batch.new.rig in
    let b = c.args.self.now.batch in
    let d = c.give_batch.new.batch in
    let e = c.give_batch.ensures in
    take_full s t b c.requires.is.0 c.requires.sound c.give_batch.result e.over
    (take_cause _ c.args.command s t b d c.give_batch.result e.takes)
    (take_goes _ c.args.command s t b d c.give_batch.result e.takes).touches.blocks

pub returns-clause-is : goal.returns-clause-is
returns-clause-is g c =
    let s = seen g.D.Device.state c.args.rig.now in
    let t = seen g.D.Device.state c.give_batch.new.rig in
    let v = c.args.self.now in
    let d = c.give_batch.new.batch in
    let e = c.give_batch.ensures in
    all_still _ _ _ c.give_batch.result
    (take_is _ c.args.command s t v.batch d c.give_batch.result e.takes c.requires.is.0)
    (rw (e.rule) c.requires.is.1)
    (record {
      plain = e.counts.early ∙ c.requires.is.2.plain;
      built = share_kept v.built (trunk_of v.batch).adopted (trunk_of d).adopted s.pool.shape t.pool.shape
          (take_goes _ c.args.command s t v.batch d c.give_batch.result e.takes).touches.shape e.counts.adopted
          c.requires.is.2.built;
    })
