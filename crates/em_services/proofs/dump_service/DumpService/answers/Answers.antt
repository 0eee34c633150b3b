use Rattle.std.proofs.Common.{◌++◌, List, length, IsTrue, Some, ap, subst}
use Rattle.em_record.specs.declared.record.Record.{Record}
use Rattle.em_settle.specs.Add.{apply_of}
use Rattle.em_space.specs.Seen.{seen}
use Rattle.em_trunk.specs.Trunk.{trunk_blocks}
use Rattle.em_services.specs.BatchService.{batch_counts, map_share}
use Rattle.em_services.specs.Listing.{HasRecords, ListsPairs, ListsWithin}
use Rattle.em_services.proofs.Areas.{within_equal}
use Rattle.em_services.proofs.BatchAnswers.{unfinished_full, unfinished_moves, unfinished_owes, unfinished_room}
use Rattle.em_services.proofs.DumpAnswers.{handed_few, handed_free, handed_resets, handed_settled, pairs_cause, pairs_full, pairs_gives, pairs_items, pairs_leaves, pairs_moves, pairs_owes, pairs_room, plain_size}
use Rattle.em_services.proofs.dump_service.DumpService.answers.Goals as goal

pub list_pairs-requires-clause-ready : goal.list_pairs-requires-clause-ready
list_pairs-requires-clause-ready g c =
    rw (c.in-Ok.ensures.rule) c.requires.is.1

pub list_pairs-requires-clause-free : goal.list_pairs-requires-clause-free
list_pairs-requires-clause-free g c =
    let s = seen g.D.Device.state c.args.rig.now in
    let m = seen g.D.Device.state c.into_tree.new.rig in
    let b = c.args.self.batch in
    let v = c.in-Ok.tree.trunk in
    let e = c.in-Ok.ensures in
    handed_free s m b v e.hands c.requires.is.0 c.requires.is.2.plain c.requires.free

pub list_pairs-requires-clause-resets : goal.list_pairs-requires-clause-resets
list_pairs-requires-clause-resets g c =
    let s = seen g.D.Device.state c.args.rig.now in
    let m = seen g.D.Device.state c.into_tree.new.rig in
    let b = c.args.self.batch in
    let v = c.in-Ok.tree.trunk in
    let e = c.in-Ok.ensures in
    handed_resets s m b v e.hands c.requires.is.0 c.requires.is.2.plain

pub list_pairs-requires-clause-settled : goal.list_pairs-requires-clause-settled
list_pairs-requires-clause-settled g c =
    let s = seen g.D.Device.state c.args.rig.now in
    let m = seen g.D.Device.state c.into_tree.new.rig in
    let b = c.args.self.batch in
    let v = c.in-Ok.tree.trunk in
    let e = c.in-Ok.ensures in
    handed_settled s m b v e.hands c.requires.is.0 c.requires.is.2.plain

pub list_pairs-requires-clause-few : goal.list_pairs-requires-clause-few
list_pairs-requires-clause-few g c =
    let s = seen g.D.Device.state c.args.rig.now in
    let m = seen g.D.Device.state c.into_tree.new.rig in
    let b = c.args.self.batch in
    let v = c.in-Ok.tree.trunk in
    let e = c.in-Ok.ensures in
    handed_few s m b v e.hands c.requires.is.0 c.requires.is.2.plain c.requires.is.2.own (apply_of c.in-Ok.tree.settle.kind)
    (ap (λ r. apply_of r.kind) e.rule)

pub returns-in-Ok-clause-gives : goal.returns-in-Ok-clause-gives
returns-in-Ok-clause-gives g c =
    let s = seen g.D.Device.state c.args.rig.now in
    let m = seen g.D.Device.state c.into_tree.new.rig in
    let b = c.args.self.batch in
    let v = c.in-Ok.tree.trunk in
    let e = c.in-Ok.ensures in
    let t = seen g.D.Device.state c.list_pairs.new.rig in
    let lists = subst (λ r. ListsPairs (apply_of r.kind) m t v c.list_pairs.result) e.rule c.list_pairs.ensures.lists in
    pairs_gives s m b v e.hands c.requires.is.0 c.requires.is.2.plain t c.list_pairs.result lists

pub returns-in-Ok-clause-leaves : goal.returns-in-Ok-clause-leaves
returns-in-Ok-clause-leaves g c =
    let s = seen g.D.Device.state c.args.rig.now in
    let m = seen g.D.Device.state c.into_tree.new.rig in
    let b = c.args.self.batch in
    let v = c.in-Ok.tree.trunk in
    let e = c.in-Ok.ensures in
    let t = seen g.D.Device.state c.list_pairs.new.rig in
    let lists = subst (λ r. ListsPairs (apply_of r.kind) m t v c.list_pairs.result) e.rule c.list_pairs.ensures.lists in
    pairs_leaves s m b v e.hands c.requires.is.0 c.requires.is.2.plain t c.list_pairs.result lists

pub returns-in-Ok-clause-items : goal.returns-in-Ok-clause-items
returns-in-Ok-clause-items g c =
    let s = seen g.D.Device.state c.args.rig.now in
    let m = seen g.D.Device.state c.into_tree.new.rig in
    let b = c.args.self.batch in
    let v = c.in-Ok.tree.trunk in
    let e = c.in-Ok.ensures in
    let t = seen g.D.Device.state c.list_pairs.new.rig in
    let lists = subst (λ r. ListsPairs (apply_of r.kind) m t v c.list_pairs.result) e.rule c.list_pairs.ensures.lists in
    pairs_items s m b v e.hands c.requires.is.0 c.requires.is.2.plain t c.list_pairs.result lists

pub returns-in-Ok-clause-cause : goal.returns-in-Ok-clause-cause
returns-in-Ok-clause-cause g c =
    let s = seen g.D.Device.state c.args.rig.now in
    let m = seen g.D.Device.state c.into_tree.new.rig in
    let b = c.args.self.batch in
    let v = c.in-Ok.tree.trunk in
    let e = c.in-Ok.ensures in
    let t = seen g.D.Device.state c.list_pairs.new.rig in
    let lists = subst (λ r. ListsPairs (apply_of r.kind) m t v c.list_pairs.result) e.rule c.list_pairs.ensures.lists in
    pairs_cause s m b v e.hands c.requires.is.0 c.requires.is.2.plain t c.list_pairs.result lists

pub returns-in-Ok-clause-owes : goal.returns-in-Ok-clause-owes
returns-in-Ok-clause-owes g c =
    let s = seen g.D.Device.state c.args.rig.now in
    let m = seen g.D.Device.state c.into_tree.new.rig in
    let b = c.args.self.batch in
    let v = c.in-Ok.tree.trunk in
    let e = c.in-Ok.ensures in
    let t = seen g.D.Device.state c.list_pairs.new.rig in
    let lists = subst (λ r. ListsPairs (apply_of r.kind) m t v c.list_pairs.result) e.rule c.list_pairs.ensures.lists in
    pairs_owes s m b v e.hands c.requires.is.0 c.requires.is.2.plain t c.list_pairs.result lists c.requires.sound

pub returns-in-Ok-clause-full : goal.returns-in-Ok-clause-full
returns-in-Ok-clause-full g c =
    let s = seen g.D.Device.state c.args.rig.now in
    let m = seen g.D.Device.state c.into_tree.new.rig in
    let b = c.args.self.batch in
    let v = c.in-Ok.tree.trunk in
    let e = c.in-Ok.ensures in
    let t = seen g.D.Device.state c.list_pairs.new.rig in
    let lists = subst (λ r. ListsPairs (apply_of r.kind) m t v c.list_pairs.result) e.rule c.list_pairs.ensures.lists in
    pairs_full s m b v e.hands c.requires.is.0 c.requires.is.2.plain t c.list_pairs.result lists c.requires.sound

pub returns-in-Ok-clause-room : goal.returns-in-Ok-clause-room
returns-in-Ok-clause-room g c =
    let s = seen g.D.Device.state c.args.rig.now in
    let m = seen g.D.Device.state c.into_tree.new.rig in
    let b = c.args.self.batch in
    let v = c.in-Ok.tree.trunk in
    let e = c.in-Ok.ensures in
    let t = seen g.D.Device.state c.list_pairs.new.rig in
    let within = subst (λ r. IsTrue m.device.told → (xs : List Record) → HasRecords (apply_of r.kind) m v xs
    → ListsWithin (apply_of r.kind) (trunk_blocks m v) m t v (length xs)) e.rule c.list_pairs.ensures.within in
    pairs_room s m b v e.hands c.requires.is.0 c.requires.is.2.plain t within c.requires.sound e.room

pub returns-in-Ok-clause-moves : goal.returns-in-Ok-clause-moves
returns-in-Ok-clause-moves g c =
    let s = seen g.D.Device.state c.args.rig.now in
    let m = seen g.D.Device.state c.into_tree.new.rig in
    let b = c.args.self.batch in
    let v = c.in-Ok.tree.trunk in
    let e = c.in-Ok.ensures in
    let t = seen g.D.Device.state c.list_pairs.new.rig in
    let within = subst (λ r. IsTrue m.device.told → (xs : List Record) → HasRecords (apply_of r.kind) m v xs
    → ListsWithin (apply_of r.kind) (trunk_blocks m v) m t v (length xs)) e.rule c.list_pairs.ensures.within in
    pairs_moves s m b v e.hands c.requires.is.0 c.requires.is.2.plain t within c.requires.sound e.costs.later

pub returns-in-Err-clause-room : goal.returns-in-Err-clause-room
returns-in-Err-clause-room g c =
    unfinished_room (seen g.D.Device.state c.args.rig.now) (seen g.D.Device.state c.into_tree.new.rig) c.args.self.batch
    c.in-Err.fault c.in-Err.ensures.hands c.requires.is.0 c.requires.sound c.in-Err.ensures.room

pub returns-in-Err-clause-full : goal.returns-in-Err-clause-full
returns-in-Err-clause-full g c =
    unfinished_full (seen g.D.Device.state c.args.rig.now) (seen g.D.Device.state c.into_tree.new.rig) c.args.self.batch
    c.in-Err.fault c.in-Err.ensures.hands c.requires.is.0 c.requires.sound c.in-Err.ensures.over

pub returns-in-Err-clause-moves : goal.returns-in-Err-clause-moves
returns-in-Err-clause-moves g c =
    λ before cs h.
    let s = seen g.D.Device.state c.args.rig.now in
    let t = seen g.D.Device.state c.into_tree.new.rig in
    let b = c.args.self.batch in
    within_equal (Some map_share) _ _ b.syncs (batch_counts b).spent s t
    (plain_size b s.pool.shape (before ++ cs) c.requires.is.2.plain)
    (unfinished_moves s t b c.in-Err.fault c.in-Err.ensures.hands c.in-Err.ensures.costs c.requires.sound before cs h)

pub returns-in-Err-clause-owes : goal.returns-in-Err-clause-owes
returns-in-Err-clause-owes g c =
    unfinished_owes (seen g.D.Device.state c.args.rig.now) (seen g.D.Device.state c.into_tree.new.rig) c.args.self.batch
    c.in-Err.fault c.in-Err.ensures.hands
