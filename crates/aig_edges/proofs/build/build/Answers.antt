use Rattle.std.proofs.Common.{Result, arith}
use Rattle.em_space.specs.Seen.{seen}
use Rattle.em_space.proofs.Held.{apart_none}
use Rattle.em_space.proofs.Queues.{out_same}
use Rattle.em_queued.proofs.Queued.{unstored_frames}
use Rattle.aig_text.specs.declared.stop.AigStop.{AigStop}
use Rattle.aig_text.proofs.Lines.{of_error}
use Rattle.aig_edges.specs.Making.{BuildsTo}
use Rattle.aig_edges.specs.declared.graph.Graph.{Graph}
use Rattle.aig_edges.proofs.Graphed.{built, queue_apart}
use Rattle.aig_edges.proofs.Halted.{compare_goes, compare_none}
use Rattle.aig_edges.proofs.Known.{defs_known, gates_known}
use Rattle.aig_edges.proofs.Made.{all_stand, can_compare, can_sort_defs, can_sort_edges, can_sort_gates, defs_none, defs_room, defs_stand, defs_twice, defs_unseen, edges_none, edges_stand, gates_none, gates_room, gates_stand, given, may_compare, none_twice, sizes, some_free, sorted_of}
use Rattle.aig_edges.proofs.build.build.Goals as goal

pub sort_known-requires-clause-can : goal.sort_known-requires-clause-can
sort_known-requires-clause-can g c =
    let laws = g.met.Q.Queue in
    let q = g.Q.Queue in
    let p = c.args.parts in
    let x = c.args.queue.now in
    let r = c.requires in
    let v = given q x p r.sound r.parts r.queue r.begins
    (laws.blocks_most x _ r.queue) r.holds in
    can_sort_defs q x v

pub sort_known-requires-clause-known : goal.sort_known-requires-clause-known
sort_known-requires-clause-known g c =
    let laws = g.met.Q.Queue in
    let q = g.Q.Queue in
    let p = c.args.parts in
    let x = c.args.queue.now in
    let r = c.requires in
    let v = given q x p r.sound r.parts r.queue r.begins
    (laws.blocks_most x _ r.queue) r.holds in
    defs_known q x v

pub returns-in_err-defs-clause-builds : goal.returns-in_err-defs-clause-builds
returns-in_err-defs-clause-builds g c =
    let laws = g.met.Q.Queue in
    let q = g.Q.Queue in
    let p = c.args.parts in
    let x = c.args.queue.now in
    let r = c.requires in
    let v = given q x p r.sound r.parts r.queue r.begins
    (laws.blocks_most x _ r.queue) r.holds in
    of_error (λ (z : Result Graph AigStop). BuildsTo q x c.sort_known.new.queue (seen g.D.Device.state c.args.rig.now) (seen g.D.Device.state c.sort_known.new.rig) p z) _ _
    c.from_residual.ensures.1
    (defs_none q x c.sort_known.new.queue v c.in_err-defs.ensures.sorts)

pub twice-requires-clause-is : goal.twice-requires-clause-is
twice-requires-clause-is g c =
    let laws = g.met.Q.Queue in
    let q = g.Q.Queue in
    let p = c.args.parts in
    let x = c.args.queue.now in
    let r = c.requires in
    let v = given q x p r.sound r.parts r.queue r.begins
    (laws.blocks_most x _ r.queue) r.holds in
    let y = c.sort_known.new.queue in
    let d = c.in_ok-defs.defs in
    let i = c.in_ok-defs.ensures in
    let a = defs_stand q x y d v i.sorts i.queue in
    a.first

pub twice-requires-clause-free : goal.twice-requires-clause-free
twice-requires-clause-free g c =
    let laws = g.met.Q.Queue in
    let q = g.Q.Queue in
    let p = c.args.parts in
    let x = c.args.queue.now in
    let r = c.requires in
    let v = given q x p r.sound r.parts r.queue r.begins
    (laws.blocks_most x _ r.queue) r.holds in
    let y = c.sort_known.new.queue in
    let d = c.in_ok-defs.defs in
    let i = c.in_ok-defs.ensures in
    let a = defs_stand q x y d v i.sorts i.queue in
    let f = some_free v a in omega (arith, f)

pub returns-in_err-place-clause-frames : goal.returns-in_err-place-clause-frames
returns-in_err-place-clause-frames g c =
    let laws = g.met.Q.Queue in
    let y = c.sort_known.new.queue in
    let has = c.in_ok-defs.ensures.frames in
    let look = c.in_err-place.ensures.done.looks.goes in
    laws.frames_stay y _ _ _ has look.touches (out_same _ _ _ (laws.out y _ has) look.frames)

pub returns-in_err-place-clause-builds : goal.returns-in_err-place-clause-builds
returns-in_err-place-clause-builds g c =
    let laws = g.met.Q.Queue in
    let q = g.Q.Queue in
    let p = c.args.parts in
    let x = c.args.queue.now in
    let r = c.requires in
    let v = given q x p r.sound r.parts r.queue r.begins
    (laws.blocks_most x _ r.queue) r.holds in
    let y = c.sort_known.new.queue in
    let d = c.in_ok-defs.defs in
    let i = c.in_ok-defs.ensures in
    let a = defs_stand q x y d v i.sorts i.queue in
    let room = defs_room v i.sorts in
    let few = unstored_frames (laws.unstored_most y _ i.queue) (laws.out y _ i.frames)
    a.runs.runs.session.sound in
    of_error (λ (z : Result Graph AigStop). BuildsTo q x y (seen g.D.Device.state c.args.rig.now) (seen g.D.Device.state c.twice.new.rig) p z) _ _
    c.from_residual-in_err-place.ensures.1
    (defs_unseen q x y v a room few c.in_err-place.ensures.done)

pub returns-in-Some-clause-frames : goal.returns-in-Some-clause-frames
returns-in-Some-clause-frames g c =
    let laws = g.met.Q.Queue in
    let y = c.sort_known.new.queue in
    let has = c.in_ok-defs.ensures.frames in
    let look = c.in_ok-place.ensures.done.0.goes in
    laws.frames_stay y _ _ _ has look.touches (out_same _ _ _ (laws.out y _ has) look.frames)

pub returns-in-Some-clause-builds : goal.returns-in-Some-clause-builds
returns-in-Some-clause-builds g c =
    let laws = g.met.Q.Queue in
    let q = g.Q.Queue in
    let p = c.args.parts in
    let x = c.args.queue.now in
    let r = c.requires in
    let v = given q x p r.sound r.parts r.queue r.begins
    (laws.blocks_most x _ r.queue) r.holds in
    let y = c.sort_known.new.queue in
    let d = c.in_ok-defs.defs in
    let i = c.in_ok-defs.ensures in
    let a = defs_stand q x y d v i.sorts i.queue in
    let room = defs_room v i.sorts in
    let t = seen g.D.Device.state c.twice.new.rig in
    let look = c.in_ok-place.ensures.done.0 in
    let kept = laws.stays y _ _ t i.queue look.goes.touches
    (λ z. apart_none _) (out_same _ _ _ (laws.out y _ i.frames) look.goes.frames) in
    let b = gates_stand q x y a room look kept.0 kept.2 in
    let few = unstored_frames (laws.unstored_most y t kept.0)
    (laws.out y t (laws.frames_of y t kept.0)) b.runs.runs.session.sound in
    defs_twice q x y c.in-Some.place v a b few
    c.in-Some.is
    c.in_ok-place.ensures.done.1

pub sort_known-requires-2-clause-is : goal.sort_known-requires-2-clause-is
sort_known-requires-2-clause-is g c =
    let laws = g.met.Q.Queue in
    let y = c.sort_known.new.queue in
    let i = c.in_ok-defs.ensures in
    let t = seen g.D.Device.state c.twice.new.rig in
    let look = c.in_ok-place.ensures.done.0 in
    let kept = laws.stays y _ _ t i.queue look.goes.touches
    (λ z. apart_none _) (out_same _ _ _ (laws.out y _ i.frames) look.goes.frames) in
    kept.0

pub sort_known-requires-2-clause-can : goal.sort_known-requires-2-clause-can
sort_known-requires-2-clause-can g c =
    let laws = g.met.Q.Queue in
    let q = g.Q.Queue in
    let p = c.args.parts in
    let x = c.args.queue.now in
    let r = c.requires in
    let v = given q x p r.sound r.parts r.queue r.begins
    (laws.blocks_most x _ r.queue) r.holds in
    let y = c.sort_known.new.queue in
    let d = c.in_ok-defs.defs in
    let i = c.in_ok-defs.ensures in
    let a = defs_stand q x y d v i.sorts i.queue in
    let room = defs_room v i.sorts in
    let t = seen g.D.Device.state c.twice.new.rig in
    let look = c.in_ok-place.ensures.done.0 in
    let kept = laws.stays y _ _ t i.queue look.goes.touches
    (λ z. apart_none _) (out_same _ _ _ (laws.out y _ i.frames) look.goes.frames) in
    let b = gates_stand q x y a room look kept.0 kept.2 in
    let once = none_twice a c.in_default.is c.in_ok-place.ensures.done.1 in
    can_sort_gates q x y v once b

pub sort_known-requires-2-clause-known : goal.sort_known-requires-2-clause-known
sort_known-requires-2-clause-known g c =
    let laws = g.met.Q.Queue in
    let q = g.Q.Queue in
    let p = c.args.parts in
    let x = c.args.queue.now in
    let r = c.requires in
    let v = given q x p r.sound r.parts r.queue r.begins
    (laws.blocks_most x _ r.queue) r.holds in
    let y = c.sort_known.new.queue in
    let d = c.in_ok-defs.defs in
    let i = c.in_ok-defs.ensures in
    let a = defs_stand q x y d v i.sorts i.queue in
    let room = defs_room v i.sorts in
    let t = seen g.D.Device.state c.twice.new.rig in
    let look = c.in_ok-place.ensures.done.0 in
    let kept = laws.stays y _ _ t i.queue look.goes.touches
    (λ z. apart_none _) (out_same _ _ _ (laws.out y _ i.frames) look.goes.frames) in
    let b = gates_stand q x y a room look kept.0 kept.2 in
    gates_known q x y v b

pub returns-in_err-gates-clause-builds : goal.returns-in_err-gates-clause-builds
returns-in_err-gates-clause-builds g c =
    let laws = g.met.Q.Queue in
    let q = g.Q.Queue in
    let p = c.args.parts in
    let x = c.args.queue.now in
    let r = c.requires in
    let v = given q x p r.sound r.parts r.queue r.begins
    (laws.blocks_most x _ r.queue) r.holds in
    let y = c.sort_known.new.queue in
    let d = c.in_ok-defs.defs in
    let i = c.in_ok-defs.ensures in
    let a = defs_stand q x y d v i.sorts i.queue in
    let room = defs_room v i.sorts in
    let t = seen g.D.Device.state c.twice.new.rig in
    let look = c.in_ok-place.ensures.done.0 in
    let kept = laws.stays y _ _ t i.queue look.goes.touches
    (λ z. apart_none _) (out_same _ _ _ (laws.out y _ i.frames) look.goes.frames) in
    let b = gates_stand q x y a room look kept.0 kept.2 in
    of_error (λ (z : Result Graph AigStop). BuildsTo q x c.sort_known-2.new.queue (seen g.D.Device.state c.args.rig.now) (seen g.D.Device.state c.sort_known-2.new.rig) p z) _ _
    c.from_residual-in_err-gates.ensures.1
    (gates_none q x y c.sort_known-2.new.queue v room b c.in_err-gates.ensures.sorts)

pub sort_edges-requires-clause-can : goal.sort_edges-requires-clause-can
sort_edges-requires-clause-can g c =
    let laws = g.met.Q.Queue in
    let q = g.Q.Queue in
    let p = c.args.parts in
    let x = c.args.queue.now in
    let r = c.requires in
    let v = given q x p r.sound r.parts r.queue r.begins
    (laws.blocks_most x _ r.queue) r.holds in
    let y = c.sort_known.new.queue in
    let d = c.in_ok-defs.defs in
    let i = c.in_ok-defs.ensures in
    let a = defs_stand q x y d v i.sorts i.queue in
    let room = defs_room v i.sorts in
    let t = seen g.D.Device.state c.twice.new.rig in
    let look = c.in_ok-place.ensures.done.0 in
    let kept = laws.stays y _ _ t i.queue look.goes.touches
    (λ z. apart_none _) (out_same _ _ _ (laws.out y _ i.frames) look.goes.frames) in
    let b = gates_stand q x y a room look kept.0 kept.2 in
    let once = none_twice a c.in_default.is c.in_ok-place.ensures.done.1 in
    let w = c.sort_known-2.new.queue in
    let j = c.in_ok-gates.ensures in
    let e = edges_stand q x y w c.in_ok-gates.gates v room b j.sorts j.queue in
    can_sort_edges q x w v once j.sorts.count_is e

pub returns-in_err-edges-clause-builds : goal.returns-in_err-edges-clause-builds
returns-in_err-edges-clause-builds g c =
    let laws = g.met.Q.Queue in
    let q = g.Q.Queue in
    let p = c.args.parts in
    let x = c.args.queue.now in
    let r = c.requires in
    let v = given q x p r.sound r.parts r.queue r.begins
    (laws.blocks_most x _ r.queue) r.holds in
    let y = c.sort_known.new.queue in
    let d = c.in_ok-defs.defs in
    let i = c.in_ok-defs.ensures in
    let a = defs_stand q x y d v i.sorts i.queue in
    let room = defs_room v i.sorts in
    let t = seen g.D.Device.state c.twice.new.rig in
    let look = c.in_ok-place.ensures.done.0 in
    let kept = laws.stays y _ _ t i.queue look.goes.touches
    (λ z. apart_none _) (out_same _ _ _ (laws.out y _ i.frames) look.goes.frames) in
    let b = gates_stand q x y a room look kept.0 kept.2 in
    let w = c.sort_known-2.new.queue in
    let j = c.in_ok-gates.ensures in
    let e = edges_stand q x y w c.in_ok-gates.gates v room b j.sorts j.queue in
    let size = gates_room v b j.sorts in
    of_error (λ (z : Result Graph AigStop). BuildsTo q x c.sort_edges.new.queue (seen g.D.Device.state c.args.rig.now) (seen g.D.Device.state c.sort_edges.new.rig) p z) _ _
    c.from_residual-in_err-edges.ensures.1
    (edges_none q x w c.sort_edges.new.queue v room size j.sorts.count_is e c.in_err-edges.ensures.sorts)

pub compare-requires : goal.compare-requires
compare-requires g c =
    let laws = g.met.Q.Queue in
    let q = g.Q.Queue in
    let p = c.args.parts in
    let x = c.args.queue.now in
    let r = c.requires in
    let v = given q x p r.sound r.parts r.queue r.begins
    (laws.blocks_most x _ r.queue) r.holds in
    let y = c.sort_known.new.queue in
    let d = c.in_ok-defs.defs in
    let i = c.in_ok-defs.ensures in
    let a = defs_stand q x y d v i.sorts i.queue in
    let room = defs_room v i.sorts in
    let t = seen g.D.Device.state c.twice.new.rig in
    let look = c.in_ok-place.ensures.done.0 in
    let kept = laws.stays y _ _ t i.queue look.goes.touches
    (λ z. apart_none _) (out_same _ _ _ (laws.out y _ i.frames) look.goes.frames) in
    let b = gates_stand q x y a room look kept.0 kept.2 in
    let once = none_twice a c.in_default.is c.in_ok-place.ensures.done.1 in
    let w = c.sort_known-2.new.queue in
    let j = c.in_ok-gates.ensures in
    let e = edges_stand q x y w c.in_ok-gates.gates v room b j.sorts j.queue in
    let size = gates_room v b j.sorts in
    let k = c.in_ok-edges.ensures in
    let m = c.sort_edges.new.queue in
    let l = all_stand q x w m c.in_ok-edges.edges v once room size j.sorts.count_is e
    k.sorts k.queue in
    let all = sizes v i.sorts.count_is room size j.sorts.count_is e k.sorts in
    record { can = can_compare q x m v once all l }

pub returns-in_err-sources-clause-frames : goal.returns-in_err-sources-clause-frames
returns-in_err-sources-clause-frames g c =
    let laws = g.met.Q.Queue in
    let m = c.sort_edges.new.queue in
    let has = c.in_ok-edges.ensures.frames in
    let goes = compare_goes _ _ _ _ c.in_err-sources.ensures.done in
    laws.frames_stay m _ _ _ has goes.touches (out_same _ _ _ (laws.out m _ has) goes.frames)

pub returns-in_err-sources-clause-builds : goal.returns-in_err-sources-clause-builds
returns-in_err-sources-clause-builds g c =
    let laws = g.met.Q.Queue in
    let q = g.Q.Queue in
    let p = c.args.parts in
    let x = c.args.queue.now in
    let r = c.requires in
    let v = given q x p r.sound r.parts r.queue r.begins
    (laws.blocks_most x _ r.queue) r.holds in
    let y = c.sort_known.new.queue in
    let d = c.in_ok-defs.defs in
    let i = c.in_ok-defs.ensures in
    let a = defs_stand q x y d v i.sorts i.queue in
    let room = defs_room v i.sorts in
    let t = seen g.D.Device.state c.twice.new.rig in
    let look = c.in_ok-place.ensures.done.0 in
    let kept = laws.stays y _ _ t i.queue look.goes.touches
    (λ z. apart_none _) (out_same _ _ _ (laws.out y _ i.frames) look.goes.frames) in
    let b = gates_stand q x y a room look kept.0 kept.2 in
    let once = none_twice a c.in_default.is c.in_ok-place.ensures.done.1 in
    let w = c.sort_known-2.new.queue in
    let j = c.in_ok-gates.ensures in
    let e = edges_stand q x y w c.in_ok-gates.gates v room b j.sorts j.queue in
    let size = gates_room v b j.sorts in
    let k = c.in_ok-edges.ensures in
    let m = c.sort_edges.new.queue in
    let l = all_stand q x w m c.in_ok-edges.edges v once room size j.sorts.count_is e
    k.sorts k.queue in
    let all = sizes v i.sorts.count_is room size j.sorts.count_is e k.sorts in
    let may = may_compare q x m v all l (laws.blocks_most m _ k.queue)
    (unstored_frames (laws.unstored_most m _ k.queue) (laws.out m _ k.frames)
    l.runs.runs.session.sound) (laws.fits m _ k.frames) in
    of_error (λ (z : Result Graph AigStop). BuildsTo q x m (seen g.D.Device.state c.args.rig.now) (seen g.D.Device.state c.compare.new.rig) p z) _ _
    c.from_residual-in_err-sources.ensures.1
    (compare_none q x m p _ l may (sorted_of once l) c.in_err-sources.ensures.done)

pub returns-clause-frames : goal.returns-clause-frames
returns-clause-frames g c =
    let laws = g.met.Q.Queue in
    let m = c.sort_edges.new.queue in
    let has = c.in_ok-edges.ensures.frames in
    let h = c.in_ok-sources.ensures.done.runs in
    laws.frames_stay m _ _ _ has h.session.touches (out_same _ _ _ (laws.out m _ has) h.frames)

pub returns-clause-queue : goal.returns-clause-queue
returns-clause-queue g c =
    let laws = g.met.Q.Queue in
    let q = g.Q.Queue in
    let p = c.args.parts in
    let x = c.args.queue.now in
    let r = c.requires in
    let v = given q x p r.sound r.parts r.queue r.begins
    (laws.blocks_most x _ r.queue) r.holds in
    let y = c.sort_known.new.queue in
    let d = c.in_ok-defs.defs in
    let i = c.in_ok-defs.ensures in
    let a = defs_stand q x y d v i.sorts i.queue in
    let room = defs_room v i.sorts in
    let t = seen g.D.Device.state c.twice.new.rig in
    let look = c.in_ok-place.ensures.done.0 in
    let kept = laws.stays y _ _ t i.queue look.goes.touches
    (λ z. apart_none _) (out_same _ _ _ (laws.out y _ i.frames) look.goes.frames) in
    let b = gates_stand q x y a room look kept.0 kept.2 in
    let once = none_twice a c.in_default.is c.in_ok-place.ensures.done.1 in
    let w = c.sort_known-2.new.queue in
    let j = c.in_ok-gates.ensures in
    let e = edges_stand q x y w c.in_ok-gates.gates v room b j.sorts j.queue in
    let size = gates_room v b j.sorts in
    let k = c.in_ok-edges.ensures in
    let m = c.sort_edges.new.queue in
    let l = all_stand q x w m c.in_ok-edges.edges v once room size j.sorts.count_is e
    k.sorts k.queue in
    let u = seen g.D.Device.state c.compare.new.rig in
    let h = c.in_ok-sources.ensures.done in
    let still = laws.stays m _ _ u k.queue h.runs.session.touches (queue_apart q x m l)
    (out_same _ _ _ (laws.out m _ k.frames) h.runs.frames) in
    still.0

pub returns-clause-builds : goal.returns-clause-builds
returns-clause-builds g c =
    let laws = g.met.Q.Queue in
    let q = g.Q.Queue in
    let p = c.args.parts in
    let x = c.args.queue.now in
    let r = c.requires in
    let v = given q x p r.sound r.parts r.queue r.begins
    (laws.blocks_most x _ r.queue) r.holds in
    let y = c.sort_known.new.queue in
    let d = c.in_ok-defs.defs in
    let i = c.in_ok-defs.ensures in
    let a = defs_stand q x y d v i.sorts i.queue in
    let room = defs_room v i.sorts in
    let t = seen g.D.Device.state c.twice.new.rig in
    let look = c.in_ok-place.ensures.done.0 in
    let kept = laws.stays y _ _ t i.queue look.goes.touches
    (λ z. apart_none _) (out_same _ _ _ (laws.out y _ i.frames) look.goes.frames) in
    let b = gates_stand q x y a room look kept.0 kept.2 in
    let once = none_twice a c.in_default.is c.in_ok-place.ensures.done.1 in
    let w = c.sort_known-2.new.queue in
    let j = c.in_ok-gates.ensures in
    let e = edges_stand q x y w c.in_ok-gates.gates v room b j.sorts j.queue in
    let size = gates_room v b j.sorts in
    let k = c.in_ok-edges.ensures in
    let m = c.sort_edges.new.queue in
    let l = all_stand q x w m c.in_ok-edges.edges v once room size j.sorts.count_is e
    k.sorts k.queue in
    let all = sizes v i.sorts.count_is room size j.sorts.count_is e k.sorts in
    let may = may_compare q x m v all l (laws.blocks_most m _ k.queue)
    (unstored_frames (laws.unstored_most m _ k.queue) (laws.out m _ k.frames)
    l.runs.runs.session.sound) (laws.fits m _ k.frames) in
    let u = seen g.D.Device.state c.compare.new.rig in
    let h = c.in_ok-sources.ensures.done in
    let still = laws.stays m _ _ u k.queue h.runs.session.touches (queue_apart q x m l)
    (out_same _ _ _ (laws.out m _ k.frames) h.runs.frames) in
    built q x m _ v once all l may h still.2
