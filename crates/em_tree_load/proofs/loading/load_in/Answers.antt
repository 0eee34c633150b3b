use Rattle.std.proofs.Common.{ℕ, ◌+◌, ◌<◌, ◌*◌, length, ap, arith, subst, sym, ◌∙◌, Err, Ok}
use Rattle.std.proofs.lemmas.Bool.{false≢true}
use Rattle.em_record.specs.Shape.{ShapeNumbers, fan_of}
use Rattle.em_frames.specs.Pool.{load_of}
use Rattle.em_node.specs.declared.entry.Entry.{Entry}
use Rattle.em_node.specs.Node.{IsLimited, entries_of}
use Rattle.em_space.specs.Seen.{seen}
use Rattle.em_tree_blocks.specs.Node.{buffer_of}
use Rattle.em_tree_walk.proofs.Standing.{linked_up}
use Rattle.em_tree_walk.proofs.Takings.{limit_of}
use Rattle.em_tree_load.proofs.Changed.{node_later}
use Rattle.em_tree_load.proofs.NodeStops.{can_change, can_settle, frames_changed, here_of, leaf_later, loads_here, node_used_later, reading_frame, settles_here, settling_here, unread_here, unroomed}
use Rattle.em_space.proofs.Ledgers.{full_never}
use Rattle.em_tree_load.specs.LoadRoom.{LacksLoad}
use Rattle.em_tree_load.proofs.LoadTaken.{changed_takes, here_stops, settling_lacks, took_settling}
use Rattle.em_leaf.specs.Effects.{loading_room}
use Rattle.em_tree_load.specs.LeafLoads.{taken_of, waiting_over}
use Rattle.em_tree_load.proofs.LoadPeaks.{here_peaks, stored_peaks}
use Rattle.em_tree_load.proofs.Peaks.{peaks_same, peaks_wider}
use Rattle.em_tree_load.proofs.loading.load_in.Goals as goal

pub load_node-requires-clause-leads : goal.load_node-requires-clause-leads
load_node-requires-clause-leads g c = record {
  in_use = c.requires.can.in_use;
  told = λ z. (c.requires.can.told z).stands;
}

pub returns-in_err-load_node-clause-frame : goal.returns-in_err-load_node-clause-frame
returns-in_err-load_node-clause-frame g c =
    reading_frame (seen g.D.Device.state c.load_node.new.rig) c.requires.can c.in_err-load_node.ensures.reads.stops.reads.goes.frames

pub returns-in_err-load_node-clause-loads : goal.returns-in_err-load_node-clause-loads
returns-in_err-load_node-clause-loads g c =
    here_of _ _ _ _ _ _ _ _ c.from_residual.result _ c.from_residual.ensures.1
    (unread_here c.requires.can c.in_err-load_node.ensures.reads)

pub returns-then-not-has_room_at-clause-frame : goal.returns-then-not-has_room_at-clause-frame
returns-then-not-has_room_at-clause-frame g c =
    reading_frame (seen g.D.Device.state c.load_node.new.rig) c.requires.can c.in_ok-load_node.ensures.reads.reads.goes.frames

pub returns-then-not-has_room_at-clause-loads : goal.returns-then-not-has_room_at-clause-loads
returns-then-not-has_room_at-clause-loads g c =
    let x = c.in_ok-load_node.ensures.reads in
    let same = c.shape-shape.ensures ∙ x.reads.goes.touches.shape in
    let b = c.load_node.new.frame in
    let n : ℕ = length (entries_of b) in
    let R : ShapeNumbers → Type 0 = λ sh. n < 2 * fan_of sh in
    unroomed c.requires.sound c.requires.can x
    (λ q. false≢true (sym c.if-not-has_room_at.true
    ∙ c.has_room_at.ensures.1 (q.0, subst R (sym same) q.1)))

pub child_in-leaf-requires-clause-at : goal.child_in-leaf-requires-clause-at
child_in-leaf-requires-clause-at g c = (c.has_room_at.ensures.0 c.if-not-has_room_at.false).0

pub child_in-leaf-requires-clause-linked : goal.child_in-leaf-requires-clause-linked
child_in-leaf-requires-clause-linked g c =
    linked_up _ _ c.in_ok-load_node.ensures.reads.is.node.linked

pub entry_at-entry-requires-clause-at : goal.entry_at-entry-requires-clause-at
entry_at-entry-requires-clause-at g c = (c.has_room_at.ensures.0 c.if-not-has_room_at.false).0

pub buffer_of-buffer-requires : goal.buffer_of-buffer-requires
buffer_of-buffer-requires g c =
    subst (λ (e : Entry). IsLimited e) (sym c.entry_at-entry.ensures)
    (limit_of (entries_of c.load_node.new.frame) c.args.at
    (c.has_room_at.ensures.0 c.if-not-has_room_at.false).0
    c.in_ok-load_node.ensures.reads.is.node.node.is.limited)

pub settle_leaf-requires-clause-can : goal.settle_leaf-requires-clause-can
settle_leaf-requires-clause-can g c =
    can_settle c.requires.sound c.requires.can c.in_ok-load_node.ensures.reads
    (c.has_room_at.ensures.0 c.if-not-has_room_at.false).0 c.child_in-leaf.ensures
    (c.buffer_of-buffer.ensures ∙ ap buffer_of c.entry_at-entry.ensures)

pub settle_leaf-requires-clause-room : goal.settle_leaf-requires-clause-room
settle_leaf-requires-clause-room g c =
    c.requires.room ∙ ap load_of (sym c.in_ok-load_node.ensures.reads.reads.goes.touches.shape)

pub settle_leaf-requires-clause-free : goal.settle_leaf-requires-clause-free
settle_leaf-requires-clause-free g c =
    omega (arith, c.in_ok-load_node.ensures.reads.reads.goes.frames.free, c.requires.free)

pub returns-in_err-settled-clause-loads : goal.returns-in_err-settled-clause-loads
returns-in_err-settled-clause-loads g c =
    let x = c.in_ok-load_node.ensures.reads in
    let one = (c.has_room_at.ensures.0 c.if-not-has_room_at.false).0 in
    let buffer = c.buffer_of-buffer.ensures ∙ ap buffer_of c.entry_at-entry.ensures in
    here_of _ _ _ _ _ _ _ _ c.from_residual-in_err-settled.result _
    c.from_residual-in_err-settled.ensures.1
    (settling_here c.requires.sound c.requires.can x one c.child_in-leaf.ensures buffer
    (settles_here c.requires.sound c.requires.can x one c.child_in-leaf.ensures buffer
    (seen g.D.Device.state c.settle_leaf.new.rig) c.settle_leaf.new.answers (g.S.Settle.step_of c.args.settle.now) (Err c.in_err-settled.field-0.0)
    c.in_err-settled.ensures.settles))

pub store_change-requires-clause-sound : goal.store_change-requires-clause-sound
store_change-requires-clause-sound g c = c.in_ok-settled.ensures.settles.runs.session.sound

pub store_change-requires-clause-leaf_in_use : goal.store_change-requires-clause-leaf_in_use
store_change-requires-clause-leaf_in_use g c =
    let x = c.in_ok-load_node.ensures.reads in
    let one = (c.has_room_at.ensures.0 c.if-not-has_room_at.false).0 in
    let buffer = c.buffer_of-buffer.ensures ∙ ap buffer_of c.entry_at-entry.ensures in
    let step = g.S.Settle.step_of c.args.settle.now in
    leaf_later c.requires.sound c.requires.can x one c.child_in-leaf.ensures buffer step
    (g.met.S.Settle.keeps_key c.args.settle.now)
    (settles_here c.requires.sound c.requires.can x one c.child_in-leaf.ensures buffer _ _ step
    (Ok c.in_ok-settled.settled) c.in_ok-settled.ensures.settles)
    (can_settle c.requires.sound c.requires.can x one c.child_in-leaf.ensures buffer).leads.in_use

pub store_change-requires-clause-in_use : goal.store_change-requires-clause-in_use
store_change-requires-clause-in_use g c =
    let x = c.in_ok-load_node.ensures.reads in
    let one = (c.has_room_at.ensures.0 c.if-not-has_room_at.false).0 in
    let buffer = c.buffer_of-buffer.ensures ∙ ap buffer_of c.entry_at-entry.ensures in
    let step = g.S.Settle.step_of c.args.settle.now in
    node_used_later c.requires.sound c.requires.can x one c.child_in-leaf.ensures buffer step
    (g.met.S.Settle.keeps_key c.args.settle.now)
    (settles_here c.requires.sound c.requires.can x one c.child_in-leaf.ensures buffer _ _ step
    (Ok c.in_ok-settled.settled) c.in_ok-settled.ensures.settles)

pub store_change-requires-clause-can : goal.store_change-requires-clause-can
store_change-requires-clause-can g c =
    let x = c.in_ok-load_node.ensures.reads in
    let one = (c.has_room_at.ensures.0 c.if-not-has_room_at.false).0 in
    let buffer = c.buffer_of-buffer.ensures ∙ ap buffer_of c.entry_at-entry.ensures in
    let step = g.S.Settle.step_of c.args.settle.now in
    can_change c.requires.sound c.requires.can x one c.child_in-leaf.ensures buffer step
    (g.met.S.Settle.keeps_key c.args.settle.now)
    (settles_here c.requires.sound c.requires.can x one c.child_in-leaf.ensures buffer _ _ step
    (Ok c.in_ok-settled.settled) c.in_ok-settled.ensures.settles)

pub store_change-requires-clause-rest : goal.store_change-requires-clause-rest
store_change-requires-clause-rest g c = c.in_ok-settled.ensures.settles.chain

pub store_change-requires-clause-len : goal.store_change-requires-clause-len
store_change-requires-clause-len g c =
    let block = λ (sh : ShapeNumbers). sh.block in
    c.load_node.ensures.len ∙ (c.requires.len
    ∙ (ap block (sym c.in_ok-load_node.ensures.reads.reads.goes.touches.shape)
    ∙ ap block (sym c.in_ok-settled.ensures.settles.runs.session.touches.shape)))

pub store_change-requires-clause-node : goal.store_change-requires-clause-node
store_change-requires-clause-node g c =
    node_later _ c.in_ok-settled.ensures.settles.runs.session.touches
    (node_later _ c.in_ok-load_node.ensures.reads.reads.goes.touches
    c.in_ok-load_node.ensures.reads.is.node)

pub store_change-requires-clause-at : goal.store_change-requires-clause-at
store_change-requires-clause-at g c = (c.has_room_at.ensures.0 c.if-not-has_room_at.false).0

pub store_change-requires-clause-room : goal.store_change-requires-clause-room
store_change-requires-clause-room g c =
    let n : ℕ = length (entries_of c.load_node.new.frame) in
    let R : ShapeNumbers → Type 0 = λ sh. n < 2 * fan_of sh in
    subst R (c.shape-shape.ensures ∙ sym c.in_ok-settled.ensures.settles.runs.session.touches.shape)
    (c.has_room_at.ensures.0 c.if-not-has_room_at.false).1

pub store_change-requires-clause-free : goal.store_change-requires-clause-free
store_change-requires-clause-free g c =
    omega (
      arith,
      c.in_ok-settled.ensures.settles.runs.frames.free,
      c.in_ok-load_node.ensures.reads.reads.goes.frames.free,
      c.requires.free,
    )

pub returns-clause-frame : goal.returns-clause-frame
returns-clause-frame g c =
    frames_changed _ _ _ _ _ _ _ _ _ c.settle_leaf.new.answers c.store_change.result c.store_change.ensures.changes
    c.in_ok-settled.ensures.frame

pub returns-clause-loads : goal.returns-clause-loads
returns-clause-loads g c =
    let x = c.in_ok-load_node.ensures.reads in
    let one = (c.has_room_at.ensures.0 c.if-not-has_room_at.false).0 in
    let buffer = c.buffer_of-buffer.ensures ∙ ap buffer_of c.entry_at-entry.ensures in
    let step = g.S.Settle.step_of c.args.settle.now in
    loads_here c.requires.sound c.requires.can x one c.child_in-leaf.ensures buffer step
    (g.met.S.Settle.keeps_key c.args.settle.now)
    (settles_here c.requires.sound c.requires.can x one c.child_in-leaf.ensures buffer _ _ step
    (Ok c.in_ok-settled.settled) c.in_ok-settled.ensures.settles) _ _ c.store_change.result
    x.is.level_is c.store_change.ensures.changes

pub returns-in_err-load_node-clause-takes : goal.returns-in_err-load_node-clause-takes
returns-in_err-load_node-clause-takes g c z =
    let key = g.S.Settle.key_of c.args.settle.now in
    let step = g.S.Settle.step_of c.args.settle.now in
    let s = seen g.D.Device.state c.args.rig.now in
    let t = seen g.D.Device.state c.load_node.new.rig in
    here_stops key step s t c.args.node c.args.at c.args.answers.now c.from_residual.result _
    c.from_residual.ensures.1 (full_never s t _ (LacksLoad key step s c.args.node c.args.at
    c.args.answers.now) c.in_err-load_node.ensures.reads.stops.cause)

pub returns-in_err-settled-clause-takes : goal.returns-in_err-settled-clause-takes
returns-in_err-settled-clause-takes g c z =
    let x = c.in_ok-load_node.ensures.reads in
    let one = (c.has_room_at.ensures.0 c.if-not-has_room_at.false).0 in
    let buffer = c.buffer_of-buffer.ensures ∙ ap buffer_of c.entry_at-entry.ensures in
    let step = g.S.Settle.step_of c.args.settle.now in
    let t = seen g.D.Device.state c.settle_leaf.new.rig in
    here_stops (g.S.Settle.key_of c.args.settle.now) step
    (seen g.D.Device.state c.args.rig.now) t c.args.node c.args.at c.args.answers.now
    c.from_residual-in_err-settled.result _ c.from_residual-in_err-settled.ensures.1
    (settling_lacks c.requires.sound c.requires.can x one c.child_in-leaf.ensures buffer step _ z
    (took_settling c.requires.sound c.requires.can x one c.child_in-leaf.ensures buffer step t
    (Err c.in_err-settled.field-0.0) c.in_err-settled.ensures.takes))

pub returns-clause-takes : goal.returns-clause-takes
returns-clause-takes g c z =
    let x = c.in_ok-load_node.ensures.reads in
    let one = (c.has_room_at.ensures.0 c.if-not-has_room_at.false).0 in
    let buffer = c.buffer_of-buffer.ensures ∙ ap buffer_of c.entry_at-entry.ensures in
    let step = g.S.Settle.step_of c.args.settle.now in
    changed_takes c.requires.sound c.requires.can x one c.child_in-leaf.ensures buffer step
    c.in_ok-settled.settled z
    (settles_here c.requires.sound c.requires.can x one c.child_in-leaf.ensures buffer _ _ step
    (Ok c.in_ok-settled.settled) c.in_ok-settled.ensures.settles)
    (took_settling c.requires.sound c.requires.can x one c.child_in-leaf.ensures buffer step _
    (Ok c.in_ok-settled.settled) c.in_ok-settled.ensures.takes)
    (seen g.D.Device.state c.store_change.new.rig) (entries_of c.load_node.new.frame) _
    c.store_change.result
    c.store_change.ensures.changes c.store_change.ensures.takes

pub returns-in_err-load_node-clause-peaks : goal.returns-in_err-load_node-clause-peaks
returns-in_err-load_node-clause-peaks g c z =
    let s = seen g.D.Device.state c.args.rig.now in
    peaks_same (loading_room s (taken_of s (length (waiting_over s c.args.node c.args.at))) + 1)
    c.in_err-load_node.ensures.reads.stops.reads.same

pub returns-then-not-has_room_at-clause-peaks : goal.returns-then-not-has_room_at-clause-peaks
returns-then-not-has_room_at-clause-peaks g c z =
    let s = seen g.D.Device.state c.args.rig.now in
    peaks_same (loading_room s (taken_of s (length (waiting_over s c.args.node c.args.at))) + 1)
    c.in_ok-load_node.ensures.reads.reads.same

pub returns-in_err-settled-clause-peaks : goal.returns-in_err-settled-clause-peaks
returns-in_err-settled-clause-peaks g c z =
    let s = seen g.D.Device.state c.args.rig.now in
    let x = c.in_ok-load_node.ensures.reads in
    let one = (c.has_room_at.ensures.0 c.if-not-has_room_at.false).0 in
    let buffer = c.buffer_of-buffer.ensures ∙ ap buffer_of c.entry_at-entry.ensures in
    peaks_wider (loading_room s (taken_of s (length (waiting_over s c.args.node c.args.at))) + 1)
    (omega arith) (here_peaks c.requires.sound c.requires.can x one c.child_in-leaf.ensures buffer
    (g.S.Settle.step_of c.args.settle.now) z c.in_err-settled.ensures.peaks)

pub returns-clause-peaks : goal.returns-clause-peaks
returns-clause-peaks g c z =
    let x = c.in_ok-load_node.ensures.reads in
    let one = (c.has_room_at.ensures.0 c.if-not-has_room_at.false).0 in
    let buffer = c.buffer_of-buffer.ensures ∙ ap buffer_of c.entry_at-entry.ensures in
    stored_peaks c.requires.sound c.requires.can x one c.child_in-leaf.ensures buffer
    (g.S.Settle.step_of c.args.settle.now) z c.in_ok-settled.ensures.peaks c.store_change.ensures.peaks
