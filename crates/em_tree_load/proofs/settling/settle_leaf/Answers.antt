use Rattle.std.proofs.Common.{◌+◌, ◌<◌, min, ap, arith, sym, ◌∙◌}
use Rattle.std.proofs.lemmas.Bool.{false≢true}
use Rattle.em_record.specs.Shape.{ShapeNumbers}
use Rattle.em_frames.specs.Pool.{load_of}
use Rattle.em_tree_load.proofs.FirstSettles.{settles_of}
use Rattle.em_tree_load.proofs.SettlesAt.{grow_stops, read_buffer, read_can, read_items, settles_at, unread_frame, unread_settles}
use Rattle.em_space.specs.Seen.{seen}
use Rattle.em_space.proofs.Ledgers.{full_never}
use Rattle.em_tree_blocks.specs.Reading.{stored_chain}
use Rattle.em_tree_load.proofs.LoadRooms.{settling_from, settling_never}
use Rattle.em_leaf.specs.Effects.{loading_room}
use Rattle.em_tree_load.proofs.LoadPeaks.{settling_peaks}
use Rattle.em_tree_load.proofs.Peaks.{peaks_same}
use Rattle.em_tree_load.proofs.settling.settle_leaf.Goals as goal
use Rattle.em_tree_load.specs.LeafSettles.{load_count}

pub returns-then-not-can_grow-clause-settles : goal.returns-then-not-can_grow-clause-settles
returns-then-not-can_grow-clause-settles g c =
    let count = λ (sh : ShapeNumbers). min c.args.buffer.count (load_of sh) in
    grow_stops c.requires.sound c.requires.can
    (c.count_to_load-count.ensures ∙ ap count c.shape-shape.ensures)
    (λ q. false≢true (sym c.if-not-can_grow.true ∙ c.can_grow.ensures.1 q))

pub returns-in_err-stored-clause-frame : goal.returns-in_err-stored-clause-frame
returns-in_err-stored-clause-frame g c =
    unread_frame c.requires.sound c.requires.can c.in_err-stored.ensures

pub returns-in_err-stored-clause-settles : goal.returns-in_err-stored-clause-settles
returns-in_err-stored-clause-settles g c =
    settles_of _ _ _ _ _ _ _ _ 1 c.from_residual.result _ c.from_residual.ensures.1
    (unread_settles c.requires.sound c.requires.can c.in_err-stored.ensures)

pub settle_stored-requires-clause-can : goal.settle_stored-requires-clause-can
settle_stored-requires-clause-can g c =
    let o = c.in_ok-stored.ensures in
    let can = c.requires.can in
    read_can can.buffer_is can.writer can.told o.reads o.is (λ z. (can.leads.told z).is.stored)
    o.chain

pub settle_stored-requires-clause-count : goal.settle_stored-requires-clause-count
settle_stored-requires-clause-count g c =
    let count = λ (sh : ShapeNumbers). min c.args.buffer.count (load_of sh) in
    c.count_to_load-count.ensures ∙ (ap count c.shape-shape.ensures
    ∙ ap count (sym c.in_ok-stored.ensures.reads.goes.touches.shape))

pub settle_stored-requires-clause-grow : goal.settle_stored-requires-clause-grow
settle_stored-requires-clause-grow g c = c.can_grow.ensures.0 c.if-not-can_grow.false

pub settle_stored-requires-clause-room : goal.settle_stored-requires-clause-room
settle_stored-requires-clause-room g c =
    c.requires.room ∙ ap load_of (sym c.in_ok-stored.ensures.reads.goes.touches.shape)

pub settle_stored-requires-clause-free : goal.settle_stored-requires-clause-free
settle_stored-requires-clause-free g c =
    omega (arith, c.in_ok-stored.ensures.reads.goes.frames.free, c.requires.free)

pub returns-clause-settles : goal.returns-clause-settles
returns-clause-settles g c =
    let o = c.in_ok-stored.ensures in
    let can = c.requires.can in
    settles_at can.buffer_is can.writer can.told o.reads o.is (λ z. (can.leads.told z).is.stored) _
    _ 0 (g.S.Settle.step_of c.args.settle.now) c.settle_stored.result c.settle_stored.ensures.settles

pub returns-then-not-can_grow-clause-takes : goal.returns-then-not-can_grow-clause-takes
returns-then-not-can_grow-clause-takes g c = record { room = tt; needs = λ z. tt }

pub returns-in_err-stored-clause-takes : goal.returns-in_err-stored-clause-takes
returns-in_err-stored-clause-takes g c =
    let s = seen g.D.Device.state c.args.rig.now in
    let t = seen g.D.Device.state c.read_leaf.new.rig in
    settling_never (g.S.Settle.key_of c.args.settle.now) (g.S.Settle.step_of c.args.settle.now)
    s t (stored_chain s c.args.leaf) c.args.buffer c.args.answers.now c.from_residual.result _
    c.from_residual.ensures.1 c.requires.sound c.requires.can.writer
    (full_never s t _ (s.blocks + 0 < s.used + 0) c.in_err-stored.ensures.stops.cause)

pub returns-clause-takes : goal.returns-clause-takes
returns-clause-takes g c =
    let s = seen g.D.Device.state c.args.rig.now in
    let r = seen g.D.Device.state c.read_leaf.new.rig in
    let o = c.in_ok-stored.ensures in
    let can = c.requires.can in
    settling_from (g.S.Settle.key_of c.args.settle.now) (g.S.Settle.step_of c.args.settle.now)
    s r (seen g.D.Device.state c.settle_stored.new.rig) (stored_chain s c.args.leaf)
    c.in_ok-stored.stored c.args.buffer c.args.answers.now c.settle_stored.result
    o.reads.same.used o.reads.goes.touches
    (read_items can.buffer_is can.writer can.told o.reads o.is (λ z. (can.leads.told z).is.stored))
    (read_buffer can.buffer_is can.writer can.told o.reads o.is
    (λ z. (can.leads.told z).is.stored)).items c.settle_stored.ensures.takes

pub returns-then-not-can_grow-clause-peaks : goal.returns-then-not-can_grow-clause-peaks
returns-then-not-can_grow-clause-peaks g c =
    record { used = omega arith; most = omega arith }

pub returns-in_err-stored-clause-peaks : goal.returns-in_err-stored-clause-peaks
returns-in_err-stored-clause-peaks g c =
    let s = seen g.D.Device.state c.args.rig.now in
    peaks_same (loading_room s (load_count s c.args.buffer)) c.in_err-stored.ensures.stops.reads.same

pub returns-clause-peaks : goal.returns-clause-peaks
returns-clause-peaks g c =
    settling_peaks c.args.buffer c.in_ok-stored.ensures.reads c.settle_stored.ensures.peaks
