use Rattle.std.proofs.Common.{arith, ◌∙◌}
use Rattle.em_tree_load.proofs.FirstSettles.{filled_can, filling_frame, filling_stops, settled_first, settled_stops, settles_of}
use Rattle.em_space.specs.Seen.{seen}
use Rattle.em_tree_load.proofs.LoadRooms.{applied_stops, applied_takes, settling_never}
use Rattle.em_leaf.specs.Effects.{loading_room}
use Rattle.em_tree_load.specs.LeafSettles.{load_count}
use Rattle.em_tree_load.proofs.LoadPeaks.{load_peaks, load_stops}
use Rattle.em_tree_load.proofs.Peaks.{peaks_wider}
use Rattle.em_tree_load.proofs.settling.settle_stored.Goals as goal

pub apply_load-requires-clause-can : goal.apply_load-requires-clause-can
apply_load-requires-clause-can g c =
    filled_can c.requires.can c.in_ok-rest.ensures.fills c.requires.count c.requires.grow
    (c.fill_area.ensures.len ∙ c.requires.room)

pub returns-in_err-rest-clause-frame : goal.returns-in_err-rest-clause-frame
returns-in_err-rest-clause-frame g c =
    filling_frame c.requires.can c.in_err-rest.ensures.fills

pub returns-in_err-rest-clause-settles : goal.returns-in_err-rest-clause-settles
returns-in_err-rest-clause-settles g c =
    settles_of _ _ _ _ _ _ _ _ 0 c.from_residual.result _ c.from_residual.ensures.1
    (filling_stops c.requires.can c.requires.sound c.in_err-rest.ensures.fills)

pub returns-in_err-change-clause-settles : goal.returns-in_err-change-clause-settles
returns-in_err-change-clause-settles g c =
    settles_of _ _ _ _ _ _ _ _ 0 c.from_residual-in_err-change.result _
    c.from_residual-in_err-change.ensures.1
    (settled_stops c.requires.can c.in_ok-rest.ensures.fills c.args.answers.now
    c.requires.sound c.requires.count
    c.in_err-change.ensures.runs c.in_err-change.ensures.moves)

pub returns-clause-settles : goal.returns-clause-settles
returns-clause-settles g c =
    let o = c.in_ok-change.ensures in
    settled_first c.requires.can c.in_ok-rest.ensures.fills
    (g.S.Settle.step_of c.args.settle.now) c.in_ok-change.change c.requires.sound c.requires.count
    (omega (arith, c.requires.count, c.fill_area.ensures.len, c.requires.room)) o.settles o.leaves o.answers o.runs o.moves

pub fill_area-requires-clause-few : goal.fill_area-requires-clause-few
fill_area-requires-clause-few g c = omega (arith, c.requires.count)

pub fill_area-requires-clause-room : goal.fill_area-requires-clause-room
fill_area-requires-clause-room g c = omega (arith, c.requires.count, c.requires.room)

pub apply_load-requires-clause-free : goal.apply_load-requires-clause-free
apply_load-requires-clause-free g c =
    omega (arith, c.in_ok-rest.ensures.fills.runs.frames.free, c.requires.free)

pub returns-in_err-rest-clause-takes : goal.returns-in_err-rest-clause-takes
returns-in_err-rest-clause-takes g c =
    settling_never (g.S.Settle.key_of c.args.settle.now) (g.S.Settle.step_of c.args.settle.now)
    (seen g.D.Device.state c.args.rig.now) (seen g.D.Device.state c.fill_area.new.rig)
    c.args.stored c.args.buffer c.args.answers.now c.from_residual.result _
    c.from_residual.ensures.1 c.requires.sound c.requires.can.writer c.in_err-rest.ensures.takes

pub returns-in_err-change-clause-takes : goal.returns-in_err-change-clause-takes
returns-in_err-change-clause-takes g c =
    let e = c.in_err-change.ensures in
    applied_stops (g.S.Settle.key_of c.args.settle.now) (g.S.Settle.step_of c.args.settle.now)
    c.requires.sound c.requires.can c.in_ok-rest.ensures.fills c.in_ok-rest.ensures.takes
    c.requires.count (omega (arith, c.requires.count, c.fill_area.ensures.len, c.requires.room))
    c.apply_load.new.answers c.from_residual-in_err-change.result _
    c.from_residual-in_err-change.ensures.1 e.runs e.needs

pub returns-clause-takes : goal.returns-clause-takes
returns-clause-takes g c =
    let o = c.in_ok-change.ensures in
    applied_takes (g.S.Settle.key_of c.args.settle.now) (g.S.Settle.step_of c.args.settle.now)
    c.requires.sound c.requires.can c.in_ok-rest.ensures.fills c.in_ok-rest.ensures.takes
    c.requires.count (omega (arith, c.requires.count, c.fill_area.ensures.len, c.requires.room))
    c.in_ok-change.change _ o.runs o.settles o.leaves o.answers

pub returns-in_err-rest-clause-peaks : goal.returns-in_err-rest-clause-peaks
returns-in_err-rest-clause-peaks g c =
    let s = seen g.D.Device.state c.args.rig.now in
    peaks_wider (loading_room s (load_count s c.args.buffer)) (omega arith)
    c.in_err-rest.ensures.peaks

pub returns-in_err-change-clause-peaks : goal.returns-in_err-change-clause-peaks
returns-in_err-change-clause-peaks g c =
    load_stops c.args.buffer c.args.answers.now c.args.stored c.in_ok-rest.ensures.peaks
    c.in_ok-rest.ensures.fills.runs.session.touches.shape c.requires.count
    c.in_err-change.ensures.runs.halts

pub returns-clause-peaks : goal.returns-clause-peaks
returns-clause-peaks g c =
    load_peaks c.args.buffer c.apply_load.new.answers c.args.answers.now c.args.stored c.in_ok-change.change
    c.in_ok-rest.ensures.peaks
    c.in_ok-rest.ensures.fills.runs.session.touches.shape c.requires.count
    c.in_ok-change.ensures.runs.spends
