use Rattle.std.proofs.Common.{◌+◌, ◌<◌, ◌≤◌, IsTrue, length, ap, arith, subst, sym, ◌∙◌}
use Rattle.em_record.specs.Shape.{ShapeNumbers}
use Rattle.em_frames.specs.Pool.{load_of, singles_of}
use Rattle.em_space.specs.Rig.{RigState, Sound}
use Rattle.em_space.specs.Seen.{seen}
use Rattle.em_chain.specs.Writer.{WriterHasFrame}
use Rattle.em_tree_load.specs.LeafLoads.{CanLoadLeaf}
use Rattle.em_tree_load.specs.LoadRoom.{TakesHere}
use Rattle.em_tree_load.specs.NodeLoads.{LoadsHereTo}
use Rattle.em_tree_load.proofs.NodeFrames.{can_lent, given_both, here_sound, lent_both, loaded_back, writer_back}
use Rattle.em_tree_load.proofs.LoadTaken.{here_back}
use Rattle.em_leaf.specs.Effects.{loading_room}
use Rattle.em_tree_load.specs.LeafLoads.{taken_of, waiting_over}
use Rattle.em_tree_load.specs.Peaks.{Peaks}
use Rattle.em_tree_load.proofs.LoadPeaks.{peaks_back}
use Rattle.em_tree_load.proofs.loading.load_at.Goals as goal

pub lend_area-area-requires-clause-free : goal.lend_area-area-requires-clause-free
lend_area-area-requires-clause-free g c =
    subst (λ (r : RigState). 0 < r.pool.free_areas) (sym c.lend-frame.ensures.lent) c.requires.area

pub load_in-loaded-requires-clause-can : goal.load_in-loaded-requires-clause-can
load_in-loaded-requires-clause-can g c =
    let key = g.S.Settle.key_of c.args.settle.now in
    let e = lent_both (seen g.D.Device.state c.args.rig.now) c.lend-frame.ensures.lent c.lend_area-area.ensures.lent in
    subst (λ (r : RigState). CanLoadLeaf key r c.args.node c.args.at c.args.answers.now) (sym e)
    (can_lent (omega (arith, c.requires.free)) c.requires.can)

pub load_in-loaded-requires-clause-len : goal.load_in-loaded-requires-clause-len
load_in-loaded-requires-clause-len g c =
    let e = lent_both (seen g.D.Device.state c.args.rig.now) c.lend-frame.ensures.lent c.lend_area-area.ensures.lent in
    c.lend-frame.ensures.len ∙ sym (ap (λ (r : RigState). r.pool.shape.block) e)

pub load_in-loaded-requires-clause-room : goal.load_in-loaded-requires-clause-room
load_in-loaded-requires-clause-room g c =
    c.lend_area-area.ensures.len
    ∙ sym (ap (λ (r : RigState). load_of r.pool.shape) c.lend_area-area.ensures.lent)

pub load_in-loaded-requires-clause-free : goal.load_in-loaded-requires-clause-free
load_in-loaded-requires-clause-free g c =
    let e = lent_both (seen g.D.Device.state c.args.rig.now) c.lend-frame.ensures.lent c.lend_area-area.ensures.lent in
    subst (λ (r : RigState). 6 ≤ r.pool.free) (sym e) (omega (arith, c.requires.free))

pub give_area-requires-clause-sound : goal.give_area-requires-clause-sound
give_area-requires-clause-sound g c =
    (here_sound _ _ _ _ _ _ _ _ c.load_in-loaded.result c.load_in-loaded.ensures.loads).0

pub give_area-requires-clause-len : goal.give_area-requires-clause-len
give_area-requires-clause-len g c =
    let f = (here_sound _ _ _ _ _ _ _ _ c.load_in-loaded.result c.load_in-loaded.ensures.loads).1 in
    c.load_in-loaded.ensures.area ∙ (c.lend_area-area.ensures.len
    ∙ (sym (ap (λ (r : RigState). load_of r.pool.shape) c.lend_area-area.ensures.lent)
    ∙ ap load_of (sym f.shape)))

pub returns-clause-frame : goal.returns-clause-frame
returns-clause-frame g c =
    let s = seen g.D.Device.state c.args.rig.now in
    let t = seen g.D.Device.state c.load_in-loaded.new.rig in
    let key = g.S.Settle.key_of c.args.settle.now in
    let step = g.S.Settle.step_of c.args.settle.now in
    let v = c.load_in-loaded.new.answers in
    let e = lent_both (seen g.D.Device.state c.args.rig.now) c.lend-frame.ensures.lent c.lend_area-area.ensures.lent in
    let u = given_both (seen g.D.Device.state c.load_in-loaded.new.rig) c.give_area.ensures.given c.give.ensures.given in
    let P : RigState → Type 0 = λ r. LoadsHereTo key step r t c.args.node c.args.at c.args.answers.now v
    c.load_in-loaded.result in
    let loads = subst P e c.load_in-loaded.ensures.loads in
    subst (λ (r : RigState). WriterHasFrame r v) (sym u)
    (writer_back s t (omega (arith, c.requires.free)) c.requires.area
    (here_sound _ _ _ _ _ _ _ _ c.load_in-loaded.result loads).1 c.args.answers.now v c.requires.can.writer
    c.load_in-loaded.ensures.frame)

pub returns-clause-loads : goal.returns-clause-loads
returns-clause-loads g c =
    let s = seen g.D.Device.state c.args.rig.now in
    let t = seen g.D.Device.state c.load_in-loaded.new.rig in
    let key = g.S.Settle.key_of c.args.settle.now in
    let step = g.S.Settle.step_of c.args.settle.now in
    let v = c.load_in-loaded.new.answers in
    let e = lent_both (seen g.D.Device.state c.args.rig.now) c.lend-frame.ensures.lent c.lend_area-area.ensures.lent in
    let u = given_both (seen g.D.Device.state c.load_in-loaded.new.rig) c.give_area.ensures.given c.give.ensures.given in
    let P : RigState → Type 0 = λ r. LoadsHereTo key step r t c.args.node c.args.at c.args.answers.now v
    c.load_in-loaded.result in
    let Q : RigState → Type 0 = λ r. LoadsHereTo key step s r c.args.node c.args.at c.args.answers.now v
    c.load_in-loaded.result in
    let S : RigState → Type 0 = Sound in
    subst Q (sym u) (loaded_back key step s t c.args.node c.args.at c.args.answers.now v (omega (arith, c.requires.free)) c.requires.area
    (subst S u c.give.ensures.sound) c.requires.can.writer c.load_in-loaded.result
    (subst P e c.load_in-loaded.ensures.loads))

pub give_area-requires-clause-out : goal.give_area-requires-clause-out
give_area-requires-clause-out g c =
    let f = (here_sound _ _ _ _ _ _ _ _ c.load_in-loaded.result c.load_in-loaded.ensures.loads).1 in
    let a = f.free_areas in
    let b = ap (λ (r : RigState). r.pool.free_areas) c.lend_area-area.ensures.lent in
    let most = c.lend_area-area.ensures.most in
    omega (arith, a, b, most)

pub give-requires-clause-sound : goal.give-requires-clause-sound
give-requires-clause-sound g c = c.give_area.ensures.sound

pub give-requires-clause-len : goal.give-requires-clause-len
give-requires-clause-len g c =
    let f = (here_sound _ _ _ _ _ _ _ _ c.load_in-loaded.result c.load_in-loaded.ensures.loads).1 in
    let e = lent_both (seen g.D.Device.state c.args.rig.now) c.lend-frame.ensures.lent c.lend_area-area.ensures.lent in
    let block = λ (r : RigState). r.pool.shape.block in
    c.load_in-loaded.ensures.len ∙ (c.lend-frame.ensures.len ∙ (sym (ap block e)
    ∙ (sym (ap (λ (sh : ShapeNumbers). sh.block) f.shape)
    ∙ sym (ap block c.give_area.ensures.given))))

pub give-requires-clause-out : goal.give-requires-clause-out
give-requires-clause-out g c =
    let f = (here_sound _ _ _ _ _ _ _ _ c.load_in-loaded.result c.load_in-loaded.ensures.loads).1 in
    let e = lent_both (seen g.D.Device.state c.args.rig.now) c.lend-frame.ensures.lent c.lend_area-area.ensures.lent in
    let free = λ (r : RigState). r.pool.free in
    let singles = λ (r : RigState). singles_of r.pool.shape in
    let a = f.free in
    let b = ap free e in
    let d = ap free c.give_area.ensures.given in
    let k = ap singles c.give_area.ensures.given in
    let l = ap singles_of f.shape in
    let m = ap singles e in
    let most = c.lend-frame.ensures.most in
    let some = c.requires.free in
    omega (arith, a, b, d, k, l, m, most, some)

pub returns-clause-takes : goal.returns-clause-takes
returns-clause-takes g c =
    let s = seen g.D.Device.state c.args.rig.now in
    let t = seen g.D.Device.state c.load_in-loaded.new.rig in
    let key = g.S.Settle.key_of c.args.settle.now in
    let step = g.S.Settle.step_of c.args.settle.now in
    let w = c.args.answers.now in
    let e = lent_both s c.lend-frame.ensures.lent c.lend_area-area.ensures.lent in
    let u = given_both t c.give_area.ensures.given c.give.ensures.given in
    let P : RigState → Type 0 = λ r. IsTrue r.device.told → TakesHere key step r t c.args.node
    c.args.at w c.load_in-loaded.result in
    let Q : RigState → Type 0 = λ r. IsTrue s.device.told → TakesHere key step s r c.args.node
    c.args.at w c.load_in-loaded.result in
    subst Q (sym u) (λ z. here_back key step s t c.args.node c.args.at w c.load_in-loaded.result
    (subst P e c.load_in-loaded.ensures.takes z))

pub returns-clause-peaks : goal.returns-clause-peaks
returns-clause-peaks g c =
    let s = seen g.D.Device.state c.args.rig.now in
    let t = seen g.D.Device.state c.load_in-loaded.new.rig in
    let e = lent_both s c.lend-frame.ensures.lent c.lend_area-area.ensures.lent in
    let u = given_both t c.give_area.ensures.given c.give.ensures.given in
    let P : RigState → Type 0 = λ r. IsTrue r.device.told → Peaks (loading_room r (taken_of r
    (length (waiting_over r c.args.node c.args.at))) + 1) r t in
    let Q : RigState → Type 0 = λ r. IsTrue s.device.told → Peaks (loading_room s (taken_of s
    (length (waiting_over s c.args.node c.args.at))) + 1) s r in
    subst Q (sym u) (λ z. peaks_back c.args.node c.args.at (subst P e c.load_in-loaded.ensures.peaks z))
