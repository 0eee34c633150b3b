use Rattle.std.proofs.Common.{◌∙◌, arith, IsTrue, sym}
use Rattle.em_space.specs.Seen.{seen}
use Rattle.aig_edges.proofs.Looks.{of_fault}
use Rattle.aig_table.specs.Sweeps.{FillsTo}
use Rattle.aig_table.proofs.Filled.{fill_first, fill_last, fill_values, fill_unloaded, filled, gates_stay, gates_still, given_stays}
use Rattle.aig_table.proofs.Followed.{follow_as}
use Rattle.aig_table.proofs.sweeping.fill_table.Goals as goal

pub begin-requires : goal.begin-requires
begin-requires g c = let fits = c.requires.can.fits in record { within = omega (arith, fits) }

pub load-requires-clause-within : goal.load-requires-clause-within
load-requires-clause-within g c =
    let k = c.requires.can in
    let long = k.long in
    let fits = k.fits in
    let same = c.begin.ensures.begins.long in
    omega (arith, long, fits, same)

pub returns-in_err-load-clause-fills : goal.returns-in_err-load-clause-fills
returns-in_err-load-clause-fills g c =
    of_fault (λ r. FillsTo c.args.given.now c.args.gates.now c.args.words (seen g.D.Device.state c.args.rig.now)
    (seen g.D.Device.state c.load.new.rig) r) _ _ c.from_residual.ensures.1
    (fill_unloaded c.requires.can c.in_err-load.ensures.loads)

pub follow_list-requires-clause-is : goal.follow_list-requires-clause-is
follow_list-requires-clause-is g c =
    (given_stays c.requires.can c.in_ok-load.ensures.loads.runs.session.touches).is

pub follow_list-requires-clause-within : goal.follow_list-requires-clause-within
follow_list-requires-clause-within g c =
    let fits = c.requires.can.fits in
    let a = c.begin.ensures.begins.long in
    let b = c.in_ok-load.ensures.long in
    omega (arith, fits, a, b)

pub follow_list-requires-clause-free : goal.follow_list-requires-clause-free
follow_list-requires-clause-free g c =
    let f = c.in_ok-load.ensures.loads.runs.frames.free in
    let free = c.requires.can.free in
    omega (arith, f, free)

pub returns-in_err-follow_list-clause-fills : goal.returns-in_err-follow_list-clause-fills
returns-in_err-follow_list-clause-fills g c =
    of_fault (λ r. FillsTo c.args.given.now c.args.gates.now c.args.words (seen g.D.Device.state c.args.rig.now)
    (seen g.D.Device.state c.follow_list.new.rig) r) _ _ c.from_residual-in_err-follow_list.ensures.1
    (fill_first c.requires.can c.in_ok-load.ensures.loads c.in_err-follow_list.ensures.follows)

pub follow_list-requires-2-clause-is : goal.follow_list-requires-2-clause-is
follow_list-requires-2-clause-is g c =
    (gates_still c.requires.can c.in_ok-load.ensures.loads.runs.session.touches
    c.in_ok-follow_list.ensures.follows.0.goes.touches).is

pub follow_list-requires-2-clause-within : goal.follow_list-requires-2-clause-within
follow_list-requires-2-clause-within g c =
    let fits = c.requires.can.fits in
    let a = c.begin.ensures.begins.long in
    let b = c.in_ok-load.ensures.long in
    let d = c.in_ok-follow_list.ensures.long in
    omega (arith, fits, a, b, d)

pub follow_list-requires-2-clause-free : goal.follow_list-requires-2-clause-free
follow_list-requires-2-clause-free g c =
    let f = c.in_ok-load.ensures.loads.runs.frames.free in
    let h = c.in_ok-follow_list.ensures.follows.0.goes.frames.free in
    let free = c.requires.can.free in
    omega (arith, f, h, free)

pub returns-clause-fills : goal.returns-clause-fills
returns-clause-fills g c =
    fill_last c.requires.can (seen g.D.Device.state c.follow_list-2.new.rig) _ c.follow_list-2.result
    c.in_ok-load.ensures.loads c.in_ok-follow_list.ensures.follows.0 c.follow_list-2.ensures.follows

pub returns-clause-values : goal.returns-clause-values
returns-clause-values g c =
    let can = c.requires.can in
    let l = c.in_ok-load.ensures in
    let e = c.in_ok-follow_list.ensures in
    let last = c.follow_list-2.ensures in
    let t = seen g.D.Device.state c.load.new.rig in
    let u = seen g.D.Device.state c.follow_list.new.rig in
    let v = seen g.D.Device.state c.follow_list-2.new.rig in
    let touches = l.loads.runs.session.touches in
    let st = given_stays can touches in
    let su = gates_stay can touches in
    let sv = gates_still can touches e.follows.0.goes.touches in
    let fits = can.fits in
    fill_values _ u v c.follow_list-2.result last.follows (λ told then value all x.
    let on : IsTrue t.device.told = touches.told ∙ told in
    filled c.args.table.now c.begin.new.table c.load.new.table c.follow_list.new.table c.follow_list-2.new.table
    _ c.args.words.count c.args.given.now.count c.args.gates.now.count (omega arith) (omega (arith, fits))
    c.begin.ensures.begins.long l.long e.long can.long c.begin.ensures.begins
    (l.loads.bits told) (follow_as _ _ (sym (st.items told)) (e.follows.1 on))
    (follow_as _ _ (sym (su.items told) ∙ sym (sv.items on)) (then (e.follows.0.goes.touches.told ∙ on))) x)
