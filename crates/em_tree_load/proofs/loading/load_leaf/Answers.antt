use Rattle.std.proofs.Common.{ℕ, Option, Ok, arith, refl, subst}
use Rattle.em_empty.specs.Effects.{EmptiedAt}
use Rattle.em_space.specs.Seen.{seen}
use Rattle.em_tree_load.specs.NodeLoads.{LoadedHere}
use Rattle.em_tree_load.specs.declared.changing.Split.{Split}
use Rattle.em_tree_load.proofs.PouredLoads.{loaded_cut, loaded_poured, loaded_whole, pouring_stops, rest_pours, stops_of}
use Rattle.em_tree_load.specs.LoadRoom.{TakesHere}
use Rattle.em_tree_load.proofs.LoadTaken.{here_loading, need_never, need_pours, ok_never, pour_never, room_never, room_pours}
use Rattle.em_tree_load.proofs.LoadPeaks.{poured_peaks, whole_peaks}
use Rattle.em_tree_load.proofs.loading.load_leaf.Goals as goal

pub returns-in-None-clause-loads : goal.returns-in-None-clause-loads
returns-in-None-clause-loads g c =
    let P : Option Split → Type 0 = λ o. LoadedHere (g.S.Settle.key_of c.args.settle.now)
    (g.S.Settle.step_of c.args.settle.now) (seen g.D.Device.state c.args.rig.now)
    (seen g.D.Device.state c.load_at.new.rig) c.args.node c.args.at c.args.answers.now
    c.load_at.new.answers o in
    loaded_whole (λ z. whole_peaks c.args.node c.args.at (c.in_ok-split.ensures.peaks z))
    (subst P c.in-None.is c.in_ok-split.ensures.loads)

pub returns-then-len-eq0-clause-loads : goal.returns-then-len-eq0-clause-loads
returns-then-len-eq0-clause-loads g c =
    let P : Option Split → Type 0 = λ o. LoadedHere (g.S.Settle.key_of c.args.settle.now)
    (g.S.Settle.step_of c.args.settle.now) (seen g.D.Device.state c.args.rig.now)
    (seen g.D.Device.state c.load_at.new.rig) c.args.node c.args.at c.args.answers.now
    c.load_at.new.answers o in
    let none = c.len.ensures in
    let test = c.if-len-eq0.true in
    loaded_cut (subst P c.in-Some.is c.in_ok-split.ensures.loads)
    (λ z. whole_peaks c.args.node c.args.at (c.in_ok-split.ensures.peaks z)) (omega (arith, none, test))

pub empty_node-requires-clause-can : goal.empty_node-requires-clause-can
empty_node-requires-clause-can g c =
    let P : Option Split → Type 0 = λ o. LoadedHere (g.S.Settle.key_of c.args.settle.now)
    (g.S.Settle.step_of c.args.settle.now) (seen g.D.Device.state c.args.rig.now)
    (seen g.D.Device.state c.load_at.new.rig) c.args.node c.args.at c.args.answers.now
    c.load_at.new.answers o in
    rest_pours (subst P c.in-Some.is c.in_ok-split.ensures.loads) c.requires.sound
    c.requires.can.in_use

pub returns-in_err-empty_node-clause-loads : goal.returns-in_err-empty_node-clause-loads
returns-in_err-empty_node-clause-loads g c =
    let P : Option Split → Type 0 = λ o. LoadedHere (g.S.Settle.key_of c.args.settle.now)
    (g.S.Settle.step_of c.args.settle.now) (seen g.D.Device.state c.args.rig.now)
    (seen g.D.Device.state c.load_at.new.rig) c.args.node c.args.at c.args.answers.now
    c.load_at.new.answers o in
    let s = seen g.D.Device.state c.args.rig.now in
    let t = seen g.D.Device.state c.load_at.new.rig in
    let Q : Option Split → Type 0 = λ o. TakesHere (g.S.Settle.key_of c.args.settle.now)
    (g.S.Settle.step_of c.args.settle.now) s t c.args.node c.args.at c.args.answers.now (Ok o) in
    let h = subst P c.in-Some.is c.in_ok-split.ensures.loads in
    let e = c.in_err-empty_node.ensures in
    stops_of _ _ _ _ _ _ _ _ c.from_residual-in_err-empty_node.result
    c.in_err-empty_node.field-0.0 c.from_residual-in_err-empty_node.ensures.1
    (pouring_stops h (λ z. poured_peaks h (subst Q c.in-Some.is (c.in_ok-split.ensures.takes z)) z
    (c.in_ok-split.ensures.peaks z) e.costs) e.leaves e.costs e.cause)

pub returns-clause-loads : goal.returns-clause-loads
returns-clause-loads g c =
    let P : Option Split → Type 0 = λ o. LoadedHere (g.S.Settle.key_of c.args.settle.now)
    (g.S.Settle.step_of c.args.settle.now) (seen g.D.Device.state c.args.rig.now)
    (seen g.D.Device.state c.load_at.new.rig) c.args.node c.args.at c.args.answers.now
    c.load_at.new.answers o in
    let s = seen g.D.Device.state c.args.rig.now in
    let t = seen g.D.Device.state c.load_at.new.rig in
    let Q : Option Split → Type 0 = λ o. TakesHere (g.S.Settle.key_of c.args.settle.now)
    (g.S.Settle.step_of c.args.settle.now) s t c.args.node c.args.at c.args.answers.now (Ok o) in
    let h = subst P c.in-Some.is c.in_ok-split.ensures.loads in
    let e = c.in_ok-empty_node.ensures in
    let done : EmptiedAt (g.S.Settle.key_of c.args.settle.now)
    (seen g.D.Device.state c.load_at.new.rig) (seen g.D.Device.state c.empty_node.new.rig)
    c.args.node c.in-Some.split.rest c.in_ok-empty_node.field-0 = record {
      emptied = e.emptied;
      session = e.leaves.0;
      frames = e.leaves.1;
      costs = e.costs;
      frees = e.frees;
    } in
    loaded_poured h done (λ z. poured_peaks h (subst Q c.in-Some.is (c.in_ok-split.ensures.takes z)) z
    (c.in_ok-split.ensures.peaks z) e.costs)

pub returns-in_err-split-clause-complete : goal.returns-in_err-split-clause-complete
returns-in_err-split-clause-complete g c l z r = ok_never c.from_residual.result
    (room_never (g.S.Settle.key_of c.args.settle.now)
    (g.S.Settle.step_of c.args.settle.now) c.in_err-split.field-0.0 c.in_err-split.ensures.loads c.in_err-split.ensures.takes l z r)

pub returns-in-None-clause-complete : goal.returns-in-None-clause-complete
returns-in-None-clause-complete g c l z r = refl

pub returns-then-len-eq0-clause-complete : goal.returns-then-len-eq0-clause-complete
returns-then-len-eq0-clause-complete g c l z r = refl

pub returns-in_err-empty_node-clause-complete : goal.returns-in_err-empty_node-clause-complete
returns-in_err-empty_node-clause-complete g c l z r =
    let key = g.S.Settle.key_of c.args.settle.now in
    let step = g.S.Settle.step_of c.args.settle.now in
    let s = seen g.D.Device.state c.args.rig.now in
    let t = seen g.D.Device.state c.load_at.new.rig in
    let w = c.args.answers.now in
    let P : Option Split → Type 0 = λ o. LoadedHere key step s t c.args.node c.args.at w
    c.load_at.new.answers o in
    let Q : Option Split → Type 0 = λ o. TakesHere key step s t c.args.node c.args.at w (Ok o) in
    let h = subst P c.in-Some.is c.in_ok-split.ensures.loads in
    let took = subst Q c.in-Some.is (c.in_ok-split.ensures.takes z) in
    ok_never c.from_residual-in_err-empty_node.result
    (pour_never h took z (Option ℕ) (seen g.D.Device.state c.empty_node.new.rig)
    c.in_err-empty_node.field-0.0 r
    (c.in_err-empty_node.ensures.complete (room_pours h took z l)))

pub returns-clause-complete : goal.returns-clause-complete
returns-clause-complete g c l z r = refl

pub returns-in_err-split-clause-enough : goal.returns-in_err-split-clause-enough
returns-in_err-split-clause-enough g c l z r = ok_never c.from_residual.result
    (need_never (g.S.Settle.key_of c.args.settle.now)
    (g.S.Settle.step_of c.args.settle.now) c.in_err-split.field-0.0 c.in_err-split.ensures.loads c.in_err-split.ensures.takes l z r)

pub returns-in-None-clause-enough : goal.returns-in-None-clause-enough
returns-in-None-clause-enough g c l z r = refl

pub returns-then-len-eq0-clause-enough : goal.returns-then-len-eq0-clause-enough
returns-then-len-eq0-clause-enough g c l z r = refl

pub returns-in_err-empty_node-clause-enough : goal.returns-in_err-empty_node-clause-enough
returns-in_err-empty_node-clause-enough g c l z r =
    let key = g.S.Settle.key_of c.args.settle.now in
    let step = g.S.Settle.step_of c.args.settle.now in
    let s = seen g.D.Device.state c.args.rig.now in
    let t = seen g.D.Device.state c.load_at.new.rig in
    let w = c.args.answers.now in
    let P : Option Split → Type 0 = λ o. LoadedHere key step s t c.args.node c.args.at w
    c.load_at.new.answers o in
    let Q : Option Split → Type 0 = λ o. TakesHere key step s t c.args.node c.args.at w (Ok o) in
    let h = subst P c.in-Some.is c.in_ok-split.ensures.loads in
    let took = subst Q c.in-Some.is (c.in_ok-split.ensures.takes z) in
    ok_never c.from_residual-in_err-empty_node.result
    (pour_never h took z (Option ℕ) (seen g.D.Device.state c.empty_node.new.rig)
    c.in_err-empty_node.field-0.0 r
    (c.in_err-empty_node.ensures.complete (need_pours h took z l)))

pub returns-clause-enough : goal.returns-clause-enough
returns-clause-enough g c l z r = refl

pub returns-in_err-split-clause-loads : goal.returns-in_err-split-clause-loads
returns-in_err-split-clause-loads g c =
    stops_of _ _ _ _ _ _ _ _ c.from_residual.result c.in_err-split.field-0.0
    c.from_residual.ensures.1 (here_loading
    (λ z. whole_peaks c.args.node c.args.at (c.in_err-split.ensures.peaks z)) c.in_err-split.ensures.loads)
