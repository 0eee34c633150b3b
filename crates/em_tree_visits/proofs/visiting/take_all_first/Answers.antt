use Rattle.std.proofs.Common.{Ok, refl, subst, ◌∙◌}
use Rattle.em_space.specs.Seen.{seen}
use Rattle.em_tree_visits.specs.FirstVisits.{VisitsTo}
use Rattle.em_tree_visits.specs.declared.visiting.Turn.{Turn}
use Rattle.em_tree_visits.proofs.VisitLoop.{loop_area, loop_begins, loop_can, loop_ends, loop_goes_on, loop_shrinks, loop_stops, loop_visit, takes_all_of}
use Rattle.em_tree_visits.proofs.visiting.take_all_first.Goals as goal

pub returns-in_err-empty_top-clause-takes : goal.returns-in_err-empty_top-clause-takes
returns-in_err-empty_top-clause-takes g c =
    let settle = c.args.settle.now in
    let key = g.S.Settle.key_of settle in
    let step = g.S.Settle.step_of settle in
    let IsOp = g.S.Settle.IsOp settle in
    let IsKept = g.S.Settle.IsKept settle in
    takes_all_of key step IsOp IsKept _ _ _ _ _ c.from_residual.result c.in_err-empty_top.field-0.0
    c.from_residual.ensures.1 c.in_err-empty_top.ensures.empties

pub loop-count-init : goal.loop-count-init
loop-count-init g c =
    let settle = c.args.settle.now in
    let key = g.S.Settle.key_of settle in
    let step = g.S.Settle.step_of settle in
    let IsOp = g.S.Settle.IsOp settle in
    let IsKept = g.S.Settle.IsKept settle in (
      loop_begins key step IsOp IsKept c.requires.can c.requires.take c.in_ok-empty_top.ensures.empties
          c.args.into.now,
      refl,
    )

pub take_next-requires-clause-can : goal.take_next-requires-clause-can
take_next-requires-clause-can g c =
    let settle = c.args.settle.now in
    let key = g.S.Settle.key_of settle in
    let step = g.S.Settle.step_of settle in
    let IsOp = g.S.Settle.IsOp settle in
    let IsKept = g.S.Settle.IsKept settle in
    loop_can key step IsOp IsKept c.requires.can c.requires.take c.loop-count.taken c.loop-count.invariant.0

pub take_next-requires-clause-visit : goal.take_next-requires-clause-visit
take_next-requires-clause-visit g c =
    let settle = c.args.settle.now in
    let key = g.S.Settle.key_of settle in
    let step = g.S.Settle.step_of settle in
    let IsOp = g.S.Settle.IsOp settle in
    let IsKept = g.S.Settle.IsKept settle in
    loop_visit key step IsOp IsKept c.requires.can c.requires.take c.loop-count.taken c.loop-count.invariant.0

pub take_next-requires-clause-area : goal.take_next-requires-clause-area
take_next-requires-clause-area g c =
    let settle = c.args.settle.now in
    let key = g.S.Settle.key_of settle in
    let step = g.S.Settle.step_of settle in
    let IsOp = g.S.Settle.IsOp settle in
    let IsKept = g.S.Settle.IsKept settle in
    loop_area key step IsOp IsKept c.requires.can c.requires.take c.loop-count.taken c.loop-count.invariant.0
    (c.loop-count.invariant.1 ∙ c.requires.area)

pub take_next-requires-clause-few : goal.take_next-requires-clause-few
take_next-requires-clause-few g c = c.loop-count.invariant.0.few

pub returns-in_err-count-clause-takes : goal.returns-in_err-count-clause-takes
returns-in_err-count-clause-takes g c =
    let settle = c.args.settle.now in
    let key = g.S.Settle.key_of settle in
    let step = g.S.Settle.step_of settle in
    let IsOp = g.S.Settle.IsOp settle in
    let IsKept = g.S.Settle.IsKept settle in
    takes_all_of key step IsOp IsKept _ _ _ _ _ c.from_residual-in_err-count.result c.in_err-count.field-0.0
    c.from_residual-in_err-count.ensures.1
    (loop_stops key step IsOp IsKept c.requires.can c.requires.take c.loop-count.taken c.loop-count.invariant.0
    c.in_err-count.ensures.visits)

pub returns-in-Last-clause-takes : goal.returns-in-Last-clause-takes
returns-in-Last-clause-takes g c =
    let settle = c.args.settle.now in
    let key = g.S.Settle.key_of settle in
    let step = g.S.Settle.step_of settle in
    let IsOp = g.S.Settle.IsOp settle in
    let IsKept = g.S.Settle.IsKept settle in
    let P : Turn → Type 0 = λ o. VisitsTo key step IsOp IsKept c.loop-count.taken c.loop-count.into
    c.take_next.new.into (seen g.D.Device.state c.loop-count.rig) (seen g.D.Device.state c.take_next.new.rig)
    c.loop-count.trunk c.take_next.new.trunk (Ok o) in
    loop_ends key step IsOp IsKept c.requires.can c.requires.take c.loop-count.taken c.loop-count.invariant.0
    c.in-Last.last (subst P c.in-Last.is c.in_ok-count.ensures.visits)

pub loop-count-preserved : goal.loop-count-preserved
loop-count-preserved g c =
    let settle = c.args.settle.now in
    let key = g.S.Settle.key_of settle in
    let step = g.S.Settle.step_of settle in
    let IsOp = g.S.Settle.IsOp settle in
    let IsKept = g.S.Settle.IsKept settle in
    let P : Turn → Type 0 = λ o. VisitsTo key step IsOp IsKept c.loop-count.taken c.loop-count.into
    c.take_next.new.into (seen g.D.Device.state c.loop-count.rig) (seen g.D.Device.state c.take_next.new.rig)
    c.loop-count.trunk c.take_next.new.trunk (Ok o) in (
      loop_goes_on key step IsOp IsKept c.requires.can c.requires.take c.loop-count.taken c.loop-count.invariant.0
          c.in-More.count (subst P c.in-More.is c.in_ok-count.ensures.visits),
      c.take_next.ensures.len ∙ c.loop-count.invariant.1,
    )

pub loop-count-smaller : goal.loop-count-smaller
loop-count-smaller g c =
    let settle = c.args.settle.now in
    let key = g.S.Settle.key_of settle in
    let step = g.S.Settle.step_of settle in
    let IsOp = g.S.Settle.IsOp settle in
    let IsKept = g.S.Settle.IsKept settle in
    let P : Turn → Type 0 = λ o. VisitsTo key step IsOp IsKept c.loop-count.taken c.loop-count.into
    c.take_next.new.into (seen g.D.Device.state c.loop-count.rig) (seen g.D.Device.state c.take_next.new.rig)
    c.loop-count.trunk c.take_next.new.trunk (Ok o) in
    loop_shrinks key step IsOp IsKept c.requires.can c.requires.take c.loop-count.taken c.loop-count.invariant.0
    c.in-More.count (subst P c.in-More.is c.in_ok-count.ensures.visits)
