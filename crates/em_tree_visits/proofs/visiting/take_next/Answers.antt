use Rattle.std.proofs.Common.{Ok, subst}
use Rattle.em_settle.specs.Laws.{IsSettle}
use Rattle.em_space.specs.Seen.{seen}
use Rattle.em_tree_visits.specs.Leavings.{LeavesTo}
use Rattle.em_tree_visits.specs.declared.leaving.Leaving.{Leaving}
use Rattle.em_tree_visits.proofs.VisitTurns.{emptied_last, kept_last, leave_can, leave_free, leave_stopped, part_last, removed_more, visits_of}
use Rattle.em_tree_visits.proofs.visiting.take_next.Goals as goal

pub returns-in_err-first-clause-visits : goal.returns-in_err-first-clause-visits
returns-in_err-first-clause-visits g c =
    let settle = c.args.settle.now in
    visits_of (g.S.Settle.key_of settle) (g.S.Settle.step_of settle) (g.S.Settle.IsOp settle)
    (g.S.Settle.IsKept settle) c.args.taken _ _ _ _ _ _ c.from_residual.result c.in_err-first.field-0.0
    c.from_residual.ensures.1 c.in_err-first.ensures.arrives

pub leave_leaf-requires-clause-sound : goal.leave_leaf-requires-clause-sound
leave_leaf-requires-clause-sound g c = c.in_ok-first.ensures.arrives.works.session.sound

pub leave_leaf-requires-clause-can : goal.leave_leaf-requires-clause-can
leave_leaf-requires-clause-can g c =
    let settle = c.args.settle.now in
    leave_can (g.S.Settle.key_of settle) (g.S.Settle.step_of settle) (g.S.Settle.IsOp settle)
    (g.S.Settle.IsKept settle) c.requires.can c.requires.visit c.in_ok-first.ensures.arrives

pub leave_leaf-requires-clause-free : goal.leave_leaf-requires-clause-free
leave_leaf-requires-clause-free g c =
    let settle = c.args.settle.now in
    leave_free (g.S.Settle.key_of settle) (g.S.Settle.step_of settle) (g.S.Settle.IsOp settle)
    (g.S.Settle.IsKept settle) c.requires.can c.requires.visit c.in_ok-first.ensures.arrives

pub returns-in_err-count-clause-visits : goal.returns-in_err-count-clause-visits
returns-in_err-count-clause-visits g c =
    let settle = c.args.settle.now in
    let key = g.S.Settle.key_of settle in
    let step = g.S.Settle.step_of settle in
    let IsOp = g.S.Settle.IsOp settle in
    let IsKept = g.S.Settle.IsKept settle in
    visits_of key step IsOp IsKept c.args.taken _ _ _ _ _ _ c.from_residual-in_err-count.result
    c.in_err-count.field-0.0 c.from_residual-in_err-count.ensures.1
    (leave_stopped key step IsOp IsKept c.requires.can c.requires.visit c.in_ok-first.ensures.arrives
    c.in_err-count.ensures.leaves)

pub returns-in-Removed-clause-visits : goal.returns-in-Removed-clause-visits
returns-in-Removed-clause-visits g c =
    let settle = c.args.settle.now in
    let key = g.S.Settle.key_of settle in
    let step = g.S.Settle.step_of settle in
    let IsOp = g.S.Settle.IsOp settle in
    let IsKept = g.S.Settle.IsKept settle in
    let laws : IsSettle key step IsOp IsKept = record {
      in_order = g.met.S.Settle.in_order settle;
      keeps = g.met.S.Settle.keeps settle;
      keeps_key = g.met.S.Settle.keeps_key settle;
      stays_below = g.met.S.Settle.stays_below settle;
    } in
    let t = seen g.D.Device.state c.arrive.new.rig in
    let u = seen g.D.Device.state c.leave_leaf.new.rig in
    let w = c.arrive.new.trunk in
    let P : Leaving → Type 0 = λ o. LeavesTo t u w.level w.root c.in_ok-first.first c.args.into.now
    c.leave_leaf.new.into c.args.taken (Ok o) in
    removed_more key step IsOp IsKept c.requires.can c.requires.visit c.in_ok-first.ensures.arrives c.args.taken
    c.requires.area c.requires.few c.leave_leaf.ensures.len c.in-Removed.count laws
    (subst P c.in-Removed.is c.in_ok-count.ensures.leaves)

pub returns-in-Part-clause-visits : goal.returns-in-Part-clause-visits
returns-in-Part-clause-visits g c =
    let settle = c.args.settle.now in
    let key = g.S.Settle.key_of settle in
    let step = g.S.Settle.step_of settle in
    let IsOp = g.S.Settle.IsOp settle in
    let IsKept = g.S.Settle.IsKept settle in
    let t = seen g.D.Device.state c.arrive.new.rig in
    let u = seen g.D.Device.state c.leave_leaf.new.rig in
    let w = c.arrive.new.trunk in
    let P : Leaving → Type 0 = λ o. LeavesTo t u w.level w.root c.in_ok-first.first c.args.into.now
    c.leave_leaf.new.into c.args.taken (Ok o) in
    part_last key step IsOp IsKept c.requires.can c.requires.visit c.in_ok-first.ensures.arrives c.args.taken
    c.requires.area c.requires.few c.leave_leaf.ensures.len c.in-Part.more
    (subst P c.in-Part.is c.in_ok-count.ensures.leaves)

pub returns-in-Kept-clause-visits : goal.returns-in-Kept-clause-visits
returns-in-Kept-clause-visits g c =
    let settle = c.args.settle.now in
    let key = g.S.Settle.key_of settle in
    let step = g.S.Settle.step_of settle in
    let IsOp = g.S.Settle.IsOp settle in
    let IsKept = g.S.Settle.IsKept settle in
    let t = seen g.D.Device.state c.arrive.new.rig in
    let u = seen g.D.Device.state c.leave_leaf.new.rig in
    let w = c.arrive.new.trunk in
    let P : Leaving → Type 0 = λ o. LeavesTo t u w.level w.root c.in_ok-first.first c.args.into.now
    c.leave_leaf.new.into c.args.taken (Ok o) in
    kept_last key step IsOp IsKept c.requires.can c.requires.visit c.in_ok-first.ensures.arrives c.args.taken
    c.requires.area c.requires.few (subst P c.in-Kept.is c.in_ok-count.ensures.leaves)

pub returns-in-Emptied-clause-visits : goal.returns-in-Emptied-clause-visits
returns-in-Emptied-clause-visits g c =
    let settle = c.args.settle.now in
    let key = g.S.Settle.key_of settle in
    let step = g.S.Settle.step_of settle in
    let IsOp = g.S.Settle.IsOp settle in
    let IsKept = g.S.Settle.IsKept settle in
    let laws : IsSettle key step IsOp IsKept = record {
      in_order = g.met.S.Settle.in_order settle;
      keeps = g.met.S.Settle.keeps settle;
      keeps_key = g.met.S.Settle.keeps_key settle;
      stays_below = g.met.S.Settle.stays_below settle;
    } in
    let t = seen g.D.Device.state c.arrive.new.rig in
    let u = seen g.D.Device.state c.leave_leaf.new.rig in
    let w = c.arrive.new.trunk in
    let P : Leaving → Type 0 = λ o. LeavesTo t u w.level w.root c.in_ok-first.first c.args.into.now
    c.leave_leaf.new.into c.args.taken (Ok o) in
    emptied_last key step IsOp IsKept c.requires.can c.requires.visit c.in_ok-first.ensures.arrives c.args.taken
    c.requires.area c.requires.few c.leave_leaf.ensures.len c.in-Emptied.all laws
    (subst P c.in-Emptied.is c.in_ok-count.ensures.leaves)
