use Rattle.std.proofs.Common.{Ok, Option, refl, subst}
use Rattle.em_record.specs.declared.record.Record.{Record}
use Rattle.em_space.specs.Seen.{seen}
use Rattle.em_tree.specs.Levels.{EmptiesNext}
use Rattle.em_tree.proofs.LevelLoop.{level_begins, level_ends, level_goes_on, level_ready, level_shrinks, level_stops, settles_of}
use Rattle.em_tree.proofs.emptying.empty_level.Goals as goal

pub loop-from-init : goal.loop-from-init
loop-from-init g c =
    let settle = c.args.settle.now in
    level_begins (g.S.Settle.key_of settle) (g.S.Settle.step_of settle) (g.S.Settle.IsOp settle)
    (g.S.Settle.IsKept settle) c.args.level (seen g.D.Device.state c.args.rig.now) c.args.trunk.now
    c.requires.can c.requires.settle _ refl refl

pub empty_next-requires-clause-can : goal.empty_next-requires-clause-can
empty_next-requires-clause-can g c = c.loop-from.invariant.can

pub empty_next-requires-clause-next : goal.empty_next-requires-clause-next
empty_next-requires-clause-next g c =
    let settle = c.args.settle.now in
    level_ready (g.S.Settle.key_of settle) (g.S.Settle.step_of settle) (g.S.Settle.IsOp settle)
    (g.S.Settle.IsKept settle) c.args.level (seen g.D.Device.state c.args.rig.now) c.args.trunk.now
    c.requires.can c.requires.settle c.loop-from.left (seen g.D.Device.state c.loop-from.rig)
    c.loop-from.trunk c.loop-from.invariant

pub returns-in_err-from : goal.returns-in_err-from
returns-in_err-from g c =
    let settle = c.args.settle.now in
    let key = g.S.Settle.key_of settle in
    let step = g.S.Settle.step_of settle in
    let IsOp = g.S.Settle.IsOp settle in
    let IsKept = g.S.Settle.IsKept settle in
    let s = seen g.D.Device.state c.args.rig.now in
    let u = seen g.D.Device.state c.empty_next.new.rig in
    let fault = c.in_err-from.field-0.0 in
    settles_of key step IsOp IsKept c.args.level s u c.args.trunk.now c.empty_next.new.trunk
    c.from_residual.result fault c.from_residual.ensures.1
    (level_stops key step IsOp IsKept c.args.level s c.args.trunk.now c.requires.can c.requires.settle
    c.loop-from.left (seen g.D.Device.state c.loop-from.rig) c.loop-from.trunk c.loop-from.invariant u
    c.empty_next.new.trunk fault c.in_err-from.ensures)

pub returns-in-None : goal.returns-in-None
returns-in-None g c =
    let settle = c.args.settle.now in
    let key = g.S.Settle.key_of settle in
    let step = g.S.Settle.step_of settle in
    let IsOp = g.S.Settle.IsOp settle in
    let IsKept = g.S.Settle.IsKept settle in
    let s = seen g.D.Device.state c.args.rig.now in
    let a = seen g.D.Device.state c.loop-from.rig in
    let u = seen g.D.Device.state c.empty_next.new.rig in
    let P : Option Record → Type 0 = λ o. EmptiesNext key step IsOp IsKept c.args.level c.loop-from.left a u
    c.loop-from.trunk c.empty_next.new.trunk (Ok o) in
    level_ends key step IsOp IsKept c.args.level s c.args.trunk.now c.requires.can c.requires.settle
    c.loop-from.left a c.loop-from.trunk c.loop-from.invariant {T = Unit {0}} tt u c.empty_next.new.trunk
    (subst P c.in-None.is c.in_ok-from.ensures)

pub loop-from-preserved : goal.loop-from-preserved
loop-from-preserved g c =
    let settle = c.args.settle.now in
    let key = g.S.Settle.key_of settle in
    let step = g.S.Settle.step_of settle in
    let IsOp = g.S.Settle.IsOp settle in
    let IsKept = g.S.Settle.IsKept settle in
    let s = seen g.D.Device.state c.args.rig.now in
    let a = seen g.D.Device.state c.loop-from.rig in
    let u = seen g.D.Device.state c.empty_next.new.rig in
    let P : Option Record → Type 0 = λ o. EmptiesNext key step IsOp IsKept c.args.level c.loop-from.left a u
    c.loop-from.trunk c.empty_next.new.trunk (Ok o) in
    level_goes_on key step IsOp IsKept c.args.level s c.args.trunk.now c.requires.can c.requires.settle
    c.loop-from.left a c.loop-from.trunk c.loop-from.invariant c.in-Some.from u c.empty_next.new.trunk
    (subst P c.in-Some.is c.in_ok-from.ensures)

pub loop-from-smaller : goal.loop-from-smaller
loop-from-smaller g c =
    let settle = c.args.settle.now in
    level_shrinks (g.S.Settle.key_of settle) (g.S.Settle.step_of settle) (g.S.Settle.IsOp settle)
    (g.S.Settle.IsKept settle) c.args.level (seen g.D.Device.state c.args.rig.now) c.args.trunk.now
    c.requires.can c.requires.settle c.loop-from.left (seen g.D.Device.state c.loop-from.rig)
    c.loop-from.trunk c.loop-from.invariant _ (seen g.D.Device.state c.empty_next.new.rig)
    c.empty_next.new.trunk c.in_ok-from.ensures
