use Rattle.std.proofs.Common.{ap, arith, length}
use Rattle.em_tree_visits.proofs.LeavingExits.{leaf_kept, leaves_err}
use Rattle.em_tree_visits.proofs.LeavingSteps.{leaf_can, part_left, take_stopped}
use Rattle.em_tree_visits.proofs.leaving.leave_leaf.Goals as goal

pub returns-then-has_enough-clause-leaves : goal.returns-then-has_enough-clause-leaves
returns-then-has_enough-clause-leaves g c =
    let enough = c.has_enough.ensures.0 c.if-has_enough.true in
    leaf_kept c.requires.can _ c.args.taken _
    (let e = ap length c.records.ensures in omega (arith, e, c.requires.few)) enough.0
    (let n = enough.1 in omega (arith, n, c.len-count.ensures))

pub take_whole-requires-clause-can : goal.take_whole-requires-clause-can
take_whole-requires-clause-can g c = record { can = c.requires.can; fits = omega (arith, c.if-count-room.true) }

pub take_leaf-requires-clause-can : goal.take_leaf-requires-clause-can
take_leaf-requires-clause-can g c = leaf_can c.requires.can

pub returns-in_err-part-clause-leaves : goal.returns-in_err-part-clause-leaves
returns-in_err-part-clause-leaves g c =
    leaves_err _ _ c.args.taken c.from_residual.result c.in_err-part.field-0.0 c.from_residual.ensures.1
    (take_stopped c.requires.can c.in_err-part.ensures.takes)

pub returns-clause-leaves : goal.returns-clause-leaves
returns-clause-leaves g c =
    part_left c.requires.can c.in_ok-part.ensures.takes c.requires.few
    (let e = ap length c.records.ensures in omega (arith, e, c.requires.few)) (omega (arith, c.if-count-room.false))
    (omega (arith, c.requires.sound.shape.block_low))
