use Rattle.em_space.specs.Seen.{seen}
use Rattle.em_tree.proofs.TrimCalls.{trim_ready, trim_refused, trim_then}
use Rattle.em_trunk.proofs.Works.{can_after}
use Rattle.em_tree.proofs.settling.settle_trim.Goals as goal

pub returns-in_err-settle_tree : goal.returns-in_err-settle_tree
returns-in_err-settle_tree g c =
    let settle = c.args.settle.now in
    trim_refused (g.S.Settle.key_of settle) (g.S.Settle.step_of settle) (g.S.Settle.IsOp settle)
    (g.S.Settle.IsKept settle) c.from_residual.result c.in_err-settle_tree.field-0.0 c.from_residual.ensures.1
    c.in_err-settle_tree.ensures.settles

pub trim-requires-clause-can : goal.trim-requires-clause-can
trim-requires-clause-can g c =
    let settle = c.args.settle.now in
    can_after (g.S.Settle.key_of settle) (g.S.Settle.step_of settle) (g.S.Settle.IsOp settle)
    (g.S.Settle.IsKept settle) 0 0 _ _ (seen g.D.Device.state c.args.rig.now)
    (seen g.D.Device.state c.settle_tree.new.rig) c.args.trunk.now c.settle_tree.new.trunk c.requires.can
    c.in_ok-settle_tree.ensures.settles.works

pub trim-requires-clause-trim : goal.trim-requires-clause-trim
trim-requires-clause-trim g c =
    let settle = c.args.settle.now in
    trim_ready (g.S.Settle.key_of settle) (g.S.Settle.step_of settle) (g.S.Settle.IsOp settle)
    (g.S.Settle.IsKept settle) c.in_ok-settle_tree.ensures.settles

pub returns : goal.returns
returns g c =
    let settle = c.args.settle.now in
    trim_then (g.S.Settle.key_of settle) (g.S.Settle.step_of settle) (g.S.Settle.IsOp settle)
    (g.S.Settle.IsKept settle) c.in_ok-settle_tree.ensures.settles
    (seen g.D.Device.state c.trim.new.rig) c.trim.new.trunk c.trim.result c.trim.ensures
