use Rattle.em_space.specs.Seen.{seen}
use Rattle.em_tree.proofs.Endings.{finish_stopped, release_full, release_unused, settled_free, settled_release, settled_then, settling_full}
use Rattle.em_tree.proofs.ending.finish_blocks.Goals as goal

pub returns-in_err-settle_used-clause-full : goal.returns-in_err-settle_used-clause-full
returns-in_err-settle_used-clause-full g c =
    settling_full c.args.trunk.now c.from_residual.result c.in_err-settle_used.field-0.0 c.from_residual.ensures.1
    c.in_err-settle_used.ensures.used

pub returns-in_err-settle_used-clause-finishes : goal.returns-in_err-settle_used-clause-finishes
returns-in_err-settle_used-clause-finishes g c =
    let settle = c.args.settle.now in
    finish_stopped (g.S.Settle.key_of settle) (g.S.Settle.step_of settle) (g.S.Settle.IsOp settle)
    (g.S.Settle.IsKept settle) c.from_residual.result c.in_err-settle_used.field-0.0
    c.from_residual.ensures.1 c.in_err-settle_used.ensures.settles

pub release_tree-requires-clause-can : goal.release_tree-requires-clause-can
release_tree-requires-clause-can g c =
    let settle = c.args.settle.now in
    settled_release (g.S.Settle.key_of settle) (g.S.Settle.step_of settle) (g.S.Settle.IsOp settle)
    (g.S.Settle.IsKept settle) c.in_ok-settle_used.ensures.settles

pub release_tree-requires-clause-free : goal.release_tree-requires-clause-free
release_tree-requires-clause-free g c =
    let settle = c.args.settle.now in
    settled_free (g.S.Settle.key_of settle) (g.S.Settle.step_of settle) (g.S.Settle.IsOp settle)
    (g.S.Settle.IsKept settle) c.in_ok-settle_used.ensures.settles c.requires.can

pub returns-clause-full : goal.returns-clause-full
returns-clause-full g c =
    release_full (seen g.D.Device.state c.settle_used.new.rig) (seen g.D.Device.state c.release_tree.new.rig)
    c.settle_used.new.trunk.level c.settle_used.new.trunk.root c.args.trunk.now c.release_tree.result
    c.release_tree.ensures

pub returns-clause-finishes : goal.returns-clause-finishes
returns-clause-finishes g c =
    let settle = c.args.settle.now in
    settled_then (g.S.Settle.key_of settle) (g.S.Settle.step_of settle) (g.S.Settle.IsOp settle)
    (g.S.Settle.IsKept settle) c.in_ok-settle_used.ensures.settles
    (seen g.D.Device.state c.release_tree.new.rig) _ c.release_tree.ensures

pub returns-in_err-settle_used-clause-unused : goal.returns-in_err-settle_used-clause-unused
returns-in_err-settle_used-clause-unused g c = λ e. absurd (c.in_err-settle_used.ensures.used e)

pub returns-clause-unused : goal.returns-clause-unused
returns-clause-unused g c =
    λ e. (let h = c.in_ok-settle_used.ensures.still e in
    release_unused (seen g.D.Device.state c.args.rig.now) (seen g.D.Device.state c.settle_used.new.rig)
    (seen g.D.Device.state c.release_tree.new.rig) c.args.trunk.now c.settle_used.new.trunk
    c.release_tree.result h.0 h.1 c.release_tree.ensures)
