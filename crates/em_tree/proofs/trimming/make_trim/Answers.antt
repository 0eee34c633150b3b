use Rattle.em_space.specs.Seen.{seen}
use Rattle.em_tree.proofs.TrimCalls.{make_made, make_refused}
use Rattle.em_tree.proofs.TrimmedTrees.{can_trim}
use Rattle.em_tree.proofs.trimming.make_trim.Goals as goal

pub trim_tree-requires-clause-can : goal.trim_tree-requires-clause-can
trim_tree-requires-clause-can g c = can_trim c.requires.can.running c.requires.trim

pub returns-in_err-root : goal.returns-in_err-root
returns-in_err-root g c =
    let settle = c.args.settle.now in
    make_refused (g.S.Settle.key_of settle) (g.S.Settle.step_of settle) (g.S.Settle.IsOp settle)
    (g.S.Settle.IsKept settle) (seen g.D.Device.state c.args.rig.now) c.args.trunk.now c.requires.can
    c.requires.trim (seen g.D.Device.state c.trim_tree.new.rig) c.from_residual.result c.in_err-root.field-0.0
    c.from_residual.ensures.1 c.in_err-root.ensures

pub returns : goal.returns
returns g c =
    let settle = c.args.settle.now in
    make_made (g.S.Settle.key_of settle) (g.S.Settle.step_of settle) (g.S.Settle.IsOp settle)
    (g.S.Settle.IsKept settle) (seen g.D.Device.state c.args.rig.now) c.args.trunk.now c.requires.can
    c.requires.trim {T = Unit {0}} (seen g.D.Device.state c.trim_tree.new.rig) tt c.in_ok-root.root
    c.in_ok-root.ensures
