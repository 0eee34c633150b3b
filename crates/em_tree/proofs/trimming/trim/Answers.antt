use Rattle.em_space.specs.Seen.{seen}
use Rattle.em_tree.proofs.TrimCalls.{look_can, look_free, look_refused, make_can}
use Rattle.em_tree.proofs.TrimLooks.{found_can, found_other, found_trim}
use Rattle.em_tree.proofs.trimming.trim.Goals as goal

pub is_trim-requires-clause-can : goal.is_trim-requires-clause-can
is_trim-requires-clause-can g c =
    let settle = c.args.settle.now in
    look_can (g.S.Settle.key_of settle) (g.S.Settle.step_of settle) (g.S.Settle.IsOp settle)
    (g.S.Settle.IsKept settle) (seen g.D.Device.state c.args.rig.now) c.args.trunk.now c.requires.can
    c.requires.trim

pub is_trim-requires-clause-free : goal.is_trim-requires-clause-free
is_trim-requires-clause-free g c =
    let settle = c.args.settle.now in
    look_free (g.S.Settle.key_of settle) (g.S.Settle.step_of settle) (g.S.Settle.IsOp settle)
    (g.S.Settle.IsKept settle) (seen g.D.Device.state c.args.rig.now) c.args.trunk.now c.requires.can
    c.requires.trim

pub returns-in_err-is_trim : goal.returns-in_err-is_trim
returns-in_err-is_trim g c =
    let settle = c.args.settle.now in
    look_refused (g.S.Settle.key_of settle) (g.S.Settle.step_of settle) (g.S.Settle.IsOp settle)
    (g.S.Settle.IsKept settle) (seen g.D.Device.state c.args.rig.now) c.args.trunk.now c.requires.can
    c.requires.trim (seen g.D.Device.state c.is_trim.new.rig) c.from_residual.result
    c.in_err-is_trim.field-0.0 c.from_residual.ensures.1 c.in_err-is_trim.ensures

pub returns-then-branch : goal.returns-then-branch
returns-then-branch g c =
    let settle = c.args.settle.now in
    found_trim (g.S.Settle.key_of settle) (g.S.Settle.step_of settle) (g.S.Settle.IsOp settle)
    (g.S.Settle.IsKept settle) (seen g.D.Device.state c.args.rig.now) (seen g.D.Device.state c.is_trim.new.rig)
    c.args.trunk.now c.requires.can.sound c.requires.can.running c.requires.trim c.in_ok-is_trim.field-0
    c.in_ok-is_trim.ensures c.if-branch.true

pub make_trim-requires-clause-can : goal.make_trim-requires-clause-can
make_trim-requires-clause-can g c =
    let settle = c.args.settle.now in
    make_can (g.S.Settle.key_of settle) (g.S.Settle.step_of settle) (g.S.Settle.IsOp settle)
    (g.S.Settle.IsKept settle) (seen g.D.Device.state c.args.rig.now) c.args.trunk.now c.requires.can
    c.requires.trim (seen g.D.Device.state c.is_trim.new.rig) c.in_ok-is_trim.ensures

pub make_trim-requires-clause-trim : goal.make_trim-requires-clause-trim
make_trim-requires-clause-trim g c =
    let settle = c.args.settle.now in
    found_can (g.S.Settle.key_of settle) (g.S.Settle.step_of settle) (g.S.Settle.IsOp settle)
    (g.S.Settle.IsKept settle) (seen g.D.Device.state c.args.rig.now) (seen g.D.Device.state c.is_trim.new.rig)
    c.args.trunk.now c.requires.can.sound c.requires.can.running c.requires.trim c.in_ok-is_trim.field-0
    c.in_ok-is_trim.ensures

pub returns : goal.returns
returns g c =
    let settle = c.args.settle.now in
    found_other (g.S.Settle.key_of settle) (g.S.Settle.step_of settle) (g.S.Settle.IsOp settle)
    (g.S.Settle.IsKept settle) (seen g.D.Device.state c.args.rig.now) (seen g.D.Device.state c.is_trim.new.rig)
    c.args.trunk.now c.requires.can.sound c.requires.can.running c.requires.trim c.in_ok-is_trim.field-0
    c.in_ok-is_trim.ensures (seen g.D.Device.state c.make_trim.new.rig) c.make_trim.new.trunk
    c.make_trim.result c.if-branch.false c.make_trim.ensures
