use Rattle.em_space.specs.Seen.{seen}
use Rattle.em_tree.proofs.PushSteps.{append_stopped, can_append, can_drain, can_work, clear_can, clear_full, cleared, drain_stopped, full_by, not_full, pushes_err, room_by}
use Rattle.em_tree.proofs.emptying.push_op.Goals as goal

pub append-requires-clause-is : goal.append-requires-clause-is
append-requires-clause-is g c = c.requires.can.running.buffer

pub append-requires-clause-room : goal.append-requires-clause-room
append-requires-clause-room g c = can_append _ _ _ _ _ _ c.requires.can c.requires.push

pub returns-in_err-append : goal.returns-in_err-append
returns-in_err-append g c =
    let settle = c.args.settle.now in
    let s = seen g.D.Device.state c.args.rig.now in
    let m = seen g.D.Device.state c.append.new.rig in
    let v = c.args.trunk.now in
    let b = c.append.new.self in
    let fault = c.in_err-append.field-0.0 in
    let e = c.in_err-append.ensures in
    record {
      pushes = pushes_err (g.S.Settle.key_of settle) (g.S.Settle.step_of settle) (g.S.Settle.IsOp settle)
          (g.S.Settle.IsKept settle) c.args.op s m v (record v { buffer = b }) c.from_residual.result fault
          c.from_residual.ensures.1
          (append_stopped _ _ _ c.args.op s v c.requires.can c.requires.push m b e.goes e.frame fault
          e.costs e.cause);
    }

pub returns-then-len-fan : goal.returns-then-len-fan
returns-then-len-fan g c =
    let settle = c.args.settle.now in
    let e = c.in_ok-append.ensures in
    record {
      pushes = not_full _ (g.S.Settle.step_of settle) _ _ c.args.op _ _ c.requires.can c.requires.push _
          c.append.new.self e.goes e.frame e.appends e.costs
          (room_by _ _ _ _ _ _ c.len.ensures c.fan.ensures.value c.block.ensures.value
          c.shape-shape.ensures c.if-len-fan.true);
    }

pub empty_root-requires-clause-can : goal.empty_root-requires-clause-can
empty_root-requires-clause-can g c =
    let settle = c.args.settle.now in
    let e = c.in_ok-append.ensures in
    can_work _ (g.S.Settle.step_of settle) _ _ c.args.op _ _ c.requires.can c.requires.push _
    c.append.new.self e.goes e.frame e.appends e.costs

pub empty_root-requires-clause-drain : goal.empty_root-requires-clause-drain
empty_root-requires-clause-drain g c =
    let settle = c.args.settle.now in
    let e = c.in_ok-append.ensures in
    can_drain _ (g.S.Settle.step_of settle) _ _ c.args.op _ _ c.requires.can c.requires.push _
    c.append.new.self e.goes e.frame e.appends e.costs

pub returns-in_err-empty_root : goal.returns-in_err-empty_root
returns-in_err-empty_root g c =
    let settle = c.args.settle.now in
    let key = g.S.Settle.key_of settle in
    let step = g.S.Settle.step_of settle in
    let IsOp = g.S.Settle.IsOp settle in
    let IsKept = g.S.Settle.IsKept settle in
    let s = seen g.D.Device.state c.args.rig.now in
    let u = seen g.D.Device.state c.empty_root.new.rig in
    let v = c.args.trunk.now in
    let x = c.empty_root.new.trunk in
    let fault = c.in_err-empty_root.field-0.0 in
    let e = c.in_ok-append.ensures in
    record {
      pushes = pushes_err key step IsOp IsKept c.args.op s u v x c.from_residual-in_err-empty_root.result
          fault c.from_residual-in_err-empty_root.ensures.1
          (drain_stopped key step IsOp IsKept c.args.op s v c.requires.can c.requires.push _
          c.append.new.self e.goes e.frame e.appends e.costs
          (full_by _ _ _ _ _ _ c.len.ensures c.fan.ensures.value c.block.ensures.value
          c.shape-shape.ensures c.if-len-fan.false) u x fault c.in_err-empty_root.ensures.drains);
    }

pub empty_full-requires-clause-can : goal.empty_full-requires-clause-can
empty_full-requires-clause-can g c =
    let settle = c.args.settle.now in
    let e = c.in_ok-append.ensures in
    clear_can _ (g.S.Settle.step_of settle) _ _ c.args.op _ _ c.requires.can c.requires.push _
    c.append.new.self e.goes e.frame e.appends e.costs
    (full_by _ _ _ _ _ _ c.len.ensures c.fan.ensures.value c.block.ensures.value
    c.shape-shape.ensures c.if-len-fan.false) _ _ c.in_ok-empty_root.ensures.drains

pub empty_full-requires-clause-clear : goal.empty_full-requires-clause-clear
empty_full-requires-clause-clear g c =
    let settle = c.args.settle.now in
    let e = c.in_ok-append.ensures in
    clear_full _ (g.S.Settle.step_of settle) _ _ c.args.op _ _ c.requires.can c.requires.push _
    c.append.new.self e.goes e.frame e.appends e.costs
    (full_by _ _ _ _ _ _ c.len.ensures c.fan.ensures.value c.block.ensures.value
    c.shape-shape.ensures c.if-len-fan.false) _ _ c.in_ok-empty_root.ensures.drains

pub returns : goal.returns
returns g c =
    let settle = c.args.settle.now in
    let key = g.S.Settle.key_of settle in
    let step = g.S.Settle.step_of settle in
    let IsOp = g.S.Settle.IsOp settle in
    let IsKept = g.S.Settle.IsKept settle in
    let t = seen g.D.Device.state c.empty_full.new.rig in
    let e = c.in_ok-append.ensures in
    record {
      pushes = cleared key step IsOp IsKept c.args.op _ _ c.requires.can c.requires.push _
          c.append.new.self e.goes e.frame e.appends e.costs
          (full_by _ _ _ _ _ _ c.len.ensures c.fan.ensures.value c.block.ensures.value
          c.shape-shape.ensures c.if-len-fan.false) _ _ c.in_ok-empty_root.ensures.drains t
          c.empty_full.new.trunk c.empty_full.result c.empty_full.ensures;
    }
