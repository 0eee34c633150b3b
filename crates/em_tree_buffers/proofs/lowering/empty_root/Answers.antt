use Rattle.std.proofs.Common.{◌∙◌, sym}
use Rattle.em_space.specs.Seen.{seen}
use Rattle.em_tree_buffers.proofs.RootDrains.{drain_can, drains_back, drains_err, drains_none, drains_of, drains_ok}
use Rattle.em_tree_buffers.proofs.lowering.empty_root.Goals as goal

pub returns-in_err-buffer : goal.returns-in_err-buffer
returns-in_err-buffer g c =
    let settle = c.args.settle.now in
    let s = seen g.D.Device.state c.args.rig.now in
    let a = seen g.D.Device.state c.take_buffer.new.rig in
    let v = c.args.trunk.now in
    let w = c.take_buffer.new.self in
    record {
      drains = drains_of (g.S.Settle.key_of settle) (g.S.Settle.step_of settle) (g.S.Settle.IsOp settle)
          (g.S.Settle.IsKept settle) s a v w c.from_residual.result c.in_err-buffer.field-0.0
          c.from_residual.ensures.1
          (drains_err (g.S.Settle.key_of settle) (g.S.Settle.step_of settle) (g.S.Settle.IsOp settle)
          (g.S.Settle.IsKept settle) s a v w c.requires.can (λ e. c.if-count-eq0.false (c.len-count.ensures ∙ e)) c.in_err-buffer.field-0.0
          c.in_err-buffer.ensures);
    }

pub empty_node-requires-clause-can : goal.empty_node-requires-clause-can
empty_node-requires-clause-can g c =
    let settle = c.args.settle.now in
    drain_can (g.S.Settle.key_of settle) (g.S.Settle.step_of settle) (g.S.Settle.IsOp settle)
    (g.S.Settle.IsKept settle) (seen g.D.Device.state c.args.rig.now)
    (seen g.D.Device.state c.take_buffer.new.rig) c.args.trunk.now c.take_buffer.new.self c.requires.can
    c.in_ok-buffer.buffer c.in_ok-buffer.ensures

pub returns-in_err-empty_node : goal.returns-in_err-empty_node
returns-in_err-empty_node g c =
    let settle = c.args.settle.now in
    let s = seen g.D.Device.state c.args.rig.now in
    let a = seen g.D.Device.state c.take_buffer.new.rig in
    let t = seen g.D.Device.state c.empty_node.new.rig in
    let v = c.args.trunk.now in
    let w = c.take_buffer.new.self in
    let e = c.in_err-empty_node.ensures in
    let fault = c.in_err-empty_node.field-0.0 in
    record {
      drains = drains_of (g.S.Settle.key_of settle) (g.S.Settle.step_of settle) (g.S.Settle.IsOp settle)
          (g.S.Settle.IsKept settle) s t v w c.from_residual-in_err-empty_node.result fault
          c.from_residual-in_err-empty_node.ensures.1
          (drains_back (g.S.Settle.key_of settle) (g.S.Settle.step_of settle) (g.S.Settle.IsOp settle)
          (g.S.Settle.IsKept settle) s a v w c.requires.can (λ e. c.if-count-eq0.false (c.len-count.ensures ∙ e)) t c.in_ok-buffer.buffer fault
          c.in_ok-buffer.ensures e.leaves e.costs e.cause);
    }

pub returns : goal.returns
returns g c =
    let settle = c.args.settle.now in
    let s = seen g.D.Device.state c.args.rig.now in
    let a = seen g.D.Device.state c.take_buffer.new.rig in
    let t = seen g.D.Device.state c.empty_node.new.rig in
    let e = c.in_ok-empty_node.ensures in
    record {
      drains = drains_ok (g.S.Settle.key_of settle) (g.S.Settle.step_of settle) (g.S.Settle.IsOp settle)
          (g.S.Settle.IsKept settle) s a c.args.trunk.now c.take_buffer.new.self c.requires.can
          (record {
            in_order = g.met.S.Settle.in_order settle;
            keeps = g.met.S.Settle.keeps settle;
            keeps_key = g.met.S.Settle.keeps_key settle;
            stays_below = g.met.S.Settle.stays_below settle;
          })
          c.requires.drain t c.in_ok-buffer.buffer c.in_ok-empty_node.field-0 c.in_ok-buffer.ensures
          (record {
            emptied = e.emptied;
            session = e.leaves.0;
            frames = e.leaves.1;
            costs = e.costs;
            frees = e.frees;
          });
    }

pub returns-then-count-eq0 : goal.returns-then-count-eq0
returns-then-count-eq0 g c =
    let settle = c.args.settle.now in
    record {
      drains = drains_none (g.S.Settle.key_of settle) (g.S.Settle.step_of settle) (g.S.Settle.IsOp settle)
          (g.S.Settle.IsKept settle) c.requires.can c.requires.drain (sym c.len-count.ensures ∙ c.if-count-eq0.true);
    }
