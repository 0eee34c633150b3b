use Rattle.std.proofs.Common.{◌-◌, Bool}
use Rattle.em_settle.specs.Laws.{IsSettle}
use Rattle.em_space.specs.Seen.{seen}
use Rattle.em_empty.specs.Effects.{EmptiedAt}
use Rattle.em_tree_buffers.proofs.ByLevel.{can_pour, lowers_back, lowers_err, lowers_of, lowers_ok, lowers_tells, place_of_spot}
use Rattle.em_tree_buffers.proofs.lowering.lower_entry.Goals as goal

pub take_out-requires-clause-place : goal.take_out-requires-clause-place
take_out-requires-clause-place g c =
    place_of_spot c.args.level c.args.node c.args.at (seen g.D.Device.state c.args.rig.now)
    c.args.trunk.now c.requires.above c.requires.spot

pub returns-in_err-child-clause-lowers : goal.returns-in_err-child-clause-lowers
returns-in_err-child-clause-lowers g c =
    let settle = c.args.settle.now in
    let key = g.S.Settle.key_of settle in
    let step = g.S.Settle.step_of settle in
    let s = seen g.D.Device.state c.args.rig.now in
    let t = seen g.D.Device.state c.take_out.new.rig in
    let v = c.args.trunk.now in
    λ spot. lowers_of key step (g.S.Settle.IsOp settle) (g.S.Settle.IsKept settle)
    (c.args.level - 1) c.args.at s t v v spot.spot.path c.from_residual.result
    c.in_err-child.field-0.0 c.from_residual.ensures.1
    (lowers_err key step (g.S.Settle.IsOp settle) (g.S.Settle.IsKept settle) c.args.node c.args.at s
    v c.requires.can Bool c.args.level c.requires.above spot t c.in_err-child.field-0.0
    c.in_err-child.ensures)

pub empty_node-requires-clause-can : goal.empty_node-requires-clause-can
empty_node-requires-clause-can g c =
    let settle = c.args.settle.now in
    can_pour (g.S.Settle.key_of settle) (g.S.Settle.step_of settle) (g.S.Settle.IsOp settle)
    (g.S.Settle.IsKept settle) c.args.node c.args.at (seen g.D.Device.state c.args.rig.now)
    c.args.trunk.now c.requires.can c.args.level c.requires.above c.requires.spot
    (seen g.D.Device.state c.take_out.new.rig) c.in_ok-child.child c.in_ok-child.buffer
    c.in_ok-child.ensures

pub returns-in_err-empty_node-clause-lowers : goal.returns-in_err-empty_node-clause-lowers
returns-in_err-empty_node-clause-lowers g c =
    let settle = c.args.settle.now in
    let key = g.S.Settle.key_of settle in
    let step = g.S.Settle.step_of settle in
    let s = seen g.D.Device.state c.args.rig.now in
    let a = seen g.D.Device.state c.take_out.new.rig in
    let t = seen g.D.Device.state c.empty_node.new.rig in
    let v = c.args.trunk.now in
    let e = c.in_err-empty_node.ensures in
    let fault = c.in_err-empty_node.field-0.0 in
    λ spot. lowers_of key step (g.S.Settle.IsOp settle) (g.S.Settle.IsKept settle)
    (c.args.level - 1) c.args.at s t v v spot.spot.path c.from_residual-in_err-empty_node.result
    fault c.from_residual-in_err-empty_node.ensures.1
    (lowers_back key step (g.S.Settle.IsOp settle) (g.S.Settle.IsKept settle) c.args.node c.args.at s
    v c.requires.can Bool c.args.level c.requires.above spot a t c.in_ok-child.child
    c.in_ok-child.buffer fault c.in_ok-child.ensures e.leaves e.costs e.cause)

pub returns : goal.returns
returns g c =
    let settle = c.args.settle.now in
    let key = g.S.Settle.key_of settle in
    let step = g.S.Settle.step_of settle in
    let s = seen g.D.Device.state c.args.rig.now in
    let a = seen g.D.Device.state c.take_out.new.rig in
    let t = seen g.D.Device.state c.empty_node.new.rig in
    let e = c.in_ok-empty_node.ensures in
    let laws : IsSettle key step (g.S.Settle.IsOp settle) (g.S.Settle.IsKept settle) = record {
      in_order = g.met.S.Settle.in_order settle;
      keeps = g.met.S.Settle.keeps settle;
      keeps_key = g.met.S.Settle.keeps_key settle;
      stays_below = g.met.S.Settle.stays_below settle;
    } in
    let done : EmptiedAt key a t c.in_ok-child.child c.in_ok-child.buffer c.in_ok-empty_node.field-0 = record {
      emptied = e.emptied;
      session = e.leaves.0;
      frames = e.leaves.1;
      costs = e.costs;
      frees = e.frees;
    } in
    record {
      lowers = λ spot. lowers_ok key step (g.S.Settle.IsOp settle) (g.S.Settle.IsKept settle) c.args.node
          c.args.at s c.args.trunk.now c.requires.can {T = Bool} c.is_some.result c.args.level laws
          c.requires.above spot a t c.in_ok-child.child c.in_ok-child.buffer c.in_ok-empty_node.field-0
          c.in_ok-child.ensures done;
      tells = λ told spot. lowers_tells key step (g.S.Settle.IsOp settle) (g.S.Settle.IsKept settle)
          c.args.node c.args.at s c.args.trunk.now c.requires.can c.args.level laws c.requires.above spot a t
          c.in_ok-child.child c.in_ok-child.buffer c.in_ok-empty_node.field-0 c.is_some.result
          c.is_some.ensures c.in_ok-child.ensures done told;
    }
