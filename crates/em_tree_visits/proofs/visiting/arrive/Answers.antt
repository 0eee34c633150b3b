use Rattle.std.proofs.Common.{arith}
use Rattle.em_space.specs.Seen.{seen}
use Rattle.em_tree_visits.proofs.Arrival.{arrives, arrives_of, find_ready, load_can, load_ready, load_stopped, way_can, way_ready, way_stopped}
use Rattle.em_tree_visits.proofs.visiting.arrive.Goals as goal

pub empty_way-requires-clause-way : goal.empty_way-requires-clause-way
empty_way-requires-clause-way g c =
    let settle = c.args.settle.now in
    way_ready (g.S.Settle.key_of settle) (g.S.Settle.step_of settle) (g.S.Settle.IsOp settle)
    (g.S.Settle.IsKept settle) c.requires.can c.requires.visit

pub returns-in_err-empty_way : goal.returns-in_err-empty_way
returns-in_err-empty_way g c =
    let settle = c.args.settle.now in
    let key = g.S.Settle.key_of settle in
    let step = g.S.Settle.step_of settle in
    let IsOp = g.S.Settle.IsOp settle in
    let IsKept = g.S.Settle.IsKept settle in
    record {
      arrives = arrives_of key step IsOp IsKept (seen g.D.Device.state c.args.rig.now)
          (seen g.D.Device.state c.empty_way.new.rig) c.args.trunk.now c.empty_way.new.trunk
          c.from_residual.result c.in_err-empty_way.field-0.0 c.from_residual.ensures.1
          (way_stopped key step IsOp IsKept c.requires.can c.requires.visit c.in_err-empty_way.ensures.empties);
    }

pub load_first-requires-clause-can : goal.load_first-requires-clause-can
load_first-requires-clause-can g c =
    let settle = c.args.settle.now in
    way_can (g.S.Settle.key_of settle) (g.S.Settle.step_of settle) (g.S.Settle.IsOp settle)
    (g.S.Settle.IsKept settle) c.requires.can c.requires.visit c.in_ok-empty_way.ensures.empties

pub load_first-requires-clause-load : goal.load_first-requires-clause-load
load_first-requires-clause-load g c =
    let settle = c.args.settle.now in
    load_ready (g.S.Settle.key_of settle) (g.S.Settle.step_of settle) (g.S.Settle.IsOp settle)
    (g.S.Settle.IsKept settle) c.requires.can c.requires.visit c.in_ok-empty_way.ensures.empties

pub returns-in_err-load_first : goal.returns-in_err-load_first
returns-in_err-load_first g c =
    let settle = c.args.settle.now in
    let key = g.S.Settle.key_of settle in
    let step = g.S.Settle.step_of settle in
    let IsOp = g.S.Settle.IsOp settle in
    let IsKept = g.S.Settle.IsKept settle in
    let way = c.in_ok-empty_way.ensures.empties in
    record {
      arrives = arrives_of key step IsOp IsKept (seen g.D.Device.state c.args.rig.now)
          (seen g.D.Device.state c.load_first.new.rig) c.args.trunk.now c.load_first.new.trunk
          c.from_residual-in_err-load_first.result c.in_err-load_first.field-0.0
          c.from_residual-in_err-load_first.ensures.1
          (load_stopped key step IsOp IsKept c.requires.can c.requires.visit way
          (c.in_err-load_first.ensures.loads
          (load_ready key step IsOp IsKept c.requires.can c.requires.visit way)));
    }

pub find_leaf-requires-clause-sound : goal.find_leaf-requires-clause-sound
find_leaf-requires-clause-sound g c =
    let settle = c.args.settle.now in
    let way = c.in_ok-empty_way.ensures.empties in
    (load_can (g.S.Settle.key_of settle) (g.S.Settle.step_of settle) (g.S.Settle.IsOp settle)
    (g.S.Settle.IsKept settle) c.requires.can c.requires.visit way
    (c.in_ok-load_first.ensures.loads
    (load_ready (g.S.Settle.key_of settle) (g.S.Settle.step_of settle) (g.S.Settle.IsOp settle)
    (g.S.Settle.IsKept settle) c.requires.can c.requires.visit way))).sound

pub find_leaf-requires-clause-free : goal.find_leaf-requires-clause-free
find_leaf-requires-clause-free g c =
    let settle = c.args.settle.now in
    let way = c.in_ok-empty_way.ensures.empties in
    let can = load_can (g.S.Settle.key_of settle) (g.S.Settle.step_of settle) (g.S.Settle.IsOp settle)
    (g.S.Settle.IsKept settle) c.requires.can c.requires.visit way
    (c.in_ok-load_first.ensures.loads
    (load_ready (g.S.Settle.key_of settle) (g.S.Settle.step_of settle) (g.S.Settle.IsOp settle)
    (g.S.Settle.IsKept settle) c.requires.can c.requires.visit way)) in
    let free = can.free in
    omega arith

pub find_leaf-requires-clause-can : goal.find_leaf-requires-clause-can
find_leaf-requires-clause-can g c =
    let settle = c.args.settle.now in
    let way = c.in_ok-empty_way.ensures.empties in
    find_ready (g.S.Settle.key_of settle) (g.S.Settle.step_of settle) (g.S.Settle.IsOp settle)
    (g.S.Settle.IsKept settle) c.requires.can c.requires.visit way
    (c.in_ok-load_first.ensures.loads
    (load_ready (g.S.Settle.key_of settle) (g.S.Settle.step_of settle) (g.S.Settle.IsOp settle)
    (g.S.Settle.IsKept settle) c.requires.can c.requires.visit way))

pub returns : goal.returns
returns g c =
    let settle = c.args.settle.now in
    let key = g.S.Settle.key_of settle in
    let step = g.S.Settle.step_of settle in
    let IsOp = g.S.Settle.IsOp settle in
    let IsKept = g.S.Settle.IsKept settle in
    let way = c.in_ok-empty_way.ensures.empties in
    record {
      arrives = arrives key step IsOp IsKept (seen g.D.Device.state c.find_leaf.new.rig) c.find_leaf.new.trunk
          c.requires.can c.requires.visit way
          (c.in_ok-load_first.ensures.loads
          (load_ready key step IsOp IsKept c.requires.can c.requires.visit way))
          c.find_leaf.result c.find_leaf.ensures;
    }
