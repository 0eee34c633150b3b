use Rattle.std.proofs.Common.{◌-◌, Ok, arith}
use Rattle.em_space.specs.Seen.{seen}
use Rattle.em_tree_buffers.proofs.ByLevel.{lowers_of}
use Rattle.em_tree_buffers.proofs.EntryByLevel.{empties_leaf, empties_node, leaf_spot}
use Rattle.em_tree_buffers.proofs.entry.empty_entry.Goals as goal

pub load_entry-requires-clause-spot : goal.load_entry-requires-clause-spot
load_entry-requires-clause-spot g c =
    let one = c.if-level-eq1.true in
    leaf_spot c.args.level c.args.node c.args.at (seen g.D.Device.state c.args.rig.now)
    c.args.trunk.now (omega (arith, one)) c.requires.spot

pub returns-then-level-eq1 : goal.returns-then-level-eq1
returns-then-level-eq1 g c =
    let settle = c.args.settle.now in
    let one = c.if-level-eq1.true in
    record {
      empties = λ spot. empties_leaf (g.S.Settle.key_of settle) (g.S.Settle.step_of settle)
          (g.S.Settle.IsOp settle) (g.S.Settle.IsKept settle) c.args.node c.args.at
          (seen g.D.Device.state c.args.rig.now) (seen g.D.Device.state c.load_entry.new.rig)
          c.args.trunk.now c.load_entry.new.trunk c.load_entry.result c.args.level (omega (arith, one))
          c.load_entry.ensures.loads spot;
    }

pub returns-in_err-lower_entry : goal.returns-in_err-lower_entry
returns-in_err-lower_entry g c =
    let settle = c.args.settle.now in
    let key = g.S.Settle.key_of settle in
    let step = g.S.Settle.step_of settle in
    let IsOp = g.S.Settle.IsOp settle in
    let IsKept = g.S.Settle.IsKept settle in
    let s = seen g.D.Device.state c.args.rig.now in
    let t = seen g.D.Device.state c.lower_entry.new.rig in
    let v = c.args.trunk.now in
    let some = c.requires.above in
    let more = c.if-level-eq1.false in
    record {
      empties = λ spot. empties_node key step IsOp IsKept c.args.node c.args.at s t v v
          c.from_residual.result c.args.level (omega (arith, some, more))
          (λ z. lowers_of key step IsOp IsKept (c.args.level - 1) c.args.at s t v v z.spot.path
          c.from_residual.result c.in_err-lower_entry.field-0.0 c.from_residual.ensures.1
          (c.in_err-lower_entry.ensures.lowers z)) spot;
    }

pub returns : goal.returns
returns g c =
    let settle = c.args.settle.now in
    let some = c.requires.above in
    let more = c.if-level-eq1.false in
    record {
      empties = λ spot. empties_node (g.S.Settle.key_of settle) (g.S.Settle.step_of settle)
          (g.S.Settle.IsOp settle) (g.S.Settle.IsKept settle) c.args.node c.args.at
          (seen g.D.Device.state c.args.rig.now) (seen g.D.Device.state c.lower_entry.new.rig)
          c.args.trunk.now c.args.trunk.now {T = Unit {0}} (Ok tt) c.args.level
          (omega (arith, some, more)) c.in_ok-lower_entry.ensures.lowers spot;
    }
