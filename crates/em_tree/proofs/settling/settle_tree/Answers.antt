use Rattle.em_space.specs.Seen.{seen}
use Rattle.em_tree.proofs.SettledTrees.{root_all, root_settles, root_stops}
use Rattle.em_trunk.proofs.Works.{can_after}
use Rattle.em_tree.proofs.settling.settle_tree.Goals as goal

pub returns-in_err-empty_root : goal.returns-in_err-empty_root
returns-in_err-empty_root g c =
    let settle = c.args.settle.now in
    record {
      settles = root_stops (g.S.Settle.key_of settle) (g.S.Settle.step_of settle) (g.S.Settle.IsOp settle)
          (g.S.Settle.IsKept settle) (seen g.D.Device.state c.args.rig.now)
          (seen g.D.Device.state c.empty_root.new.rig) c.args.trunk.now c.empty_root.new.trunk c.requires.can
          c.requires.settle c.from_residual.result c.in_err-empty_root.field-0.0 c.from_residual.ensures.1
          c.in_err-empty_root.ensures.drains;
    }

pub settle_down-requires-clause-can : goal.settle_down-requires-clause-can
settle_down-requires-clause-can g c =
    let settle = c.args.settle.now in
    let done = c.in_ok-empty_root.ensures.drains in
    can_after (g.S.Settle.key_of settle) (g.S.Settle.step_of settle) (g.S.Settle.IsOp settle)
    (g.S.Settle.IsKept settle) 0 0 _ _ (seen g.D.Device.state c.args.rig.now)
    (seen g.D.Device.state c.empty_root.new.rig) c.args.trunk.now c.empty_root.new.trunk c.requires.can
    (done.owes 0)

pub settle_down-requires-clause-settles : goal.settle_down-requires-clause-settles
settle_down-requires-clause-settles g c =
    let settle = c.args.settle.now in
    root_settles (g.S.Settle.key_of settle) (g.S.Settle.step_of settle) (g.S.Settle.IsOp settle)
    (g.S.Settle.IsKept settle) (seen g.D.Device.state c.args.rig.now)
    (seen g.D.Device.state c.empty_root.new.rig) c.args.trunk.now c.empty_root.new.trunk c.requires.can
    c.requires.settle c.in_ok-empty_root.ensures.drains

pub returns : goal.returns
returns g c =
    let settle = c.args.settle.now in
    record {
      settles = root_all (g.S.Settle.key_of settle) (g.S.Settle.step_of settle) (g.S.Settle.IsOp settle)
          (g.S.Settle.IsKept settle) (seen g.D.Device.state c.args.rig.now)
          (seen g.D.Device.state c.empty_root.new.rig) c.args.trunk.now c.empty_root.new.trunk c.requires.can
          c.requires.settle (seen g.D.Device.state c.settle_down.new.rig) c.settle_down.new.trunk
          c.settle_down.result c.in_ok-empty_root.ensures.drains c.settle_down.ensures.settles;
    }
