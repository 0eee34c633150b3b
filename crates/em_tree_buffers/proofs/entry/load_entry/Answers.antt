use Rattle.std.proofs.Common.{IsTrue}
use Rattle.em_settle.specs.Laws.{IsSettle}
use Rattle.em_space.specs.Seen.{seen}
use Rattle.em_tree_buffers.specs.Emptying.{CanEmptyEntry, StopsHeld}
use Rattle.em_tree_buffers.proofs.LoadExits.{exit_splits, exit_split, exit_unloaded, exit_unloaded_held, exit_unsplit, exit_unsplit_held, exit_whole, held_by, loads_of}
use Rattle.em_tree_buffers.proofs.EntryConditions.{can_load}
use Rattle.em_tree_buffers.proofs.entry.load_entry.Given as given
use Rattle.em_tree_buffers.proofs.entry.load_entry.Goals as goal

-- what the tree's rule promises
laws : (g : given.Over) (settle : g.row.S.Denot)
    → IsSettle (g.S.Settle.key_of settle) (g.S.Settle.step_of settle) (g.S.Settle.IsOp settle)
    (g.S.Settle.IsKept settle)
laws g settle = record {
  in_order = g.met.S.Settle.in_order settle;
  keeps = g.met.S.Settle.keeps settle;
  keeps_key = g.met.S.Settle.keeps_key settle;
  stays_below = g.met.S.Settle.stays_below settle;
}

pub load_leaf-requires-clause-can : goal.load_leaf-requires-clause-can
load_leaf-requires-clause-can g c =
    let settle = c.args.settle.now in
    can_load (g.S.Settle.key_of settle) (g.S.Settle.step_of settle) (g.S.Settle.IsOp settle)
    (g.S.Settle.IsKept settle)
    (laws g settle) c.requires.can c.requires.spot

pub returns-in_err-low : goal.returns-in_err-low
returns-in_err-low g c =
    let settle = c.args.settle.now in
    record {
      loads = λ spot. loads_of (g.S.Settle.key_of settle) (g.S.Settle.step_of settle)
          (g.S.Settle.IsOp settle) (g.S.Settle.IsKept settle) c.args.at
          (seen g.D.Device.state c.args.rig.now) (seen g.D.Device.state c.load_leaf.new.rig)
          c.args.trunk.now _ spot.spot.path c.from_residual.result c.in_err-low.field-0.0
          c.from_residual.ensures.1
          (exit_unloaded (g.S.Settle.key_of settle) (g.S.Settle.step_of settle)
          (g.S.Settle.IsOp settle) (g.S.Settle.IsKept settle)
          (laws g settle) c.requires.can spot c.load_leaf.new.answers c.in_err-low.ensures.frame
          c.in_err-low.ensures.loads);
      held = held_by (IsTrue (seen g.D.Device.state c.args.rig.now).device.told
          → (spot : CanEmptyEntry 0 c.args.node c.args.at (seen g.D.Device.state c.args.rig.now)
          c.args.trunk.now) → StopsHeld c.args.at (seen g.D.Device.state c.args.rig.now)
          (seen g.D.Device.state c.load_leaf.new.rig) c.args.trunk.now spot.spot.path)
          c.from_residual.result (λ told spot. exit_unloaded_held
          (g.S.Settle.key_of settle) (g.S.Settle.step_of settle) (g.S.Settle.IsOp settle)
          (g.S.Settle.IsKept settle)
          (laws g settle) c.requires.can spot c.load_leaf.new.answers c.in_err-low.ensures.frame
          c.in_err-low.ensures.loads told);
    }

pub returns-in_default : goal.returns-in_default
returns-in_default g c =
    let settle = c.args.settle.now in
    record {
      loads = λ spot. exit_whole (g.S.Settle.key_of settle) (g.S.Settle.step_of settle)
          (g.S.Settle.IsOp settle) (g.S.Settle.IsKept settle)
          (laws g settle) c.requires.can spot c.in_default.is c.in_ok-low.ensures.loads;
      held = tt;
    }

pub split_up-requires-clause-can : goal.split_up-requires-clause-can
split_up-requires-clause-can g c =
    let settle = c.args.settle.now in
    exit_splits (g.S.Settle.key_of settle) (g.S.Settle.step_of settle) (g.S.Settle.IsOp settle)
    (g.S.Settle.IsKept settle)
    (laws g settle) c.requires.can c.requires.spot c.in-Some.is c.in_ok-low.ensures.loads

pub returns-in_err-root : goal.returns-in_err-root
returns-in_err-root g c =
    let settle = c.args.settle.now in
    record {
      loads = λ spot. loads_of (g.S.Settle.key_of settle) (g.S.Settle.step_of settle)
          (g.S.Settle.IsOp settle) (g.S.Settle.IsKept settle) c.args.at
          (seen g.D.Device.state c.args.rig.now) (seen g.D.Device.state c.split_up.new.rig)
          c.args.trunk.now _ spot.spot.path c.from_residual-in_err-root.result
          c.in_err-root.field-0.0 c.from_residual-in_err-root.ensures.1
          (exit_unsplit (g.S.Settle.key_of settle) (g.S.Settle.step_of settle)
          (g.S.Settle.IsOp settle) (g.S.Settle.IsKept settle)
          (laws g settle) c.requires.can spot c.in-Some.is c.in_ok-low.ensures.loads c.in_err-root.ensures);
      held = held_by (IsTrue (seen g.D.Device.state c.args.rig.now).device.told
          → (spot : CanEmptyEntry 0 c.args.node c.args.at (seen g.D.Device.state c.args.rig.now)
          c.args.trunk.now) → StopsHeld c.args.at (seen g.D.Device.state c.args.rig.now)
          (seen g.D.Device.state c.split_up.new.rig) c.args.trunk.now spot.spot.path)
          c.from_residual-in_err-root.result (λ told spot. exit_unsplit_held
          (g.S.Settle.key_of settle) (g.S.Settle.step_of settle) (g.S.Settle.IsOp settle)
          (g.S.Settle.IsKept settle)
          (laws g settle) c.requires.can spot c.in-Some.is c.in_ok-low.ensures.loads
          c.in_err-root.ensures told);
    }

pub returns : goal.returns
returns g c =
    let settle = c.args.settle.now in
    record {
      loads = λ spot. exit_split (g.S.Settle.key_of settle) (g.S.Settle.step_of settle)
          (g.S.Settle.IsOp settle) (g.S.Settle.IsKept settle)
          (laws g settle) c.requires.can spot c.in-Some.is c.in_ok-low.ensures.loads c.in_ok-root.ensures;
      held = tt;
    }
