use Rattle.em_space.specs.Seen.{seen}
use Rattle.em_tree_visits.proofs.TopEmptied.{empties_top_of, root_stopped, top_can, top_ends, top_full}
use Rattle.em_tree_visits.proofs.visiting.empty_top.Goals as goal

pub empty_root-requires-clause-drain : goal.empty_root-requires-clause-drain
empty_root-requires-clause-drain g c = c.requires.take.drain

pub returns-in_err-empty_root : goal.returns-in_err-empty_root
returns-in_err-empty_root g c =
    let settle = c.args.settle.now in
    let key = g.S.Settle.key_of settle in
    let step = g.S.Settle.step_of settle in
    let IsOp = g.S.Settle.IsOp settle in
    let IsKept = g.S.Settle.IsKept settle in
    record {
      empties = empties_top_of key step IsOp IsKept (seen g.D.Device.state c.args.rig.now)
          (seen g.D.Device.state c.empty_root.new.rig) c.args.trunk.now c.empty_root.new.trunk
          c.from_residual.result c.in_err-empty_root.field-0.0 c.from_residual.ensures.1
          (root_stopped key step IsOp IsKept c.requires.can c.requires.take c.in_err-empty_root.ensures.drains);
    }

pub empty_full-requires-clause-can : goal.empty_full-requires-clause-can
empty_full-requires-clause-can g c =
    let settle = c.args.settle.now in
    top_can (g.S.Settle.key_of settle) (g.S.Settle.step_of settle) (g.S.Settle.IsOp settle)
    (g.S.Settle.IsKept settle) c.requires.can c.requires.take c.in_ok-empty_root.ensures.drains

pub empty_full-requires-clause-clear : goal.empty_full-requires-clause-clear
empty_full-requires-clause-clear g c =
    let settle = c.args.settle.now in
    top_full (g.S.Settle.key_of settle) (g.S.Settle.step_of settle) (g.S.Settle.IsOp settle)
    (g.S.Settle.IsKept settle) c.requires.can c.requires.take c.in_ok-empty_root.ensures.drains

pub returns : goal.returns
returns g c =
    let settle = c.args.settle.now in
    record {
      empties = top_ends (g.S.Settle.key_of settle) (g.S.Settle.step_of settle) (g.S.Settle.IsOp settle)
          (g.S.Settle.IsKept settle) c.requires.can c.requires.take c.in_ok-empty_root.ensures.drains
          (seen g.D.Device.state c.empty_full.new.rig) c.empty_full.new.trunk c.empty_full.result c.empty_full.ensures;
    }
