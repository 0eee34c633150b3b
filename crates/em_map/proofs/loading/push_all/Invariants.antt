use Rattle.std.proofs.Common.{◌≡◌, ◌-◌, length}
use Rattle.em_settle.specs.Add.{apply_of}
use Rattle.em_space.specs.Seen.{seen}
use Rattle.em_map.specs.Loading.{PushedSome}
use Rattle.em_map.proofs.loading.push_all.Given as goal

abbrev pub invariant-loop-at : goal.invariant-loop-at
invariant-loop-at g l = record {
  rule : l.tree.settle ≡ l.fn.tree.settle;
  some : PushedSome (apply_of l.fn.tree.settle.kind) l.ops l.at
      (seen g.D.Device.state l.fn.rig) (seen g.D.Device.state l.rig) l.fn.tree.trunk l.tree.trunk;
}

abbrev pub decreases-loop-at : goal.decreases-loop-at
decreases-loop-at g l = length l.ops - l.at
