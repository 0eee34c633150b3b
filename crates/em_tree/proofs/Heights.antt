-- The height of a tree over a device that tells.
use Rattle.std.proofs.Common.{ℕ, ◌+◌, ◌≤◌, subst, IsTrue}
use Rattle.em_record.specs.Cost.{blocks_of, lev}
use Rattle.em_record.specs.declared.record.Record.{Record}
use Rattle.em_space.specs.Rig.{RigState, Sound}
use Rattle.em_tree_cost.proofs.Paid.{height_most}
use Rattle.em_tree.specs.Calls.{IsLow}
use Rattle.em_trunk.specs.Trunk.{IsTrunk}
use Rattle.em_trunk.specs.declared.trunk.Trunk.{Trunk}

module _ {key : Record → Record} {IsOp IsKept : Record → Type 0} {s : RigState} {v : Trunk}
    (sound : Sound s) (i : IsTrunk key IsOp IsKept s v) (told : IsTrue s.device.told) where
  -- It has at most two levels more than `lev` of the blocks of k operations.
  pub trunk_low : IsLow s.pool.shape v
  trunk_low =
      let b = (i.books told).books in
      let P : ℕ → Type 0 = λ k. v.level ≤ 2 + lev s.pool.shape (blocks_of s.pool.shape k) in
      record { most = subst P b.k (height_most sound.shape b.paid) }
