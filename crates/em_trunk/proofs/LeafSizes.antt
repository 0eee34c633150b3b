-- The leaf of an entry, by its blocks: what a load of it may owe.
use Rattle.std.proofs.Common.{◌≡◌, ℕ, zero, suc, ◌+◌, ◌*◌, ◌<◌, ◌≤◌, List, length, sym, subst, IsTrue, arith}
use Rattle.std.proofs.Math.Nat.{mul-le-mul_left}
use Rattle.em_record.specs.Shape.{IsShape, payload_of}
use Rattle.em_record.specs.declared.record.Record.{Record}
use Rattle.em_space.specs.Rig.{RigState}
use Rattle.em_chain.proofs.Readers.{length_items}
use Rattle.em_tree_blocks.specs.Effects.{entry_on}
use Rattle.em_tree_blocks.specs.Paths.{child_at, node_on}
use Rattle.em_tree_blocks.specs.Reading.{IsLeafAt, IsTreeAt, entries_at, leaf_items, stored_chain}
use Rattle.em_tree_blocks.proofs.Paths.{child_stored}
use Rattle.em_tree_blocks.proofs.Whole.{stored_on}
use Rattle.em_tree_cost.specs.Sizes.{IsCeil}
use Rattle.em_tree_cost.proofs.Ceilings.{ceil_most, ceiling_is}
use Rattle.em_tree_load.specs.LeafLoads.{leaf_size}
use Rattle.em_tree_model.specs.Tree.Tree.{leaf}
use Rattle.em_trunk.specs.Owing.{load_part}
use Rattle.em_trunk.specs.Trunk.{IsRunning}
use Rattle.em_trunk.specs.declared.trunk.Trunk.{Trunk}
use Rattle.em_trunk.proofs.OwingTrees.{part_some}
use Rattle.em_trunk.specs.Spots.{IsSpot, spot_ops}

-- a ceiling is at most what it is of
pub ceil_few : (c P y : ℕ) → 0 < P → IsCeil c P y → c ≤ y
ceil_few c zero y some i = absurd (omega (arith, some))
ceil_few c (suc P) y some i = ceil_most c (suc P) y y i (omega arith)

-- five moves for each of e blocks with n records, and d beside
blocks_owe_of : (P e n b d k : ℕ) → e * P < n + P → e ≤ n → d ≤ 30 + k
    → (P + 1) * (5 * e + d) ≤ 10 * (b + n) + (P + 1) * (35 + k)
blocks_owe_of P e n b d k tight few most =
    let a : (P + 1) * (5 * e) ≡ 5 * (e * P) + 5 * e = omega arith in
    let m : (P + 1) * d ≤ (P + 1) * (30 + k) = mul-le-mul_left (P + 1) most in
    omega (arith, a, m, tight, few)

blocks_owe : (B P e n b d k : ℕ) → B ≡ P + 1 → e * P < n + P → e ≤ n → d ≤ 30 + k
    → B * (5 * e + d) ≤ 10 * (b + n) + B * (35 + k)
blocks_owe B P e n b d k same tight few most =
    let Q : ℕ → Type 0 = λ x. x * (5 * e + d) ≤ 10 * (b + n) + x * (35 + k) in
    subst Q (sym same) (blocks_owe_of P e n b d k tight few most)

module _ (key : Record → Record) (IsOp IsKept : Record → Type 0) {s : RigState} {v : Trunk}
    {node i : ℕ} {path : List ℕ} (shape : IsShape s.pool.shape) (run : IsRunning key IsOp IsKept s v)
    (spot : IsTrue s.device.told → IsSpot 0 node i s v path) (told : IsTrue s.device.told) where
  leaf_is : IsLeafAt s (child_at i (entries_at s (node_on path v.level s v.root)))
  leaf_is =
      let a = spot told in
      let k = node_on path v.level s v.root in
      let I : ℕ → Type 0 = λ l. IsTreeAt l s k in
      let n = subst I a.on.level (stored_on path v.level s v.root a.on.on_path (run.stands told).stored) in
      child_stored (IsTreeAt 0 s) s (entries_at s k) i a.on.one n.1

  -- its blocks hold its records
  pub leaf_ceil : IsCeil (leaf_size s (node_on path v.level s v.root) i) (payload_of s.pool.shape)
      (length (leaf_items s (entry_on v.level s v.root path i)))
  leaf_ceil =
      let P = payload_of s.pool.shape in
      let c = stored_chain s (child_at i (entries_at s (node_on path v.level s v.root))) in
      let some : 0 < P = omega (arith, shape.block_low) in
      let I : ℕ → Type 0 = IsCeil c.blocks P in
      subst I (sym (length_items s c leaf_is.stored told)) (ceiling_is c.count P some)

  -- what a load of it owes is within its entry's part, if an operation waits
  pub leaf_owes : (L d debt : ℕ) → 1 ≤ length (spot_ops i s v path) → d ≤ 30 + 2 * L
      → debt ≤ s.pool.shape.block * (5 * leaf_size s (node_on path v.level s v.root) i + d)
      → debt ≤ load_part s.pool.shape.block L (spot_ops i s v path)
      (leaf (leaf_items s (entry_on v.level s v.root path i)))
  leaf_owes L d debt any most owed =
      let P = payload_of s.pool.shape in
      let B = s.pool.shape.block in
      let e = leaf_size s (node_on path v.level s v.root) i in
      let xs = leaf_items s (entry_on v.level s v.root path i) in
      let ops = spot_ops i s v path in
      let some : 0 < P = omega (arith, shape.block_low) in
      let c = leaf_ceil in
      let a = blocks_owe B P e (length xs) (length ops) d (2 * L) (omega (arith, shape.block_low)) c.tight
      (ceil_few e P (length xs) some c) most in
      let z = part_some B L ops xs any in
      omega (arith, a, z, owed)
