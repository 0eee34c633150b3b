-- How many blocks stand below the root of a tree, by its outline.
use Rattle.std.proofs.Common.{◌≡◌, ℕ, zero, suc, ◌+◌, ◌-◌, ◌*◌, ◌≤◌, List, [], ◌∷◌, ◌++◌, length, sym, subst, arith, length-append, IsTrue}
use Rattle.std.proofs.Math.Nat.{mul-le-mul_right}
use Rattle.em_record.specs.Shape.{IsShape, payload_of}
use Rattle.em_space.specs.Rig.{RigState}
use Rattle.em_chain.specs.Chain.{IsChain, IsPacked, IsTight, chain_blocks, chain_items}
use Rattle.em_chain.specs.Counts.{ceiling}
use Rattle.em_chain.specs.declared.chain.Chain.{Chain}
use Rattle.em_chain.proofs.Readers.{length_items}
use Rattle.em_node.specs.declared.entry.Entry.{Entry}
use Rattle.em_tree_blocks.specs.Node.{buffer_of, linked_block}
use Rattle.em_tree_blocks.specs.Reading.{AreStored, IsTreeAt, entries_at, row_blocks, row_of, stored_chain, tree_at, tree_blocks}
use Rattle.em_tree_cost.specs.Held.{HeldBelow}
use Rattle.em_tree_cost.specs.Held.HeldBelow.{end_blocks, entry_blocks, leaf_blocks}
use Rattle.em_tree_cost.specs.Outline.{node_of}
use Rattle.em_tree_cost.proofs.Ceilings.{ceiling_is}
use Rattle.em_tree_walk.specs.Forms.{AreFormed, HaveForms}
use Rattle.em_tree_load.proofs.AreaReads.{tight_most}
use Rattle.em_tree_outline.specs.Outline.{outline_of}
use Rattle.em_trunk.proofs.HeldBlocks.{leaf_packed, row_node}

-- The blocks below a block of a tree, by the outline of what stands there.
pub record StandsBelow (l : ℕ) (s : RigState) (k : ℕ) : Type 0 where
  pub count : ℕ
  pub all : count + node_of (outline_of (tree_at l s k)) ≡ length (tree_blocks l s k)
  pub held : HeldBelow (payload_of s.pool.shape) count (outline_of (tree_at l s k))

module _ (s : RigState) (is : IsShape s.pool.shape) (told : IsTrue s.device.told) where
  -- a tight buffer has two blocks more than its operations fill, or fewer
  tight_few : (c : Chain) → IsChain s c → IsTight s c
      → length (chain_blocks s c) * payload_of s.pool.shape
      ≤ length (chain_items s c) + 2 * payload_of s.pool.shape
  tight_few c i f =
      let P = payload_of s.pool.shape in
      let low = is.block_low in
      let most = tight_most s c low i told f in
      let items = length_items s c i told in
      let blocks = (i.told told).list.blocks_is in
      let k = ceiling_is c.count P (omega (arith, low)) in
      let m : c.blocks * P ≤ (ceiling c.count P + 1) * P = mul-le-mul_right P most in
      let t = k.tight in
      let Q : ℕ → Type 0 = λ n. n * P ≤ length (chain_items s c) + 2 * P in
      subst Q (sym blocks) (omega (arith, m, t, items))

  packed_few : (c : Chain) → IsChain s c → IsPacked s c
      → length (chain_blocks s c) * payload_of s.pool.shape
      ≤ length (chain_items s c) + 2 * payload_of s.pool.shape
  packed_few c i f = tight_few c i (record { full = f.is.full })

  -- Those of a row,
  row_below : (l : ℕ) (Form : Chain → Type 0) (Child : ℕ → Type 0)
      → ((c : Chain) → IsChain s c → Form c → length (chain_blocks s c) * payload_of s.pool.shape
      ≤ length (chain_items s c) + 2 * payload_of s.pool.shape)
      → ((k : ℕ) → IsTreeAt l s k → Child k → StandsBelow l s k)
      → (es : List Entry) → AreStored (IsTreeAt l s) s es → HaveForms Form Child es
      → HeldBelow (payload_of s.pool.shape) (length (row_blocks (tree_blocks l s) s es))
      (outline_of (row_of (tree_at l s) s es))
  row_below l Form Child few child [] a f = end_blocks
  row_below l Form Child few child (x ∷ es) a f =
      let b = chain_blocks s (buffer_of x) in
      let below = tree_blocks l s (linked_block x.child) in
      let rest = row_blocks (tree_blocks l s) s es in
      let c = child (linked_block x.child) a.1 f.1 in
      let all = c.all in
      let n = length-append b (below ++ rest) in
      let m = length-append below rest in
      entry_blocks (length b) (few (buffer_of x) a.0 f.0) c.held
      (row_below l Form Child few child es a.2 f.2) (omega (arith, n, m, all))

  -- of a node over a row,
  node_below : (l k : ℕ) → HeldBelow (payload_of s.pool.shape)
      (length (row_blocks (tree_blocks l s) s (entries_at s k)))
      (outline_of (row_of (tree_at l s) s (entries_at s k))) → StandsBelow (suc l) s k
  node_below l k held =
      let one : node_of (outline_of (tree_at (suc l) s k)) ≡ 1 =
      row_node (tree_at l s) s (entries_at s k) in
      record {
        count = length (row_blocks (tree_blocks l s) s (entries_at s k));
        all = omega (arith, one);
        held = held;
      }

  -- and of a tree.
  pub tree_below : (l k : ℕ) → IsTreeAt l s k → AreFormed l s k → StandsBelow l s k
  tree_below zero k i f =
      record {
        count = length (tree_blocks zero s k);
        all = omega arith;
        held = leaf_blocks (length (chain_blocks s (stored_chain s k))) (length (tree_blocks zero s k))
            (leaf_packed s k is told i) (omega arith);
      }
  tree_below (suc zero) k i f =
      node_below zero k (row_below zero (IsTight s) (λ _. Unit {0}) tight_few
      (λ j at form. tree_below zero j at form) (entries_at s k) i.1 f)
  tree_below (suc (suc l)) k i f =
      node_below (suc l) k (row_below (suc l) (IsPacked s) (AreFormed (suc l) s) packed_few
      (λ j at form. tree_below (suc l) j at form) (entries_at s k) i.1 f)
