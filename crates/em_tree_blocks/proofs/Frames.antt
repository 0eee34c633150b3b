-- A tree over a call that leaves its blocks alone.
use Rattle.std.proofs.Common.{◌≡◌, ℕ, zero, suc, List, [], ◌∷◌, ◌++◌, refl, sym, ap, ◌∙◌, subst, IsTrue}
use Rattle.em_record.specs.declared.record.Record.{Record}
use Rattle.em_frames.specs.Device.{block_at}
use Rattle.em_space.specs.Free.{Off}
use Rattle.em_space.specs.Rig.{RigState, InUse, Touches}
use Rattle.em_space.specs.Held.{Apart}
use Rattle.em_space.proofs.Held.{in_use_kept}
use Rattle.em_chain.specs.Chain.{payload_in, chain_items, chain_blocks, IsChain}
use Rattle.em_chain.specs.declared.chain.Chain.{Chain}
use Rattle.em_space.proofs.Lists.{apart_left, apart_right}
use Rattle.em_chain.proofs.Keeps.{payload_kept}
use Rattle.em_chain.proofs.Laws.{chain_stays}
use Rattle.em_tree_model.specs.Tree.Tree.{leaf, entry}
use Rattle.em_tree_blocks.specs.Node.{buffer_of, leaf_chain, linked_block}
use Rattle.em_node.specs.declared.entry.Entry.{Entry}
use Rattle.em_node.specs.Node.{entries_of}
use Rattle.em_space.specs.Free.{header}
use Rattle.em_record.specs.Shape.{fan_of, ShapeNumbers}
use Rattle.em_chain.specs.Chain.{IsPacked}
use Rattle.em_node.specs.Node.{level_of, IsNodeBlock}
use Rattle.std.specs.Prelude.{◌*◌}
use Rattle.em_tree_blocks.specs.Reading.{IsNodeAt, entries_at, stored_chain, row_of, tree_at, row_blocks, tree_blocks, AreStored, IsTreeAt}

-- the tree that is read is the same, in the same blocks, and is laid out
pub record TreeStays (l : ℕ) (s t : RigState) (k : ℕ) : Type 0 where
  pub tree : tree_at l t k ≡ tree_at l s k
  pub blocks : tree_blocks l t k ≡ tree_blocks l s k
  pub is : IsTreeAt l t k

pub record RowStays (l : ℕ) (s t : RigState) (es : List Entry) : Type 0 where
  pub row : row_of (tree_at l t) t es ≡ row_of (tree_at l s) s es
  pub blocks : row_blocks (tree_blocks l t) t es ≡ row_blocks (tree_blocks l s) s es
  pub are : AreStored (IsTreeAt l t) t es

module _ (held : List ℕ) (s t : RigState) (h : Touches held s t) (told : IsTrue s.device.told) where
  pub block_same : (k : ℕ) → InUse s k → Off k held → block_at t.device k ≡ block_at s.device k
  block_same k u o = (h.others told k u o).contents

  pub node_stays : (l k : ℕ) → Off k held → IsNodeAt s l k → IsNodeAt t l k
  node_stays l k o i =
      let same = block_same k i.in_use o in
      let P : List Record → Type 0 = λ b. IsNodeBlock (2 * fan_of s.pool.shape) s.blocks b in
      let Q : ℕ → Type 0 = λ n. IsNodeBlock (2 * fan_of s.pool.shape) n (block_at t.device k) in
      let R : ShapeNumbers → Type 0 = λ p. IsNodeBlock (2 * fan_of p) t.blocks (block_at t.device k) in
      record {
        in_use = in_use_kept held s t k h (λ z. o) i.in_use;
        block = subst R (sym h.shape) (subst Q (sym h.blocks) (subst P (sym same) i.block));
        level = ap level_of same ∙ i.level;
      }

  row_stays : (l : ℕ) (es : List Entry)
      → ((k : ℕ) → Apart (tree_blocks l s k) held → IsTreeAt l s k → TreeStays l s t k)
      → Apart (row_blocks (tree_blocks l s) s es) held → AreStored (IsTreeAt l s) s es
      → RowStays l s t es
  row_stays l [] child a i = record { row = refl; blocks = refl; are = tt }
  row_stays l (e ∷ es) child a i =
      let k = linked_block e.child in
      let of_child = apart_right (chain_blocks s (buffer_of e))
      (tree_blocks l s k ++ row_blocks (tree_blocks l s) s es) held a in
      let buffer = chain_stays held s t (buffer_of e) h
      (λ z. apart_left (chain_blocks s (buffer_of e)) (tree_blocks l s k ++ row_blocks (tree_blocks l s) s es) held a) i.0 in
      let c = child k (apart_left (tree_blocks l s k) (row_blocks (tree_blocks l s) s es) held of_child) i.1 in
      let rest = row_stays l es child
      (apart_right (tree_blocks l s k) (row_blocks (tree_blocks l s) s es) held of_child) i.2 in
      record {
        row = ap (λ xs. entry e.low xs (tree_at l t k) (row_of (tree_at l t) t es)) (buffer.items told)
            ∙ (ap (λ c. entry e.low (chain_items s (buffer_of e)) c (row_of (tree_at l t) t es)) c.tree
            ∙ ap (λ r. entry e.low (chain_items s (buffer_of e)) (tree_at l s k) r) rest.row);
        blocks = ap (λ ks. ks ++ (tree_blocks l t k ++ row_blocks (tree_blocks l t) t es)) (buffer.blocks told)
            ∙ (ap (λ ks. chain_blocks s (buffer_of e) ++ (ks ++ row_blocks (tree_blocks l t) t es)) c.blocks
            ∙ ap (λ ks. chain_blocks s (buffer_of e) ++ (tree_blocks l s k ++ ks)) rest.blocks);
        are = (buffer.is, c.is, rest.are);
      }

  -- Over a call that touches other blocks only, the tree that is read is the same.
  pub tree_stays : (l k : ℕ) → Apart (tree_blocks l s k) held → IsTreeAt l s k → TreeStays l s t k
  tree_stays zero k a i =
      let same : stored_chain t k ≡ stored_chain s k =
      ap (λ p. leaf_chain p (block_at t.device k)) (payload_kept held s t h)
      ∙ ap (leaf_chain (payload_in s)) (block_same k i.in_use a.0) in
      let c = chain_stays held s t (stored_chain s k) h (λ z. a.1) i.stored in
      let P : Chain → Type 0 = IsChain t in
      record {
        tree = ap leaf (ap (chain_items t) same ∙ c.items told);
        blocks = ap (λ ks. k ∷ ks) (ap (chain_blocks t) same ∙ c.blocks told);
        is = record {
          in_use = in_use_kept held s t k h (λ z. a.0) i.in_use;
          head = ap header (block_same k i.in_use a.0) ∙ i.head;
          stored = subst P (sym same) c.is;
          packed = λ z. let Q : Chain → Type 0 = IsPacked t in subst Q (sym same) (c.packed told (i.packed told));
        };
      }
  tree_stays (suc l) k a i =
      let same : entries_at t k ≡ entries_at s k = ap entries_of (block_same k i.0.in_use a.0) in
      let r = row_stays l (entries_at s k) (tree_stays l) a.1 i.1 in
      let P : List Entry → Type 0 = AreStored (IsTreeAt l t) t in
      record {
        tree = ap (row_of (tree_at l t) t) same ∙ r.row;
        blocks = ap (λ ks. k ∷ ks) (ap (row_blocks (tree_blocks l t) t) same ∙ r.blocks);
        is = (node_stays (suc l) k a.0 i.0, subst P (sym same) r.are);
      }

  -- and so is a row, if its buffers and children are left alone
  pub rows_stay : (l : ℕ) (es : List Entry) → Apart (row_blocks (tree_blocks l s) s es) held
      → AreStored (IsTreeAt l s) s es → RowStays l s t es
  rows_stay l es a i = row_stays l es (tree_stays l) a i
