-- Trees in which nothing waits, over calls that leave their blocks alone.
use Rattle.std.proofs.Common.{◌≡◌, ℕ, zero, suc, ◌<◌, ◌≤◌, List, [], ◌∷◌, ◌++◌, refl, sym, ap, ◌∙◌, subst, Bool, true, false, IsTrue}
use Rattle.std.proofs.lemmas.Bool.{false≢true}
use Rattle.em_record.specs.Shape.{ShapeNumbers}
use Rattle.em_frames.specs.Device.{block_at}
use Rattle.em_space.specs.Held.{Apart, Holds}
use Rattle.em_space.specs.Rig.{RigState, Touches}
use Rattle.em_space.proofs.Held.{holds_kept}
use Rattle.em_space.proofs.Lists.{apart_left, apart_right}
use Rattle.em_chain.specs.Chain.{chain_blocks, payload_in}
use Rattle.em_chain.specs.declared.chain.Chain.{Chain}
use Rattle.em_chain.proofs.Keeps.{payload_kept}
use Rattle.em_chain.proofs.Laws.{chain_stays}
use Rattle.em_leaf.specs.Leaf.{leaf_most}
use Rattle.em_node.specs.declared.entry.Entry.{Entry}
use Rattle.em_node.specs.Node.{entries_of}
use Rattle.em_tree_blocks.specs.Node.{buffer_of, leaf_chain, linked_block}
use Rattle.em_tree_blocks.specs.Reading.{AreStored, IsTreeAt, entries_at, row_blocks, stored_chain, tree_at, tree_blocks}
use Rattle.em_tree_blocks.proofs.Frames.{block_same, tree_stays}
use Rattle.em_tree_walk.specs.Stands.{LeadsToTree}
use Rattle.em_tree_walk.specs.declared.splitting.Root.{Root}
use Rattle.em_tree_walk.proofs.Kept.{forms_left, stands_left}
use Rattle.em_tree_walk.proofs.Standing.{first_in_use}
use Rattle.em_tree_load.specs.Releases.{HoldNone, IsUnbuffered}
use Rattle.em_tree_unload.specs.Unloading.{IsUnloadable, leaf_rows, left_blocks, left_rows}

module _ (held : List ℕ) (s t : RigState) (h : Touches held s t) (told : IsTrue s.device.told) where
  none_stay : (l : ℕ) → ((k : ℕ) → Apart (tree_blocks l s k) held → IsTreeAt l s k
      → IsUnbuffered l s k → IsUnbuffered l t k) → (es : List Entry)
      → Apart (row_blocks (tree_blocks l s) s es) held → AreStored (IsTreeAt l s) s es
      → HoldNone s (IsUnbuffered l s) es → HoldNone t (IsUnbuffered l t) es
  none_stay l child [] a i n = tt
  none_stay l child (e ∷ es) a i n =
      let c = linked_block e.child in
      let own = chain_blocks s (buffer_of e) in
      let rest = row_blocks (tree_blocks l s) s es in
      let inner = apart_right own (tree_blocks l s c ++ rest) held a in
      let x = chain_stays held s t (buffer_of e) h
      (λ z. apart_left own (tree_blocks l s c ++ rest) held a) i.0 in (
        x.blocks told ∙ n.0,
        child c (apart_left (tree_blocks l s c) rest held inner) i.1 n.1,
        none_stay l child es (apart_right (tree_blocks l s c) rest held inner) i.2 n.2,
      )

  -- No buffer holds a block after them either.
  pub unbuffered_stays : (l k : ℕ) → Apart (tree_blocks l s k) held → IsTreeAt l s k
      → IsUnbuffered l s k → IsUnbuffered l t k
  unbuffered_stays zero k a i u =
      let same : stored_chain t k ≡ stored_chain s k =
      ap (λ p. leaf_chain p (block_at t.device k)) (payload_kept held s t h)
      ∙ ap (leaf_chain (payload_in s)) (block_same held s t h told k i.in_use a.0) in
      let P : Chain → Type 0 = λ c. c.count ≤ leaf_most t.pool.shape in
      let Q : ShapeNumbers → Type 0 = λ p. (stored_chain s k).count ≤ leaf_most p in
      subst P (sym same) (subst Q (sym h.shape) u)
  unbuffered_stays (suc l) k a i u =
      let P : List Entry → Type 0 = HoldNone t (IsUnbuffered l t) in
      subst P (sym (ap entries_of (block_same held s t h told k i.0.in_use a.0)))
      (none_stay l (unbuffered_stays l) (entries_at s k) a.1 i.1 u)

-- A tree that can be unloaded still can be.
module _ {held : List ℕ} {s t : RigState} (root : Root) (h : Touches held s t)
    (apart : IsTrue s.device.told → Apart (tree_blocks root.level s root.block) held) where
  pub leads_stays : LeadsToTree s root.level root.block → LeadsToTree t root.level root.block
  leads_stays i = record {
    in_use = record {
      told = λ y.
          let z : IsTrue s.device.told = sym h.told ∙ y in
          (first_in_use root.level (stands_left held s t h z root.level root.block (apart z) (i.told z))).told y;
      untold = λ f. subst (λ (n : ℕ). root.block < n) (sym h.blocks) (i.in_use.untold (sym h.told ∙ f));
    };
    told = λ y.
        let z : IsTrue s.device.told = sym h.told ∙ y in
        stands_left held s t h z root.level root.block (apart z) (i.told z);
  }

  module _ (told : IsTrue s.device.told) (i : IsTreeAt root.level s root.block) where
    pub same_blocks : tree_blocks root.level t root.block ≡ tree_blocks root.level s root.block
    same_blocks = (tree_stays held s t h told root.level root.block (apart told) i).blocks

    pub same_rows : leaf_rows (tree_at root.level t root.block) ≡ leaf_rows (tree_at root.level s root.block)
    same_rows = ap leaf_rows (tree_stays held s t h told root.level root.block (apart told) i).tree

    pub unloadable_stays : IsUnloadable s root → IsUnloadable t root
    unloadable_stays u =
        let P : List ℕ → Type 0 = λ ks. Holds t ks in
        record {
          formed = forms_left held s t h told root.level root.block (apart told) i u.formed;
          none = unbuffered_stays held s t h told root.level root.block (apart told) i u.none;
          holds = subst P (sym same_blocks)
              (holds_kept held s t (tree_blocks root.level s root.block) h (λ z. apart told) u.holds);
        }

-- What is left of a tree, if anything is.
pub record LeftStays (more : Bool) (s t : RigState) (root : Root) : Type 0 where
  pub leads : IsTrue more → LeadsToTree t root.level root.block
  pub blocks : IsTrue s.device.told → left_blocks more t root ≡ left_blocks more s root
  pub rows : IsTrue s.device.told → left_rows more t root ≡ left_rows more s root
  pub left : IsTrue s.device.told → IsTrue more → IsUnloadable t root

pub left_stays : {held : List ℕ} {s t : RigState} (more : Bool) (root : Root) → Touches held s t
    → (IsTrue s.device.told → Apart (left_blocks more s root) held)
    → (IsTrue more → LeadsToTree s root.level root.block)
    → (IsTrue s.device.told → IsTrue more → IsUnloadable s root) → LeftStays more s t root
left_stays false root h a i u = record {
  leads = λ e. absurd (false≢true e);
  blocks = λ z. refl;
  rows = λ z. refl;
  left = λ z e. absurd (false≢true e);
}
left_stays true root h a i u = record {
  leads = λ e. leads_stays root h a (i e);
  blocks = λ z. same_blocks root h a z ((i refl).told z).is;
  rows = λ z. same_rows root h a z ((i refl).told z).is;
  left = λ z e. unloadable_stays root h a z ((i refl).told z).is (u z e);
}
