-- Records are taken out of the leftmost leaf of a tree, read from the device.
use Rattle.std.proofs.Common.{◌≡◌, ℕ, zero, suc, ◌<◌, List, [], ◌∷◌, ◌++◌, length, refl, sym, ap, ◌∙◌, subst, IsTrue, arith}
use Rattle.std.specs.Prelude.{Option}
use Rattle.em_record.specs.declared.record.Record.{Record}
use Rattle.em_space.specs.Rig.{RigState, Touches}
use Rattle.em_space.specs.Held.{Apart}
use Rattle.em_chain.specs.Chain.{chain_items}
use Rattle.em_node.specs.declared.entry.Entry.{Entry}
use Rattle.em_settle.specs.declared.step.Step.{Step}
use Rattle.em_settle.specs.States.{Stored}
use Rattle.em_tree_model.specs.Tree.{Tree, first_leaf, over_first, with_first_leaf}
use Rattle.em_tree_model.specs.Tree.Tree.{leaf, end, entry}
use Rattle.em_tree_model.specs.Places.{Place, put_at}
use Rattle.em_tree_model.specs.Meaning.{Represents, TakesOut, without}
use Rattle.em_tree_model.proofs.Least.{holds_take, takes_out}
use Rattle.em_tree_blocks.specs.Node.{buffer_of, linked_block}
use Rattle.em_tree_blocks.specs.Reading.{entries_at, stored_chain, row_of, tree_at, IsTreeAt}
use Rattle.em_tree_blocks.specs.Paths.{IsPath, node_on, level_on, row_place, place_on, blocks_with, child_at, first_path}
use Rattle.em_tree_blocks.specs.Effects.{first_items}
use Rattle.em_tree_blocks.proofs.Paths.{tree_on, changed_on}

first_level : (l : ℕ) → level_on (first_path l) l ≡ zero
first_level zero = refl
first_level (suc l) = first_level l

row_first : (l : ℕ) (s : RigState) (es : List Entry) (p : Place) (xs zs : List Record) → 0 < length es
    → with_first_leaf (put_at p (leaf xs)) zs ≡ put_at p (leaf zs)
    → with_first_leaf (put_at (row_place (tree_at l s) s es 0 p) (leaf xs)) zs
    ≡ put_at (row_place (tree_at l s) s es 0 p) (leaf zs)
row_first l s [] p xs zs h e = absurd (omega arith)
row_first l s (f ∷ es) p xs zs h e =
    ap (λ c. entry f.low (chain_items s (buffer_of f)) c (row_of (tree_at l s) s es)) e

-- the leaf at the end of the first path is the leftmost
first_put : (l : ℕ) (s : RigState) (k : ℕ) (xs zs : List Record) → IsPath (first_path l) l s k
    → with_first_leaf (put_at (place_on (first_path l) l s k) (leaf xs)) zs
    ≡ put_at (place_on (first_path l) l s k) (leaf zs)
first_put zero s k xs zs n = refl
first_put (suc l) s k xs zs n = row_first l s (entries_at s k)
    (place_on (first_path l) l s (child_at 0 (entries_at s k))) xs zs n.0
    (first_put l s (child_at 0 (entries_at s k)) xs zs n.1)

-- What waits over the leftmost leaf of a node, and what that leaf has, by the node's first entry.
pub over_first_at : (l : ℕ) (s : RigState) (k : ℕ) (e : Entry) (es : List Entry) → entries_at s k ≡ e ∷ es
    → over_first (tree_at (suc l) s k)
    ≡ over_first (tree_at l s (linked_block e.child)) ++ chain_items s (buffer_of e)
over_first_at l s k e es h = ap (λ xs. over_first (row_of (tree_at l s) s xs)) h

pub first_leaf_at : (l : ℕ) (s : RigState) (k : ℕ) (e : Entry) (es : List Entry) → entries_at s k ≡ e ∷ es
    → first_leaf (tree_at (suc l) s k) ≡ first_leaf (tree_at l s (linked_block e.child))
first_leaf_at l s k e es h = ap (λ xs. first_leaf (row_of (tree_at l s) s xs)) h

-- What is read after a call that changed the leftmost leaf alone.
pub taken_reads : (held : List ℕ) (s t : RigState) (l k : ℕ) → Touches held s t → IsTrue s.device.told
    → IsTreeAt l s k → IsPath (first_path l) l s k → Apart (blocks_with (first_path l) l s k []) held
    → tree_at l t k ≡ with_first_leaf (tree_at l s k) (first_items l s t k)
taken_reads held s t l k h told is n a =
    let path = first_path l in
    let j = node_on path l s k in
    let p = place_on path l s k in
    let xs = chain_items s (stored_chain s j) in
    let zs = chain_items t (stored_chain t j) in
    let old : tree_at l s k ≡ put_at p (leaf xs) = tree_on path l s k n
    ∙ ap (λ m. put_at p (tree_at m s j)) (first_level l) in
    changed_on held s t h told path l k n is a
    ∙ (ap (λ m. put_at p (tree_at m t j)) (first_level l)
    ∙ (sym (first_put l s k xs zs n) ∙ ap (λ x. with_first_leaf x zs) (sym old)))

module _ (key : Record → Record) (step : Option Record → Record → Step) (IsOp IsKept : Record → Type 0)
    (contents : Stored) (answers given : List Record) where
  -- Then the tree holds what it held, without the records that were taken out,
  pub holds_taken : (held : List ℕ) (s t : RigState) (l k : ℕ) (low : Record) (b ys : List Record)
      → Touches held s t → IsTrue s.device.told → IsTreeAt l s k → IsPath (first_path l) l s k
      → Apart (blocks_with (first_path l) l s k []) held
      → first_leaf (tree_at l s k) ≡ ys ++ first_items l s t k
      → over_first (entry low b (tree_at l s k) end) ≡ []
      → Represents key step IsOp IsKept contents answers given (entry low b (tree_at l s k) end)
      → Represents key step IsOp IsKept (without key ys contents) answers given
      (entry low b (tree_at l t k) end)
  holds_taken held s t l k low b ys h told is n a e o w =
      let P : Tree → Type 0 = λ x. Represents key step IsOp IsKept (without key ys contents) answers given
      (entry low b x end) in
      subst P (sym (taken_reads held s t l k h told is n a))
      (holds_take key step IsOp IsKept contents answers given (entry low b (tree_at l s k) end) ys
      (first_items l s t k) tt e o w)

  -- and these were the least.
  pub took_least : (held : List ℕ) (s t : RigState) (l k : ℕ) (low : Record) (b ys : List Record)
      → Touches held s t → IsTrue s.device.told → IsTreeAt l s k → IsPath (first_path l) l s k
      → Apart (blocks_with (first_path l) l s k []) held
      → first_leaf (tree_at l s k) ≡ ys ++ first_items l s t k
      → over_first (entry low b (tree_at l s k) end) ≡ []
      → Represents key step IsOp IsKept contents answers given (entry low b (tree_at l s k) end)
      → TakesOut key contents ys (entry low b (tree_at l t k) end)
  took_least held s t l k low b ys h told is n a e o w =
      let P : Tree → Type 0 = λ x. TakesOut key contents ys (entry low b x end) in
      subst P (sym (taken_reads held s t l k h told is n a))
      (takes_out key step IsOp IsKept contents answers given (entry low b (tree_at l s k) end) ys
      (first_items l s t k) tt e o w)
