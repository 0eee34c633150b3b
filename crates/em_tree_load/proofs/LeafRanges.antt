-- The keys of a leaf and of its buffer are in the range of its entry, and so is what a load leaves: the
-- key of a new leaf can come after the entry.
use Rattle.std.proofs.Common.{◌≡◌, true, false, ℕ, zero, suc, ◌<◌, List, [], ◌∷◌, ◌++◌, get_or, length, sym, subst, arith, ⊎_elim, Option, Some, IfSome}
use Rattle.std.proofs.lemmas.Bool.{cases_Bool}
use Rattle.em_record.specs.Order.{in_order, is_below, with_record}
use Rattle.em_record.specs.declared.record.Record.{Record}
use Rattle.em_record.proofs.Commutes.{order_cons}
use Rattle.em_record.proofs.Order.{with_first, with_later}
use Rattle.em_space.specs.Rig.{RigState}
use Rattle.em_chain.specs.Chain.{chain_items}
use Rattle.em_node.specs.declared.entry.Entry.{Entry}
use Rattle.em_node.specs.Node.{no_entry}
use Rattle.em_settle.specs.Lists.{list_with_ops}
use Rattle.em_settle.specs.Rising.{KeysAbove, RisesByKey}
use Rattle.em_settle.specs.declared.step.Step.{Step}
use Rattle.em_settle.proofs.Lists.{list_rises_after}
use Rattle.em_tree_model.specs.Ranges.{AllIn, IsTree}
use Rattle.em_tree_model.specs.Tree.{Tree}
use Rattle.em_tree_model.specs.Tree.Tree.{leaf}
use Rattle.em_tree_model.proofs.Loads.{list_in_after}
use Rattle.em_tree_model.proofs.Ranges.{all_first, all_last}
use Rattle.em_tree_blocks.specs.Node.{buffer_of, linked_block}
use Rattle.em_tree_blocks.specs.Reading.{row_of}
use Rattle.em_tree_walk.specs.Descents.{end_at}
use Rattle.em_tree_walk.specs.Inserted.{CanFollow}
use Rattle.em_tree_walk.specs.Lows.{LowsKeep}
use Rattle.em_tree_walk.specs.Ways.{entry_start}
use Rattle.em_tree_walk.proofs.Lows.{follows}

module _ (key : Record → Record) where
  -- The keys of an entry's buffer are in the entry's range,
  pub buffer_in : (child : ℕ → Tree) (s : RigState) (es : List Entry) (i : ℕ) (lo : Record)
      (hi : Option Record) → i < length es → IsTree key (row_of child s es) lo hi
      → AllIn key (entry_start lo es i) (end_at es i hi)
      (chain_items s (buffer_of (get_or es i no_entry)))
  buffer_in child s [] i lo hi h o = absurd (omega (arith, h))
  buffer_in child s (e ∷ []) zero lo hi h o = o.1
  buffer_in child s (e ∷ f ∷ fs) zero lo hi h o = o.1
  buffer_in child s (e ∷ []) (suc i) lo hi h o = absurd (omega (arith, h))
  buffer_in child s (e ∷ f ∷ fs) (suc i) lo hi h o =
      buffer_in child s (f ∷ fs) i f.low hi (omega (arith, h)) o.4

  -- and so are those of its child.
  pub child_in_range : (child : ℕ → Tree) (s : RigState) (es : List Entry) (i : ℕ) (lo : Record)
      (hi : Option Record) → i < length es → IsTree key (row_of child s es) lo hi
      → IsTree key (child (linked_block (get_or es i no_entry).child)) (entry_start lo es i)
      (end_at es i hi)
  child_in_range child s [] i lo hi h o = absurd (omega (arith, h))
  child_in_range child s (e ∷ []) zero lo hi h o = o.2
  child_in_range child s (e ∷ f ∷ fs) zero lo hi h o = o.2
  child_in_range child s (e ∷ []) (suc i) lo hi h o = absurd (omega (arith, h))
  child_in_range child s (e ∷ f ∷ fs) (suc i) lo hi h o =
      child_in_range child s (f ∷ fs) i f.low hi (omega (arith, h)) o.4

  -- the same records in order
  in_with : (lo : Record) (hi : Option Record) (x : Record) (ys : List Record)
      → AllIn key lo hi (x ∷ ys) → AllIn key lo hi (with_record x ys)
  in_with lo hi x [] a = a
  in_with lo hi x (y ∷ ys) a =
      let P : List Record → Type 0 = AllIn key lo hi in
      ⊎_elim
      (λ (t : is_below y x ≡ true). subst P (sym (with_later x y ys t))
      (a.1.0, in_with lo hi x ys (a.0, a.1.1)))
      (λ (f : is_below y x ≡ false). subst P (sym (with_first x y ys f)) a)
      (cases_Bool (is_below y x))

  pub in_ordered : (lo : Record) (hi : Option Record) (xs : List Record) → AllIn key lo hi xs
      → AllIn key lo hi (in_order xs)
  in_ordered lo hi [] a = a
  in_ordered lo hi (x ∷ xs) a =
      let P : List Record → Type 0 = AllIn key lo hi in
      subst P (sym (order_cons x xs))
      (in_with lo hi x (in_order xs) (a.0, in_ordered lo hi xs a.1))

  above_last : (k : Record) (xs ys : List Record) → KeysAbove key k (xs ++ ys) → KeysAbove key k ys
  above_last k [] ys a = a
  above_last k (x ∷ xs) ys a = above_last k xs ys a.1

  -- The key of the first record of the second part of what a load leaves can come after the entry.
  pub split_follows : (step : Option Record → Record → Step)
      (keeps_key : (old : Option Record) (op new : Record) → IfSome old (λ r. key r ≡ key op)
      → (step old op).stored ≡ Some new → key new ≡ key op)
      (child : ℕ → Tree) (s : RigState) (es : List Entry) (i : ℕ) (lo : Record)
      (hi : Option Record) (xs load rest ys zs : List Record) (y z : Record) → i < length es
      → IsTree key (row_of child s es) lo hi → LowsKeep lo (row_of child s es)
      → child (linked_block (get_or es i no_entry).child) ≡ leaf xs
      → chain_items s (buffer_of (get_or es i no_entry)) ≡ load ++ rest
      → list_with_ops key step xs (in_order load) ≡ y ∷ ys ++ z ∷ zs → CanFollow i (key z) es
  split_follows step keeps_key child s es i lo hi xs load rest ys zs y z h o k is_leaf buffer all =
      let start = entry_start lo es i in
      let end = end_at es i hi in
      let T : Tree → Type 0 = λ t. IsTree key t start end in
      let B : List Record → Type 0 = AllIn key start end in
      let R : List Record → Type 0 = RisesByKey key in
      let stored = subst T is_leaf (child_in_range child s es i lo hi h o) in
      let waiting = subst B buffer (buffer_in child s es i lo hi h o) in
      let ops = in_ordered start end load (all_first key start end load rest waiting) in
      let left = subst B all (list_in_after key step keeps_key start end xs (in_order load) stored.0 ops) in
      let rises = subst R all (list_rises_after key step keeps_key xs (in_order load) stored.1) in
      follows child s es i lo hi (key y) (key z) h k left.0
      (above_last (key y) ys (z ∷ zs) rises.0).0
      (all_last key start end (y ∷ ys) (z ∷ zs) left).0.high
