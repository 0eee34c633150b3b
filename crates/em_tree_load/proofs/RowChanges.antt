-- A node over leaves of which one entry was replaced by others, while the others' blocks were left alone.
use Rattle.std.proofs.Common.{◌≡◌, ℕ, zero, suc, ◌<◌, List, [], ◌∷◌, ◌++◌, drop, length, set, take, refl, sym, ap, ◌∙◌, subst, arith, IsTrue}
use Rattle.std.proofs.lemmas.List.{length-append}
use Rattle.em_space.specs.Held.{Apart}
use Rattle.em_space.specs.Rig.{RigState, Touches}
use Rattle.em_node.specs.declared.entry.Entry.{Entry}
use Rattle.em_tree_model.specs.Places.{put_at}
use Rattle.em_tree_model.specs.Tree.{join_rows}
use Rattle.em_tree_blocks.specs.Effects.{entry_place, row_from}
use Rattle.em_tree_blocks.specs.Reading.{IsNodeAt, entries_at, row_blocks, row_of, tree_at, tree_blocks}
use Rattle.em_tree_blocks.proofs.Entries.{node_changed}
use Rattle.em_tree_blocks.proofs.Frames.{rows_stay}
use Rattle.em_tree_walk.specs.Inserted.{with_entry_after}
use Rattle.em_tree_walk.proofs.Children.{row_blocks_append}
use Rattle.em_tree_walk.proofs.Kept.{EachOf, EntryStands, NodeStands, each_append, each_drop, each_left, each_take, node_stands, stored_by}

-- one entry in the place of another
pub set_around : (i : ℕ) (es : List Entry) (f : Entry) → i < length es
    → set es i f ≡ take i es ++ (f ∷ drop (suc i) es)
set_around i [] f h = absurd (omega (arith, h))
set_around zero (e ∷ es) f h = refl
set_around (suc i) (e ∷ es) f h =
    ap (λ (fs : List Entry). e ∷ fs) (set_around i es f (omega (arith, h)))

-- two in its place
pub after_around : (i : ℕ) (es : List Entry) (f g : Entry) → i < length es
    → with_entry_after i g (set es i f) ≡ take i es ++ (f ∷ g ∷ drop (suc i) es)
after_around i [] f g h = absurd (omega (arith, h))
after_around zero (e ∷ es) f g h = refl
after_around (suc i) (e ∷ es) f g h =
    ap (λ (fs : List Entry). e ∷ fs) (after_around i es f g (omega (arith, h)))

module _ (held : List ℕ) (s t : RigState) (h : Touches held s t) (told : IsTrue s.device.told)
    (node i : ℕ) (fs : List Entry) (n : NodeStands zero s node)
    (left : Apart (row_blocks (tree_blocks zero s) s (take i (entries_at s node))) held)
    (right : Apart (row_blocks (tree_blocks zero s) s (drop (suc i) (entries_at s node))) held)
    (entries : entries_at t node ≡ take i (entries_at s node)
    ++ (fs ++ drop (suc i) (entries_at s node))) where
  -- the tree of the node
  pub row_changed : tree_at 1 t node ≡ put_at (entry_place zero s node i)
      (join_rows (row_of (tree_at zero t) t fs) (row_from zero s node (suc i)))
  row_changed =
      node_changed held s t zero node i fs h told (node_stands zero s node n).is left right entries

  -- the blocks that it holds
  pub blocks_changed : tree_blocks 1 t node
      ≡ node ∷ (row_blocks (tree_blocks zero s) s (take i (entries_at s node))
      ++ (row_blocks (tree_blocks zero t) t fs
      ++ row_blocks (tree_blocks zero s) s (drop (suc i) (entries_at s node))))
  blocks_changed =
      let es = entries_at s node in
      let front = take i es in
      let back = drop (suc i) es in
      let B : List Entry → List ℕ = row_blocks (tree_blocks zero t) t in
      let x = rows_stay held s t h told zero front left
      (stored_by zero s front (each_take (EntryStands zero s) i es n.each)) in
      let y = rows_stay held s t h told zero back right
      (stored_by zero s back (each_drop (EntryStands zero s) (suc i) es n.each)) in
      ap (λ (ks : List ℕ). node ∷ ks)
      (ap B entries
      ∙ (row_blocks_append (tree_blocks zero t) t front (fs ++ back)
      ∙ (ap (λ (ks : List ℕ). ks ++ B (fs ++ back)) x.blocks
      ∙ ap (λ (ks : List ℕ). row_blocks (tree_blocks zero s) s front ++ ks)
      (row_blocks_append (tree_blocks zero t) t fs back
      ∙ ap (λ (ks : List ℕ). B fs ++ ks) y.blocks))))

  -- The node stands, if the new entries do.
  pub node_after : IsNodeAt t 1 node → 0 < length fs → EachOf (EntryStands zero t) fs
      → NodeStands zero t node
  node_after is some new =
      let es = entries_at s node in
      let front = take i es in
      let back = drop (suc i) es in
      let P : List Entry → Type 0 = EachOf (EntryStands zero t) in
      let N : List Entry → Type 0 = λ gs. 0 < length gs in
      let a = length-append front (fs ++ back) in
      let b = length-append fs back in
      record {
        node = is;
        some = subst N (sym entries) (omega (arith, a, b, some));
        each = subst P (sym entries) (each_append (EntryStands zero t) front (fs ++ back)
            (each_left held s t h told zero front left (each_take (EntryStands zero s) i es n.each))
            (each_append (EntryStands zero t) fs back new
            (each_left held s t h told zero back right
            (each_drop (EntryStands zero s) (suc i) es n.each))));
      }
