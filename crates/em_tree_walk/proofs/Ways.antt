-- The way of a key down is a path in the tree, and the key is in the range of the node at its end.
use Rattle.std.proofs.Common.{◌≡◌, Bool, true, false, cond, ℕ, zero, suc, ◌+◌, ◌-◌, ◌<◌, ◌≤◌, List, [], ◌∷◌, length, refl, sym, ap, ◌∙◌, subst, arith, Option}
use Rattle.em_record.specs.Order.{is_below}
use Rattle.em_record.specs.declared.record.Record.{Record}
use Rattle.em_space.specs.Rig.{RigState}
use Rattle.em_node.specs.declared.entry.Entry.{Entry}
use Rattle.em_node.specs.Node.{place_of}
use Rattle.em_empty.proofs.Dealt.{place_within}
use Rattle.em_tree_model.specs.Places.{Place}
use Rattle.em_tree_model.specs.Ranges.{InRange, next_low}
use Rattle.em_tree_model.specs.Tree.{Tree}
use Rattle.em_tree_blocks.specs.Paths.{IsPath, level_on, node_on, place_on, row_place}
use Rattle.em_tree_blocks.specs.Reading.{entries_at, row_of, tree_at}
use Rattle.em_tree_walk.specs.Descents.{down_to, end_at, end_before, levels_down, places_down}
use Rattle.em_tree_walk.specs.Stands.{StandsAt}
use Rattle.em_tree_walk.specs.Ways.{low_on_way, range_end, range_start, entry_start}
use Rattle.em_tree_walk.specs.declared.descending.Descent.{Descent}
use Rattle.em_tree_walk.proofs.Standing.{child_of_node}

next_is : (child : ℕ → Tree) (s : RigState) (es : List Entry) (hi : Option Record)
    → next_low hi (row_of child s es) ≡ end_before hi es
next_is child s [] hi = refl
next_is child s (e ∷ es) hi = refl

-- The range of a child ends as that of its entry does,
row_end : (child : ℕ → Tree) (s : RigState) (es : List Entry) (i : ℕ) (p : Place)
    (hi : Option Record) → i < length es
    → range_end hi (row_place child s es i p) ≡ range_end (end_at es i hi) p
row_end child s [] i p hi h = absurd (omega arith)
row_end child s (e ∷ es) zero p hi h =
    ap (λ (x : Option Record). range_end x p) (next_is child s es hi)
row_end child s (e ∷ es) (suc i) p hi h = row_end child s es i p hi (omega arith)

-- and begins so.
row_start : (child : ℕ → Tree) (s : RigState) (es : List Entry) (i : ℕ) (p : Place) (lo : Record)
    → i < length es → range_start lo (row_place child s es i p) ≡ range_start (entry_start lo es i) p
row_start child s [] i p lo h = absurd (omega arith)
row_start child s (e ∷ es) zero p lo h = refl
row_start child s (e ∷ []) (suc i) p lo h = absurd (omega arith)
row_start child s (e ∷ f ∷ fs) (suc i) p lo h =
    ap (λ (x : Record). range_start x (row_place child s (f ∷ fs) i p)) (row_low child s f fs i p lo)
    ∙ row_start child s (f ∷ fs) i p f.low (omega arith)
  where
    row_low : (child : ℕ → Tree) (s : RigState) (f : Entry) (fs : List Entry) (i : ℕ) (p : Place)
        (lo : Record) → low_on_way lo (row_place child s (f ∷ fs) i p) ≡ f.low
    row_low child s f fs zero p lo = refl
    row_low child s f fs (suc i) p lo = refl

-- A key of a node's range is in the range of the entry on its path.
in_first : (key : Record) (e f : Entry) (fs : List Entry) (n : ℕ) (lo : Record)
    (hi : Option Record) (b : Bool) → is_below key f.low ≡ b → InRange lo hi key
    → (is_below key f.low ≡ false → InRange (entry_start f.low (f ∷ fs) n) (end_at (f ∷ fs) n hi) key)
    → InRange (entry_start lo (e ∷ f ∷ fs) (cond b 0 (1 + n)))
    (end_at (e ∷ f ∷ fs) (cond b 0 (1 + n)) hi) key
in_first key e f fs n lo hi true t r rest = record { low = r.low; high = t }
in_first key e f fs n lo hi false t r rest =
    let P : ℕ → Type 0 = λ k. InRange (entry_start lo (e ∷ f ∷ fs) k) (end_at (e ∷ f ∷ fs) k hi) key in
    subst P (one_more n) (rest t)
  where
    one_more : (k : ℕ) → suc k ≡ 1 + k
    one_more k = omega arith

pub key_in_row : (key : Record) (es : List Entry) (lo : Record) (hi : Option Record)
    → 0 < length es → InRange lo hi key
    → InRange (entry_start lo es (place_of key es)) (end_at es (place_of key es) hi) key
key_in_row key [] lo hi some r = absurd (omega arith)
key_in_row key (e ∷ []) lo hi some r = r
key_in_row key (e ∷ f ∷ fs) lo hi some r =
    in_first key e f fs (place_of key (f ∷ fs)) lo hi (is_below key f.low) refl r
    (λ t. key_in_row key (f ∷ fs) f.low hi (omega arith) (record { low = t; high = r.high }))

-- What a descent of n levels from a node of a tree reaches.
pub record IsWayDown (key : Record) (n top : ℕ) (s : RigState) (d : Descent) : Type 0 where
  pub path : IsPath (places_down key n s.device.contents d.node) top s d.node
  pub level : level_on (places_down key n s.device.contents d.node) top ≡ top - n
  pub node : (levels_down key n s.device.contents d).node
      ≡ node_on (places_down key n s.device.contents d.node) top s d.node
  pub end : (levels_down key n s.device.contents d).end ≡ range_end d.end
      (place_on (places_down key n s.device.contents d.node) top s d.node)
  pub key_in : (lo : Record) → InRange lo d.end key
      → InRange (range_start lo (place_on (places_down key n s.device.contents d.node) top s d.node))
      (range_end d.end (place_on (places_down key n s.device.contents d.node) top s d.node)) key

pub way_down : (key : Record) (n top : ℕ) (s : RigState) (d : Descent) → n ≤ top
    → StandsAt s top d.node → IsWayDown key n top s d
way_down key zero top s d less o = record {
  path = tt;
  level = omega arith;
  node = refl;
  end = refl;
  key_in = λ lo r. r;
}
way_down key (suc n) zero s d less o = absurd (omega arith)
way_down key (suc n) (suc m) s d less o =
    let es = entries_at s d.node in
    let i = place_of key es in
    let one = place_within key es o.rows.0 in
    let e : Descent = down_to key es d in
    let h = way_down key n m s e (omega arith) (child_of_node i o one) in
    let level = h.level in
    let p = place_on (places_down key n s.device.contents e.node) m s e.node in
    let ends = row_end (tree_at m s) s es i p d.end one in
    record {
      path = (one, h.path);
      level = omega arith;
      node = h.node;
      end = h.end ∙ sym ends;
      key_in = λ lo r.
          let starts = row_start (tree_at m s) s es i p lo one in
          let P : Record → Type 0 = λ x. InRange x (range_end e.end p) key in
          let Q : Option Record → Type 0 = λ y.
          InRange (range_start lo (row_place (tree_at m s) s es i p)) y key in
          subst Q (sym ends) (subst P (sym starts)
          (h.key_in (entry_start lo es i) (key_in_row key es lo d.end o.rows.0 r)));
    }
