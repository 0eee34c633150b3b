-- A change of the blocks from one block on changes the tree at its place alone.
use Rattle.std.proofs.Common.{◌≡◌, ℕ, zero, suc, ◌<◌, List, [], ◌∷◌, ◌++◌, length, refl, sym, ap, ◌∙◌, subst, IsTrue, arith, append_assoc}
use Rattle.std.proofs.lemmas.List.{append-nil}
use Rattle.em_space.specs.Free.{AreDistinct}
use Rattle.em_space.specs.Rig.{RigState, Touches}
use Rattle.em_space.specs.Held.{Apart}
use Rattle.em_chain.specs.Chain.{chain_items, chain_blocks}
use Rattle.em_space.proofs.Lists.{apart_left, apart_right, apart_sym, apart_append, distinct_right, distinct_apart}
use Rattle.em_chain.proofs.Laws.{chain_stays}
use Rattle.em_tree_model.specs.Tree.{Tree}
use Rattle.em_tree_model.specs.Tree.Tree.{entry}
use Rattle.em_tree_model.specs.Places.{Place, put_at}
use Rattle.em_tree_model.specs.Places.Place.{under, past}
use Rattle.em_tree_blocks.specs.Node.{buffer_of, linked_block}
use Rattle.em_node.specs.declared.entry.Entry.{Entry}
use Rattle.em_node.specs.Node.{entries_of}
use Rattle.em_tree_blocks.specs.Reading.{entries_at, row_of, tree_at, row_blocks, tree_blocks, AreStored, IsTreeAt}
use Rattle.em_tree_blocks.specs.Paths.{child_at, IsPath, node_on, level_on, row_place, place_on, row_with, blocks_with}
use Rattle.em_tree_blocks.proofs.Frames.{block_same, node_stays, tree_stays, rows_stay}

no_less : (i : ℕ) → i < 0 → ⊥
no_less i h = omega arith

less_suc : (i n : ℕ) → suc i < suc n → i < n
less_suc i n h = omega arith

-- a row, as one of its children at that child's place
row_at : (child : ℕ → Tree) (s : RigState) (es : List Entry) (i : ℕ) (p : Place) (x : Tree)
    → i < length es → child (child_at i es) ≡ put_at p x
    → row_of child s es ≡ put_at (row_place child s es i p) x
row_at child s [] i p x h e = absurd (no_less i h)
row_at child s (f ∷ es) zero p x h e =
    ap (λ c. entry f.low (chain_items s (buffer_of f)) c (row_of child s es)) e
row_at child s (f ∷ es) (suc i) p x h e =
    ap (λ r. entry f.low (chain_items s (buffer_of f)) (child (linked_block f.child)) r)
    (row_at child s es i p x (less_suc i (length es) h) e)

-- The tree is what is read from a block on its path, at the place of that block.
pub tree_on : (is : List ℕ) (l : ℕ) (s : RigState) (k : ℕ) → IsPath is l s k
    → tree_at l s k ≡ put_at (place_on is l s k) (tree_at (level_on is l) s (node_on is l s k))
tree_on [] l s k h = refl
tree_on (i ∷ is) zero s k h = absurd h
tree_on (i ∷ is) (suc l) s k h = row_at (tree_at l s) s (entries_at s k) i
    (place_on is l s (child_at i (entries_at s k)))
    (tree_at (level_on is l) s (node_on is l s (child_at i (entries_at s k)))) h.0
    (tree_on is l s (child_at i (entries_at s k)) h.1)

-- a child of a row is laid out
pub child_stored : (Child : ℕ → Type 0) (s : RigState) (es : List Entry) (i : ℕ) → i < length es
    → AreStored Child s es → Child (child_at i es)
child_stored Child s [] i h a = absurd (no_less i h)
child_stored Child s (f ∷ es) zero h a = a.1
child_stored Child s (f ∷ es) (suc i) h a = child_stored Child s es i (less_suc i (length es) h) a.2

-- What a call leaves that changes no block before the path's end.
pub record PathStays (is : List ℕ) (l : ℕ) (s t : RigState) (k : ℕ) : Type 0 where
  pub path : IsPath is l t k
  pub node : node_on is l t k ≡ node_on is l s k
  pub place : place_on is l t k ≡ place_on is l s k
  pub blocks : (inner : List ℕ) → blocks_with is l t k inner ≡ blocks_with is l s k inner
  pub stored : IsTreeAt (level_on is l) t (node_on is l s k) → IsTreeAt l t k

record RowPlaceStays (l : ℕ) (s t : RigState) (es : List Entry) (i : ℕ) (p : Place)
    (within held : List ℕ)
    : Type 0 where
  place : row_place (tree_at l t) t es i p ≡ row_place (tree_at l s) s es i p
  blocks : (more : List ℕ) → row_with (tree_blocks l t) t es i more ≡ row_with (tree_blocks l s) s es i more
  inner : Apart within held
  are : IsTreeAt l t (child_at i es) → AreStored (IsTreeAt l t) t es

module _ (held : List ℕ) (s t : RigState) (h : Touches held s t) (told : IsTrue s.device.told) where
  row_place_stays : (l : ℕ) (es : List Entry) (i : ℕ) (p : Place) (inner : List ℕ) → i < length es
      → Apart (row_with (tree_blocks l s) s es i inner) held → AreStored (IsTreeAt l s) s es
      → RowPlaceStays l s t es i p inner held
  row_place_stays l [] i p inner n a b = absurd (no_less i n)
  row_place_stays l (e ∷ es) zero p inner n a b =
      let after = inner ++ row_blocks (tree_blocks l s) s es in
      let rest = apart_right (chain_blocks s (buffer_of e)) after held a in
      let c = chain_stays held s t (buffer_of e) h (λ z. apart_left (chain_blocks s (buffer_of e)) after held a) b.0 in
      let r = rows_stay held s t h told l es
      (apart_right inner (row_blocks (tree_blocks l s) s es) held rest) b.2 in
      record {
        place = ap (λ xs. under e.low xs (row_of (tree_at l t) t es) p) (c.items told)
            ∙ ap (λ r. under e.low (chain_items s (buffer_of e)) r p) r.row;
        blocks = λ more. ap (λ ks. ks ++ (more ++ row_blocks (tree_blocks l t) t es)) (c.blocks told)
            ∙ ap (λ ks. chain_blocks s (buffer_of e) ++ (more ++ ks)) r.blocks;
        inner = apart_left inner (row_blocks (tree_blocks l s) s es) held rest;
        are = λ i. (c.is, i, r.are);
      }
  row_place_stays l (e ∷ es) (suc i) p inner n a b =
      let k = linked_block e.child in
      let tail = row_with (tree_blocks l s) s es i inner in
      let after = tree_blocks l s k ++ tail in
      let rest = apart_right (chain_blocks s (buffer_of e)) after held a in
      let c = chain_stays held s t (buffer_of e) h (λ z. apart_left (chain_blocks s (buffer_of e)) after held a) b.0 in
      let d = tree_stays held s t h told l k (apart_left (tree_blocks l s k) tail held rest) b.1 in
      let r = row_place_stays l es i p inner (less_suc i (length es) n)
      (apart_right (tree_blocks l s k) tail held rest) b.2 in
      record {
        place = ap (λ xs. past e.low xs (tree_at l t k) (row_place (tree_at l t) t es i p)) (c.items told)
            ∙ (ap (λ x. past e.low (chain_items s (buffer_of e)) x (row_place (tree_at l t) t es i p)) d.tree
            ∙ ap (λ q. past e.low (chain_items s (buffer_of e)) (tree_at l s k) q) r.place);
        blocks = λ more. ap (λ ks. ks ++ (tree_blocks l t k ++ row_with (tree_blocks l t) t es i more)) (c.blocks told)
            ∙ (ap (λ ks. chain_blocks s (buffer_of e) ++ (ks ++ row_with (tree_blocks l t) t es i more)) d.blocks
            ∙ ap (λ ks. chain_blocks s (buffer_of e) ++ (tree_blocks l s k ++ ks)) (r.blocks more));
        inner = r.inner;
        are = λ j. (c.is, d.is, r.are j);
      }

  -- The way to a block stays over a call that changes blocks from that block on, or others.
  pub path_stays : (is : List ℕ) (l k : ℕ) → IsPath is l s k → IsTreeAt l s k
      → Apart (blocks_with is l s k []) held → PathStays is l s t k
  path_stays [] l k n i a = record {
    path = tt;
    node = refl;
    place = refl;
    blocks = λ inner. refl;
    stored = λ j. j;
  }
  path_stays (i ∷ is) zero k n j a = absurd n
  path_stays (i ∷ is) (suc l) k n j a =
      let es = entries_at s k in
      let c = child_at i es in
      let same : entries_at t k ≡ es = ap entries_of (block_same held s t h told k j.0.in_use a.0) in
      let r = row_place_stays l es i (place_on is l s c) (blocks_with is l s c []) n.0 a.1 j.1 in
      let m = path_stays is l c n.1 (child_stored (IsTreeAt l s) s es i n.0 j.1) r.inner in
      let P : List Entry → Type 0 = λ fs. (i < length fs) × IsPath is l t (child_at i fs) in
      let Q : List Entry → Type 0 = λ fs. AreStored (IsTreeAt l t) t fs in
      record {
        path = subst P (sym same) (n.0, m.path);
        node = ap (λ fs. node_on is l t (child_at i fs)) same ∙ m.node;
        place = ap (λ fs. row_place (tree_at l t) t fs i (place_on is l t (child_at i fs))) same
            ∙ (ap (row_place (tree_at l t) t es i) m.place ∙ r.place);
        blocks = λ inner. ap (λ fs. k ∷ row_with (tree_blocks l t) t fs i (blocks_with is l t (child_at i fs) inner)) same
            ∙ (ap (λ ks. k ∷ row_with (tree_blocks l t) t es i ks) (m.blocks inner)
            ∙ ap (λ ks. k ∷ ks) (r.blocks (blocks_with is l s c inner)));
        stored = λ x. (node_stays held s t h told (suc l) k a.0 j.0, subst Q (sym same) (r.are (m.stored x)));
      }

  -- So the tree is the old one, with what is read from that block on at the same place.
  pub changed_on : (is : List ℕ) (l k : ℕ) → IsPath is l s k → IsTreeAt l s k
      → Apart (blocks_with is l s k []) held
      → tree_at l t k ≡ put_at (place_on is l s k) (tree_at (level_on is l) t (node_on is l s k))
  changed_on is l k n i a =
      let m = path_stays is l k n i a in
      tree_on is l t k m.path
      ∙ (ap (λ j. put_at (place_on is l t k) (tree_at (level_on is l) t j)) m.node
      ∙ ap (λ p. put_at p (tree_at (level_on is l) t (node_on is l s k))) m.place)

-- a row's blocks are those of one child, among the others
row_of_child : (child : ℕ → List ℕ) (s : RigState) (es : List Entry) (i : ℕ) → i < length es
    → row_blocks child s es ≡ row_with child s es i (child (child_at i es))
row_of_child child s [] i h = absurd (no_less i h)
row_of_child child s (e ∷ es) zero h = refl
row_of_child child s (e ∷ es) (suc i) h =
    ap (λ ks. chain_blocks s (buffer_of e) ++ (child (linked_block e.child) ++ ks))
    (row_of_child child s es i (less_suc i (length es) h))

-- The tree's blocks are those from a block on its path on, among the others.
pub blocks_on : (is : List ℕ) (l : ℕ) (s : RigState) (k : ℕ) → IsPath is l s k
    → tree_blocks l s k ≡ blocks_with is l s k (tree_blocks (level_on is l) s (node_on is l s k))
blocks_on [] l s k h = refl
blocks_on (i ∷ is) zero s k h = absurd h
blocks_on (i ∷ is) (suc l) s k h =
    ap (λ ks. k ∷ ks) (row_of_child (tree_blocks l s) s (entries_at s k) i h.0
    ∙ ap (row_with (tree_blocks l s) s (entries_at s k) i) (blocks_on is l s (child_at i (entries_at s k)) h.1))

-- the blocks before those from a block on, and after them
pub record Around (with_inner : List ℕ → List ℕ) : Type 0 where
  pub front : List ℕ
  pub back : List ℕ
  pub all : (inner : List ℕ) → with_inner inner ≡ front ++ (inner ++ back)

row_around : (child : ℕ → List ℕ) (s : RigState) (es : List Entry) (i : ℕ)
    → Around (row_with child s es i)
row_around child s [] i = record { front = []; back = []; all = λ inner. sym (append-nil inner) }
row_around child s (e ∷ es) zero = record {
  front = chain_blocks s (buffer_of e);
  back = row_blocks child s es;
  all = λ inner. refl;
}
row_around child s (e ∷ es) (suc i) =
    let m = row_around child s es i in
    let x = chain_blocks s (buffer_of e) in
    let y = child (linked_block e.child) in
    record {
      front = x ++ (y ++ m.front);
      back = m.back;
      all = λ inner. ap (λ ks. x ++ (y ++ ks)) (m.all inner)
          ∙ sym (append_assoc x (y ++ m.front) (inner ++ m.back)
          ∙ ap (λ ks. x ++ ks) (append_assoc y m.front (inner ++ m.back)));
    }

pub around : (is : List ℕ) (l : ℕ) (s : RigState) (k : ℕ) → Around (blocks_with is l s k)
around [] l s k = record { front = []; back = []; all = λ inner. sym (append-nil inner) }
around (i ∷ is) zero s k = record { front = []; back = []; all = λ inner. sym (append-nil inner) }
around (i ∷ is) (suc l) s k =
    let m = around is l s (child_at i (entries_at s k)) in
    let r = row_around (tree_blocks l s) s (entries_at s k) i in
    record {
      front = k ∷ r.front ++ m.front;
      back = m.back ++ r.back;
      all = λ inner. ap (λ ks. k ∷ ks) (ap (row_with (tree_blocks l s) s (entries_at s k) i) (m.all inner)
          ∙ (r.all (m.front ++ (inner ++ m.back))
          ∙ (ap (λ ks. r.front ++ ks) (append_assoc m.front (inner ++ m.back) r.back
          ∙ ap (λ ks. m.front ++ ks) (append_assoc inner m.back r.back))
          ∙ sym (append_assoc r.front m.front (inner ++ (m.back ++ r.back))))));
    }

-- The blocks before a block on its path, and beside it, are apart from those from that block on.
pub others_apart : (is : List ℕ) (l : ℕ) (s : RigState) (k : ℕ) → IsPath is l s k
    → AreDistinct (tree_blocks l s k)
    → Apart (blocks_with is l s k []) (tree_blocks (level_on is l) s (node_on is l s k))
others_apart is l s k h d =
    let inner = tree_blocks (level_on is l) s (node_on is l s k) in
    let m = around is l s k in
    let P : List ℕ → Type 0 = AreDistinct in
    let e = subst P (blocks_on is l s k h ∙ m.all inner) d in
    let front : Apart m.front inner = apart_sym inner m.front
    (apart_left inner m.back m.front (apart_sym m.front (inner ++ m.back) (distinct_apart m.front (inner ++ m.back) e))) in
    let back : Apart m.back inner = apart_sym inner m.back
    (distinct_apart inner m.back (distinct_right m.front (inner ++ m.back) e)) in
    let Q : List ℕ → Type 0 = λ ks. Apart ks inner in
    subst Q (sym (m.all [])) (apart_append m.front m.back inner front back)
