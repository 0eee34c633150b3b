-- The events of a call on a whole tree, under the root's buffer: each keeps what the tree means,
-- and changes its sums.
use Rattle.std.specs.Prelude.{◌≡◌, ℕ, suc, ◌+◌, ◌*◌, ◌≤◌, List, [], ◌∷◌, ◌++◌, length, Option}
use Rattle.std.specs.List.Sorted.{IsPermutation}
use Rattle.std.proofs.Common.{refl, sym, ap, subst, ◌∙◌, arith}
use Rattle.std.proofs.lemmas.List.{length-append}
use Rattle.em_record.specs.declared.record.Record.{Record}
use Rattle.em_record.specs.Order.{IsAscending}
use Rattle.em_settle.specs.Keys.{record_at}
use Rattle.em_settle.specs.Laws.{IsSettle}
use Rattle.em_settle.specs.Lists.{list_with_ops}
use Rattle.em_settle.specs.States.{answers_to}
use Rattle.em_settle.specs.declared.step.Step.{Step}
use Rattle.em_tree_model.specs.Places.{IsRowPlace, Place, put_at}
use Rattle.em_tree_model.specs.Places.Place.{here, under}
use Rattle.em_tree_model.specs.Pouring.{pour}
use Rattle.em_tree_model.specs.Tree.{HasEntry, IsRow, Tree, join_rows}
use Rattle.em_tree_model.specs.Tree.Tree.{end, entry, leaf}
use Rattle.em_tree_cost.specs.Effects.{SumsFall, SumsGrow, SumsLoad, SumsLower, SumsSplit}
use Rattle.em_tree_cost.specs.Outline.{IsLevel, Outline, Pours, sums_of}
use Rattle.em_tree_cost.specs.Outline.Outline.{entry as part, leaf as leaf_part}
use Rattle.em_tree_cost.specs.Spots.{Spot, level_at_spot, put_at_spot}
use Rattle.em_tree_cost.proofs.Changes.{growing_change, loading_change, lowering_change, node_split_change, root_lowering_change}
use Rattle.em_tree_cost.proofs.Outlines.{poured_excess, poured_leaves, poured_stored, poured_waiting, poured_weight, spot_excess, spot_leaves, spot_stored, spot_waiting, spot_weight}
use Rattle.em_tree_outline.specs.Outline.{outline_of, spot_of}
use Rattle.em_tree_outline.proofs.Outlines.{outline_join, outline_put}
use Rattle.em_tree_outline.proofs.Pouring.{outline_pours}
use Rattle.em_trunk.specs.Events.{Continues}
use Rattle.em_trunk.proofs.Continues.{continues_emptied, continues_loaded, continues_loaded_split, continues_split}

-- the outline of a tree that is another one at a place
pub outline_at : (root : Tree) (p : Place) (x : Tree) → root ≡ put_at p x
    → outline_of root ≡ put_at_spot (spot_of p) (outline_of x)
outline_at root p x e = ap outline_of e ∙ outline_put p x

-- a leaf of i + j records was cut, and what its buffer had was poured into the node
cut_change : (half w B level low x d n i j : ℕ) (o q : Spot) (r row : Outline)
    → level_at_spot o level ≡ suc low → level_at_spot q (suc low) ≡ suc low → low ≡ 0
    → half ≡ 2 * w * B → half ≤ i → half ≤ j
    → Pours n (put_at_spot q (part 0 (leaf_part i) (part 0 (leaf_part j) r))) row
    → SumsSplit w B
    (sums_of half level (put_at_spot o (put_at_spot q (part n (leaf_part (i + j)) r))) x d)
    (sums_of half level (put_at_spot o row) x d)
cut_change half w B level low x d n i j o q r row at in_row bottom e m k pours =
    let t = part n (leaf_part (i + j)) r in
    let two = part 0 (leaf_part i) (part 0 (leaf_part j) r) in
    let old = put_at_spot q t in
    let new = put_at_spot q two in
    let a1 = spot_waiting o old row in
    let a2 = spot_waiting q t two in
    let a3 = poured_waiting n new row pours in
    let s1 = spot_stored o old row in
    let s2 = spot_stored q t two in
    let s3 = poured_stored n new row pours in
    let l1 = spot_leaves o old row in
    let l2 = spot_leaves q t two in
    let l3 = poured_leaves n new row pours in
    let f1 = spot_excess half o old row in
    let f2 = spot_excess half q t two in
    let f3 = poured_excess half n new row pours in
    let v1 = spot_weight level o old row in
    let v2 = spot_weight (suc low) q t two in
    let g1 = rw at at v1 in
    let g2 = rw in_row at v2 in
    let g3 = poured_weight low n new row pours in
    let z1 : low * n ≡ 0 = rw bottom (omega arith) in
    let z2 : low * 0 ≡ 0 = omega arith in
    record {
      level = refl;
      leaves = omega (arith, l1, l2, l3);
      waiting = omega (arith, a1, a2, a3);
      weight = omega (arith, g1, g2, g3, z1, z2);
      stored = omega (arith, s1, s2, s3);
      excess = omega (arith, f1, f2, f3, e, m, k);
    }

module _ (key : Record → Record) (step : Option Record → Record → Step)
    (IsOp IsKept : Record → Type 0) (laws : IsSettle key step IsOp IsKept) where
  -- The root's buffer is emptied into the root.
  pub root_emptied : (given : List Record) (low : Record) (b : List Record) (root next : Tree)
      → HasEntry root → next ≡ pour key root b
      → Continues key step IsOp IsKept given (entry low b root end) given (entry low [] next end)
  root_emptied given low b root next n e =
      let P : Tree → Type 0 = λ z. Continues key step IsOp IsKept given (entry low b root end) given
      (entry low [] z end) in
      subst P (sym e) (continues_emptied key step IsOp IsKept laws given here low b root end n)

  module _ (given : List Record) (first : Record) (ops : List Record) (root next : Tree) where
    -- from what the root was to what it is, at a place
    at_place : (told : List Record) (p : Place) (x y : Tree) → root ≡ put_at p x → next ≡ put_at p y
        → Continues key step IsOp IsKept given (put_at (under first ops end p) x) told
        (put_at (under first ops end p) y)
        → Continues key step IsOp IsKept given (entry first ops root end) told
        (entry first ops next end)
    at_place told p x y e g h =
        let P : Tree → Type 0 = λ z. Continues key step IsOp IsKept given (entry first ops z end) told
        (entry first ops (put_at p y) end) in
        let Q : Tree → Type 0 = λ z. Continues key step IsOp IsKept given (entry first ops root end)
        told (entry first ops z end) in
        subst Q (sym g) (subst P (sym e) h)

    -- The buffer of an entry is emptied into its child.
    pub entry_emptied : (p : Place) (low : Record) (b : List Record) (c r : Tree) → HasEntry c
        → root ≡ put_at p (entry low b c r) → next ≡ put_at p (entry low [] (pour key c b) r)
        → Continues key step IsOp IsKept given (entry first ops root end) given
        (entry first ops next end)
    entry_emptied p low b c r n e g =
        at_place given p (entry low b c r) (entry low [] (pour key c b) r) e g
        (continues_emptied key step IsOp IsKept laws given (under first ops end p) low b c r n)

    -- A leaf is loaded.
    pub leaf_loaded : (p : Place) (low : Record) (load rest sorted xs : List Record) (r : Tree)
        → IsPermutation load sorted → IsAscending sorted
        → root ≡ put_at p (entry low (load ++ rest) (leaf xs) r)
        → next ≡ put_at p (entry low rest (leaf (list_with_ops key step xs sorted)) r)
        → Continues key step IsOp IsKept given (entry first ops root end)
        (given ++ answers_to key step (record_at key xs) sorted) (entry first ops next end)
    leaf_loaded p low load rest sorted xs r perm asc e g =
        at_place (given ++ answers_to key step (record_at key xs) sorted) p
        (entry low (load ++ rest) (leaf xs) r)
        (entry low rest (leaf (list_with_ops key step xs sorted)) r) e g
        (continues_loaded key step IsOp IsKept laws given (under first ops end p) low load rest sorted xs r
        perm asc)

    -- A leaf is loaded and split, and the rest of its buffer is poured into the node.
    pub leaf_split : (o q : Place) (low : Record) (load rest sorted xs : List Record) (r : Tree)
        (y z : Record) (ys zs : List Record) → IsRowPlace q → IsPermutation load sorted
        → IsAscending sorted → list_with_ops key step xs sorted ≡ y ∷ ys ++ z ∷ zs
        → root ≡ put_at o (put_at q (entry low (load ++ rest) (leaf xs) r))
        → next ≡ put_at o (pour key (put_at q
        (entry low [] (leaf (y ∷ ys)) (entry (key z) [] (leaf (z ∷ zs)) r))) rest)
        → Continues key step IsOp IsKept given (entry first ops root end)
        (given ++ answers_to key step (record_at key xs) sorted) (entry first ops next end)
    leaf_split o q low load rest sorted xs r y z ys zs row perm asc parts e g =
        at_place (given ++ answers_to key step (record_at key xs) sorted) o
        (put_at q (entry low (load ++ rest) (leaf xs) r))
        (pour key (put_at q (entry low [] (leaf (y ∷ ys)) (entry (key z) [] (leaf (z ∷ zs)) r))) rest)
        e g (continues_loaded_split key step IsOp IsKept laws given (under first ops end o) q low load rest
        sorted xs r y z ys zs row perm asc parts)

    -- A node is split.
    pub node_split : (p : Place) (low : Record) (t : Tree) (k : Record) (bk : List Record)
        (ck rk r : Tree) → IsRow t → HasEntry t
        → root ≡ put_at p (entry low [] (join_rows t (entry k bk ck rk)) r)
        → next ≡ put_at p (entry low [] t (entry k [] (entry k bk ck rk) r))
        → Continues key step IsOp IsKept given (entry first ops root end) given
        (entry first ops next end)
    node_split p low t k bk ck rk r n m e g =
        at_place given p (entry low [] (join_rows t (entry k bk ck rk)) r)
        (entry low [] t (entry k [] (entry k bk ck rk) r)) e g
        (continues_split key step IsOp IsKept laws given (under first ops end p) low t k bk ck rk r n m)

-- The root's buffer goes to those of the root's entries.
pub root_emptied_sums : (key : Record → Record) (half low d : ℕ) (b : List Record) (root next : Tree)
    → IsRow root → HasEntry root → next ≡ pour key root b
    → SumsLower (length b) (sums_of half (suc low) (outline_of root) (length b) d)
    (sums_of half (suc low) (outline_of next) 0 0)
root_emptied_sums key half low d b root next row some e =
    let P : Tree → Type 0 = λ z. SumsLower (length b)
    (sums_of half (suc low) (outline_of root) (length b) d)
    (sums_of half (suc low) (outline_of z) 0 0) in
    subst P (sym e) (root_lowering_change half low (length b) d (outline_of root)
    (outline_of (pour key root b)) (outline_pours key root b row some))

module _ (half level x d : ℕ) (root next : Tree) (p : Place) where
  -- The buffer of an entry goes to those of its child.
  pub entry_emptied_sums : (key : Record → Record) (deep : ℕ) (low : Record) (b : List Record)
      (c r : Tree) → level_at_spot (spot_of p) level ≡ suc (suc deep) → IsRow c → HasEntry c
      → root ≡ put_at p (entry low b c r) → next ≡ put_at p (entry low [] (pour key c b) r)
      → SumsLower (length b) (sums_of half level (outline_of root) x d)
      (sums_of half level (outline_of next) x d)
  entry_emptied_sums key deep low b c r at row some e g =
      let old = outline_at root p (entry low b c r) e in
      let new = outline_at next p (entry low [] (pour key c b) r) g in
      let lower = lowering_change half level x d (spot_of p) deep (length b) (outline_of c)
      (outline_of (pour key c b)) (outline_of r) at (outline_pours key c b row some) in
      rw (old, new) lower

  -- A leaf is loaded.
  pub leaf_loaded_sums : (deep : ℕ) (low : Record) (load rest xs ys : List Record) (r : Tree)
      → level_at_spot (spot_of p) level ≡ suc deep → length ys ≤ length xs + length load
      → root ≡ put_at p (entry low (load ++ rest) (leaf xs) r)
      → next ≡ put_at p (entry low rest (leaf ys) r)
      → SumsLoad (length load) (sums_of half level (outline_of root) x d)
      (sums_of half level (outline_of next) x d)
  leaf_loaded_sums deep low load rest xs ys r at few e g =
      let old = outline_at root p (entry low (load ++ rest) (leaf xs) r) e in
      let new = outline_at next p (entry low rest (leaf ys) r) g in
      let n = length-append load rest in
      let same : length (load ++ rest) ≡ length rest + length load = omega (arith, n) in
      rw (old, new, same) (loading_change half level x d (spot_of p) deep (length rest) (length load)
      (length xs) (length ys) (outline_of r) at few)

  -- A node is split.
  pub node_split_sums : (deep : ℕ) (low : Record) (t : Tree) (k : Record) (u r : Tree)
      → level_at_spot (spot_of p) level ≡ suc (suc deep) → IsLevel (outline_of t) (suc deep)
      → root ≡ put_at p (entry low [] (join_rows t u) r)
      → next ≡ put_at p (entry low [] t (entry k [] u r))
      → SumsFall (sums_of half level (outline_of root) x d)
      (sums_of half level (outline_of next) x d)
  node_split_sums deep low t k u r at even e g =
      let old = outline_at root p (entry low [] (join_rows t u) r) e in
      let new = outline_at next p (entry low [] t (entry k [] u r)) g in
      let join = outline_join t u in
      rw (old, new, join) (node_split_change half level x d (spot_of p) deep 0 0 (outline_of t)
      (outline_of u) (outline_of r) at even)

  -- The leaf of a load is split, once the load is counted: `root` has all its records in one leaf.
  pub leaf_split_sums : (key : Record → Record) (w B : ℕ) (q : Place) (low : Record)
      (rest : List Record) (r : Tree) (y z : Record) (ys zs : List Record)
      → level_at_spot (spot_of p) level ≡ 1 → level_at_spot (spot_of q) 1 ≡ 1 → half ≡ 2 * w * B
      → half ≤ length (y ∷ ys) → half ≤ length (z ∷ zs)
      → IsRow (put_at q (entry low [] (leaf (y ∷ ys)) (entry (key z) [] (leaf (z ∷ zs)) r)))
      → HasEntry (put_at q (entry low [] (leaf (y ∷ ys)) (entry (key z) [] (leaf (z ∷ zs)) r)))
      → root ≡ put_at p (put_at q (entry low rest (leaf (y ∷ ys ++ z ∷ zs)) r))
      → next ≡ put_at p (pour key (put_at q
      (entry low [] (leaf (y ∷ ys)) (entry (key z) [] (leaf (z ∷ zs)) r))) rest)
      → SumsSplit w B (sums_of half level (outline_of root) x d)
      (sums_of half level (outline_of next) x d)
  leaf_split_sums key w B q low rest r y z ys zs at in_row e m n row some old new =
      let two = entry low [] (leaf (y ∷ ys)) (entry (key z) [] (leaf (z ∷ zs)) r) in
      let whole = entry low rest (leaf (y ∷ ys ++ z ∷ zs)) r in
      let i = length (y ∷ ys) in
      let j = length (z ∷ zs) in
      let all : length (y ∷ ys ++ z ∷ zs) ≡ i + j = length-append (y ∷ ys) (z ∷ zs) in
      let a = outline_at root p (put_at q whole) old in
      let b = outline_at next p (pour key (put_at q two) rest) new in
      let c = outline_put q whole in
      let Row : Outline → Type 0 = λ u. Pours (length rest) u (outline_of (pour key (put_at q two) rest))
      in
      let pours = subst Row (outline_put q two) (outline_pours key (put_at q two) rest row some) in
      rw (a, b, c, all) (cut_change half w B level 0 x d (length rest) i j (spot_of p) (spot_of q)
      (outline_of r) (outline_of (pour key (put_at q two) rest)) at in_row refl e m n pours)

-- The root is split, under a new root, while nothing waits in the root's buffer.
pub root_split_sums : (half deep : ℕ) (low : Record) (t : Tree) (k : Record) (u root next : Tree)
    → IsLevel (outline_of t) (suc deep) → root ≡ join_rows t u
    → next ≡ entry low [] t (entry k [] u end)
    → SumsGrow (sums_of half (suc deep) (outline_of root) 0 0)
    (sums_of half (suc deep + 1) (outline_of next) 0 0)
root_split_sums half deep low t k u root next even e g =
    let old = ap outline_of e ∙ outline_join t u in
    let new = ap outline_of g in
    rw (old, new) (growing_change half deep (outline_of t) (outline_of u) even)
