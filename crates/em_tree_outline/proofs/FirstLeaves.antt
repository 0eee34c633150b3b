-- The sums of a tree over records that are taken out of its leftmost leaf, and over that leaf's removal.
use Rattle.std.proofs.Common.{◌≡◌, ℕ, zero, suc, ◌+◌, ◌≤◌, List, [], ◌∷◌, ◌++◌, length, refl, sym, ap, subst, ◌∙◌, arith, Option}
use Rattle.std.proofs.lemmas.List.{length-append}
use Rattle.em_record.specs.declared.record.Record.{Record}
use Rattle.em_tree_cost.specs.Effects.{SumsRemove, SumsTake}
use Rattle.em_tree_cost.specs.Fat.{AllFat, LeftFat}
use Rattle.em_tree_cost.specs.Outline.Outline.{end as no_part, entry as part}
use Rattle.em_tree_cost.specs.Outline.{Outline, excess_of, leaves_of, stored_of, sums_of, waiting_of, weight_of}
use Rattle.em_tree_cost.proofs.Fatness.{all_fat_left}
use Rattle.em_tree_cost.proofs.Outlines.{some_leaf}
use Rattle.em_tree_model.specs.Ranges.{IsTree, next_low}
use Rattle.em_tree_model.specs.Taking.{lowered_first, with_first_child, without_first}
use Rattle.em_tree_model.specs.Tree.{Tree, HasEntry, HasLevel, IsChild, first_leaf, over_first, with_first_leaf}
use Rattle.em_tree_model.specs.Tree.Tree.{leaf, end, entry}
use Rattle.em_tree_model.proofs.Removal.{leaf_gone, without_level}
use Rattle.em_tree_outline.specs.Outline.{outline_of}
use Rattle.em_tree_outline.proofs.Outlines.{outline_child, outline_level}

-- low keys are no part of an outline
pub lowered_outline : (t : Tree) → outline_of (lowered_first t) ≡ outline_of t
lowered_outline (leaf xs) = refl
lowered_outline end = refl
lowered_outline (entry low b c r) = rw (lowered_outline c) refl

-- a list of no length
no_items : (xs : List Record) → length xs ≡ 0 → xs ≡ []
no_items [] e = refl
no_items (x ∷ xs) e = absurd (omega (arith, e))

-- What other records in the leftmost leaf change: y records fewer.
record TakesOf (half level y : ℕ) (o u : Outline) : Type 0 where
  leaves : leaves_of u ≡ leaves_of o
  waiting : waiting_of u ≡ waiting_of o
  weight : weight_of level u ≡ weight_of level o
  stored : stored_of u + y ≡ stored_of o
  excess : excess_of half u ≤ excess_of half o

taken_entry : (half level y b : ℕ) (o u r : Outline)
    → ((l : ℕ) → TakesOf half l y o u)
    → TakesOf half level y (part b o r) (part b u r)
taken_entry half zero y b o u r h =
    let i = h zero in
    record {
      leaves = omega (arith, i.leaves);
      waiting = omega (arith, i.waiting);
      weight = omega (arith, i.weight);
      stored = omega (arith, i.stored);
      excess = omega (arith, i.excess);
    }
taken_entry half (suc level) y b o u r h =
    let i = h level in
    record {
      leaves = omega (arith, i.leaves);
      waiting = omega (arith, i.waiting);
      weight = omega (arith, i.weight);
      stored = omega (arith, i.stored);
      excess = omega (arith, i.excess);
    }

taken_of : (half : ℕ) (t : Tree) (ys zs : List Record) → first_leaf t ≡ ys ++ zs → (level : ℕ)
    → TakesOf half level (length ys) (outline_of t) (outline_of (with_first_leaf t zs))
taken_of half (leaf xs) ys zs e level =
    let n = ap length e ∙ length-append ys zs in
    record {
      leaves = refl;
      waiting = refl;
      weight = refl;
      stored = omega (arith, n);
      excess = omega (arith, n);
    }
taken_of half end ys zs e level =
    let n = ap length e ∙ length-append ys zs in
    record {
      leaves = refl;
      waiting = refl;
      weight = refl;
      stored = omega (arith, n);
      excess = omega arith;
    }
taken_of half (entry low b c r) ys zs e level =
    taken_entry half level (length ys) (length b) (outline_of c) (outline_of (with_first_leaf c zs))
    (outline_of r) (λ l. taken_of half c ys zs e l)

-- The first records of the leftmost leaf are taken out.
pub first_taken_sums : (half level x d : ℕ) (t : Tree) (ys zs : List Record)
    → first_leaf t ≡ ys ++ zs
    → SumsTake (length ys) (sums_of half level (outline_of t) x d)
    (sums_of half level (outline_of (with_first_leaf t zs)) x d)
first_taken_sums half level x d t ys zs e =
    let h = taken_of half t ys zs e level in
    record {
      level = refl;
      leaves = h.leaves;
      waiting = omega (arith, h.waiting);
      weight = omega (arith, h.weight);
      stored = omega (arith, h.stored);
      excess = h.excess;
    }

-- the level of the nodes below those of a level
abbrev below : ℕ → ℕ
below zero = zero
below (suc level) = level

-- A part of a tree from which a leaf went, with nothing in it, and the nodes that it left empty.
record LeafOut (half level : ℕ) (o u : Outline) : Type 0 where
  leaves : leaves_of u + 1 ≡ leaves_of o
  waiting : waiting_of u ≡ waiting_of o
  weight : weight_of level u ≡ weight_of level o
  stored : stored_of u ≡ stored_of o
  excess : excess_of half u ≡ excess_of half o

-- A part of which nothing is left then.
record LastOut (half level : ℕ) (o : Outline) : Type 0 where
  leaves : leaves_of o ≡ 1
  waiting : waiting_of o ≡ 0
  weight : weight_of level o ≡ 0
  stored : stored_of o ≡ 0
  excess : excess_of half o ≡ 0

-- what is left
abbrev Out : ℕ → ℕ → Outline → Tree → Type 0
Out half level o (leaf xs) = ⊥
Out half level o end = LastOut half level o
Out half level o (entry low b c r) = LeafOut half level o (outline_of (entry low b c r))

-- the first child stays, without its leaf
child_stays : (half level b : ℕ) (o u r : Outline) → LeafOut half (below level) o u
    → LeafOut half level (part b o r) (part b u r)
child_stays half zero b o u r i = record {
  leaves = omega (arith, i.leaves);
  waiting = omega (arith, i.waiting);
  weight = omega (arith, i.weight);
  stored = omega (arith, i.stored);
  excess = omega (arith, i.excess);
}
child_stays half (suc level) b o u r i = record {
  leaves = omega (arith, i.leaves);
  waiting = omega (arith, i.waiting);
  weight = omega (arith, i.weight);
  stored = omega (arith, i.stored);
  excess = omega (arith, i.excess);
}

-- it goes, and its entry with it
child_goes : (half level b : ℕ) (o r : Outline) → b ≡ 0 → LastOut half (below level) o
    → LeafOut half level (part b o r) r
child_goes half zero b o r e i = record {
  leaves = omega (arith, i.leaves);
  waiting = omega (arith, i.waiting, e);
  weight = omega (arith, i.weight);
  stored = omega (arith, i.stored);
  excess = omega (arith, i.excess);
}
child_goes half (suc level) b o r e i = record {
  leaves = omega (arith, i.leaves);
  waiting = omega (arith, i.waiting, e);
  weight = rw e (omega (arith, i.weight));
  stored = omega (arith, i.stored);
  excess = omega (arith, i.excess);
}

-- and so does the node
node_goes : (half level b : ℕ) (o : Outline) → b ≡ 0 → LastOut half (below level) o
    → LastOut half level (part b o no_part)
node_goes half zero b o e i = record {
  leaves = omega (arith, i.leaves);
  waiting = omega (arith, i.waiting, e);
  weight = omega (arith, i.weight);
  stored = omega (arith, i.stored);
  excess = omega (arith, i.excess);
}
node_goes half (suc level) b o e i = record {
  leaves = omega (arith, i.leaves);
  waiting = omega (arith, i.waiting, e);
  weight = rw e (omega (arith, i.weight));
  stored = omega (arith, i.stored);
  excess = omega (arith, i.excess);
}

-- the entries after one whose child goes
rest_left : (half level : ℕ) (key : Record → Record) (low : Record) (b : List Record) (c r : Tree)
    (lo : Record) (hi : Option Record) → IsTree key (entry low b c r) lo hi → b ≡ []
    → LastOut half (below level) (outline_of c)
    → Out half level (outline_of (entry low b c r)) (lowered_first r)
rest_left half level key low b c (leaf xs) lo hi i e h = absurd i.3
rest_left half level key low b c end lo hi i e h =
    node_goes half level (length b) (outline_of c) (ap length e) h
rest_left half level key low b c (entry low2 b2 c2 r2) lo hi i e h =
    let r = entry low2 b2 c2 r2 in
    let P : Outline → Type 0 = λ u. LeafOut half level (outline_of (entry low b c r)) u in
    subst P (sym (lowered_outline r))
    (child_goes half level (length b) (outline_of c) (outline_of r) (ap length e) h)

out_by : (half level : ℕ) (key : Record → Record) (low : Record) (b : List Record) (c r : Tree)
    (lo : Record) (hi : Option Record) → IsTree key (entry low b c r) lo hi → b ≡ [] → (x : Tree)
    → Out half (below level) (outline_of c) x
    → Out half level (outline_of (entry low b c r)) (with_first_child x low b r)
out_by half level key low b c r lo hi i e (leaf xs) h = absurd h
out_by half level key low b c r lo hi i e end h = rest_left half level key low b c r lo hi i e h
out_by half level key low b c r lo hi i e (entry low2 b2 c2 r2) h =
    child_stays half level (length b) (outline_of c) (outline_of (entry low2 b2 c2 r2)) (outline_of r) h

out_of : (half : ℕ) (key : Record → Record) (t : Tree) (lo : Record) (hi : Option Record) → IsChild t
    → IsTree key t lo hi → first_leaf t ≡ [] → over_first t ≡ [] → (level : ℕ)
    → Out half level (outline_of t) (without_first t)
out_of half key (leaf xs) lo hi n i e o level =
    let none = ap length e in
    record {
      leaves = refl;
      waiting = refl;
      weight = refl;
      stored = none;
      excess = omega (arith, none);
    }
out_of half key end lo hi n i e o level = absurd n
out_of half key (entry low b c r) lo hi n i e o level =
    let all : length (over_first c) + length b ≡ 0 = sym (length-append (over_first c) b) ∙ ap length o in
    let first : over_first c ≡ [] = no_items (over_first c) (omega (arith, all)) in
    let last : b ≡ [] = no_items b (omega (arith, all)) in
    out_by half level key low b c r lo hi i last (without_first c)
    (out_of half key c lo (next_low hi r) i.0 i.2 e first (below level))

entry_out : (half level : ℕ) (o : Outline) (u : Tree) → HasEntry u → Out half level o u
    → LeafOut half level o (outline_of u)
entry_out half level o (leaf xs) n h = absurd n
entry_out half level o end n h = absurd n
entry_out half level o (entry low b c r) n h = h

-- The leftmost leaf is removed, and another one is there.
pub first_removed_sums : (half n x d : ℕ) (key : Record → Record) (t : Tree) (lo : Record)
    (hi : Option Record)
    → IsChild t → IsTree key t lo hi → HasLevel t (suc n) → first_leaf t ≡ [] → over_first t ≡ []
    → HasEntry (without_first t)
    → SumsRemove (sums_of half (suc n) (outline_of t) x d)
    (sums_of half (suc n) (outline_of (without_first t)) x d)
first_removed_sums half n x d key t lo hi c i level e o some =
    let u = without_first t in
    let h = entry_out half (suc n) (outline_of t) u some (out_of half key t lo hi c i e o (suc n)) in
    let g = leaf_gone key t lo hi c i e o some in
    let even = outline_level key u (suc n) lo hi g.is (without_level t n level) in
    record {
      level = refl;
      leaves = h.leaves;
      some = some_leaf (outline_of u) (suc n) even (outline_child u g.some);
      waiting = omega (arith, h.waiting);
      weight = omega (arith, h.weight);
      stored = omega (arith, h.stored);
      excess = omega (arith, h.excess);
    }

fat_by : (f : ℕ) (low : Record) (b : List Record) (c r x : Tree) → AllFat f (outline_of r)
    → LeftFat f (outline_of x) → LeftFat f (outline_of (with_first_child x low b r))
fat_by f low b c r (leaf xs) a h =
    let P : Outline → Type 0 = LeftFat f in
    subst P (sym (lowered_outline r)) (all_fat_left f (outline_of r) a)
fat_by f low b c r end a h =
    let P : Outline → Type 0 = LeftFat f in
    subst P (sym (lowered_outline r)) (all_fat_left f (outline_of r) a)
fat_by f low b c r (entry low2 b2 c2 r2) a h = (h, a)

-- All nodes off the leftmost path have as many entries as they had, at least.
pub first_removed_fat : (f : ℕ) (t : Tree) → LeftFat f (outline_of t)
    → LeftFat f (outline_of (without_first t))
first_removed_fat f (leaf xs) h = tt
first_removed_fat f end h = tt
first_removed_fat f (entry low b c r) h =
    fat_by f low b c r (without_first c) h.1 (first_removed_fat f c h.0)

-- so they have if records are taken out
pub first_taken_fat : (f : ℕ) (t : Tree) (zs : List Record) → LeftFat f (outline_of t)
    → LeftFat f (outline_of (with_first_leaf t zs))
first_taken_fat f (leaf xs) zs h = tt
first_taken_fat f end zs h = tt
first_taken_fat f (entry low b c r) zs h = (first_taken_fat f c zs h.0, h.1)
