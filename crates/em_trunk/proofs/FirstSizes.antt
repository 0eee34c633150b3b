-- The sizes of a tree's parts, and what holds of its entries, over records that are taken out of its leftmost
-- leaf, and over that leaf's removal.
use Rattle.std.proofs.Common.{◌≡◌, ℕ, ◌+◌, ◌-◌, ◌<◌, ◌≤◌, List, ◌++◌, length, refl, sym, ap, subst, ◌∙◌, arith, Option}
use Rattle.std.proofs.lemmas.List.{length-append}
use Rattle.em_record.specs.declared.record.Record.{Record}
use Rattle.em_tree_cost.specs.Outline.{Outline, count_of}
use Rattle.em_tree_model.specs.Ranges.{low_of, next_low}
use Rattle.em_tree_model.specs.Taking.{lowered_first, with_first_child, without_first}
use Rattle.em_tree_model.specs.Tree.{Tree, first_leaf, with_first_leaf}
use Rattle.em_tree_model.specs.Tree.Tree.{leaf, end, entry}
use Rattle.em_tree_outline.specs.Outline.{outline_of}
use Rattle.em_tree_outline.proofs.FirstLeaves.{lowered_outline}
use Rattle.em_trunk.specs.Entries.{EachEntry}
use Rattle.em_trunk.specs.Sized.{LeavesUpTo, NodesUnder}

-- records are taken out of the leftmost leaf
pub leaves_taken : (n : ℕ) (t : Tree) (ys zs : List Record) → first_leaf t ≡ ys ++ zs
    → LeavesUpTo n (outline_of t) → LeavesUpTo n (outline_of (with_first_leaf t zs))
leaves_taken n (leaf xs) ys zs e h =
    let m = ap length e ∙ length-append ys zs in
    let k : length zs ≤ n = omega (arith, m, h) in k
leaves_taken n end ys zs e h = tt
leaves_taken n (entry low b c r) ys zs e h = (leaves_taken n c ys zs e h.0, h.1)

pub count_taken : (t : Tree) (zs : List Record)
    → count_of (outline_of (with_first_leaf t zs)) ≡ count_of (outline_of t)
count_taken (leaf xs) zs = refl
count_taken end zs = refl
count_taken (entry low b c r) zs = refl

pub nodes_taken : (n : ℕ) (t : Tree) (zs : List Record) → NodesUnder n (outline_of t)
    → NodesUnder n (outline_of (with_first_leaf t zs))
nodes_taken n (leaf xs) zs h = tt
nodes_taken n end zs h = tt
nodes_taken n (entry low b c r) zs h =
    let e = count_taken c zs in (omega (arith, e, h.0), nodes_taken n c zs h.1, h.2)

pub each_taken : (P : ℕ → Record → Option Record → List Record → Type 0) (level : ℕ) (lo : Record)
    (hi : Option Record) (t : Tree) (zs : List Record) → EachEntry P level lo hi t
    → EachEntry P level lo hi (with_first_leaf t zs)
each_taken P level lo hi (leaf xs) zs h = tt
each_taken P level lo hi end zs h = tt
each_taken P level lo hi (entry low b c r) zs h =
    (h.0, each_taken P (level - 1) lo (next_low hi r) c zs h.1, h.2)

-- the leftmost leaf is removed
leaves_by : (n : ℕ) (low : Record) (b : List Record) (r x : Tree) → LeavesUpTo n (outline_of r)
    → LeavesUpTo n (outline_of x) → LeavesUpTo n (outline_of (with_first_child x low b r))
leaves_by n low b r (leaf xs) h k =
    let P : Outline → Type 0 = LeavesUpTo n in subst P (sym (lowered_outline r)) h
leaves_by n low b r end h k =
    let P : Outline → Type 0 = LeavesUpTo n in subst P (sym (lowered_outline r)) h
leaves_by n low b r (entry low2 b2 c2 r2) h k = (k, h)

pub leaves_removed : (n : ℕ) (t : Tree) → LeavesUpTo n (outline_of t)
    → LeavesUpTo n (outline_of (without_first t))
leaves_removed n (leaf xs) h = tt
leaves_removed n end h = tt
leaves_removed n (entry low b c r) h =
    leaves_by n low b r (without_first c) h.1 (leaves_removed n c h.0)

count_by : (low : Record) (b : List Record) (r x : Tree)
    → count_of (outline_of (with_first_child x low b r)) ≤ 1 + count_of (outline_of r)
count_by low b r (leaf xs) = let e = ap count_of (lowered_outline r) in omega (arith, e)
count_by low b r end = let e = ap count_of (lowered_outline r) in omega (arith, e)
count_by low b r (entry low2 b2 c2 r2) = omega arith

pub count_removed : (t : Tree) → count_of (outline_of (without_first t)) ≤ count_of (outline_of t)
count_removed (leaf xs) = omega arith
count_removed end = omega arith
count_removed (entry low b c r) = count_by low b r (without_first c)

nodes_by : (n : ℕ) (low : Record) (b : List Record) (r x : Tree) → count_of (outline_of x) < n
    → NodesUnder n (outline_of r) → NodesUnder n (outline_of x)
    → NodesUnder n (outline_of (with_first_child x low b r))
nodes_by n low b r (leaf xs) m h k =
    let P : Outline → Type 0 = NodesUnder n in subst P (sym (lowered_outline r)) h
nodes_by n low b r end m h k =
    let P : Outline → Type 0 = NodesUnder n in subst P (sym (lowered_outline r)) h
nodes_by n low b r (entry low2 b2 c2 r2) m h k = (m, k, h)

pub nodes_removed : (n : ℕ) (t : Tree) → NodesUnder n (outline_of t)
    → NodesUnder n (outline_of (without_first t))
nodes_removed n (leaf xs) h = tt
nodes_removed n end h = tt
nodes_removed n (entry low b c r) h =
    let e = count_removed c in
    nodes_by n low b r (without_first c) (omega (arith, e, h.0)) h.2 (nodes_removed n c h.1)

module _ (P : ℕ → Record → Option Record → List Record → Type 0)
    (start : (level : ℕ) (lo other : Record) (hi : Option Record) (b : List Record) → P level lo hi b
    → P level other hi b) where
  rest_start : (level : ℕ) (lo other : Record) (hi : Option Record) (r : Tree)
      → ((a c : Record) → EachEntry P level a hi r → EachEntry P level c hi r)
      → EachEntry P level (low_of lo r) hi r → EachEntry P level (low_of other r) hi r
  rest_start level lo other hi r f h = f (low_of lo r) (low_of other r) h

  -- where the range begins doesn't matter
  pub each_start : (level : ℕ) (lo other : Record) (hi : Option Record) (t : Tree)
      → EachEntry P level lo hi t → EachEntry P level other hi t
  each_start level lo other hi (leaf xs) h = tt
  each_start level lo other hi end h = tt
  each_start level lo other hi (entry low b c r) h = (
    start level lo other (next_low hi r) b h.0,
    each_start (level - 1) lo other (next_low hi r) c h.1,
    rest_start level lo other hi r (λ x y. each_start level x y hi r) h.2,
  )

  each_lowered : (level : ℕ) (lo : Record) (hi : Option Record) (t : Tree) → EachEntry P level lo hi t
      → EachEntry P level lo hi (lowered_first t)
  each_lowered level lo hi (leaf xs) h = tt
  each_lowered level lo hi end h = tt
  each_lowered level lo hi (entry low b c r) h =
      (h.0, each_lowered (level - 1) lo (next_low hi r) c h.1, h.2)

  each_by : (level : ℕ) (lo : Record) (hi : Option Record) (low : Record) (b : List Record)
      (c r x : Tree) → EachEntry P level lo hi (entry low b c r)
      → EachEntry P (level - 1) lo (next_low hi r) x
      → EachEntry P level lo hi (with_first_child x low b r)
  each_by level lo hi low b c r (leaf xs) h k =
      each_lowered level lo hi r (each_start level (low_of lo r) lo hi r h.2)
  each_by level lo hi low b c r end h k =
      each_lowered level lo hi r (each_start level (low_of lo r) lo hi r h.2)
  each_by level lo hi low b c r (entry low2 b2 c2 r2) h k = (h.0, k, h.2)

  pub each_removed : (level : ℕ) (lo : Record) (hi : Option Record) (t : Tree)
      → EachEntry P level lo hi t → EachEntry P level lo hi (without_first t)
  each_removed level lo hi (leaf xs) h = tt
  each_removed level lo hi end h = tt
  each_removed level lo hi (entry low b c r) h = each_by level lo hi low b c r (without_first c) h
      (each_removed (level - 1) lo (next_low hi r) c h.1)
