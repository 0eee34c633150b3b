-- How the leaves and the nodes of a tree are cut bottom up from records that rise.
use Rattle.std.specs.Prelude.{◌≡◌, ℕ, zero, suc, ◌+◌, ◌-◌, ◌*◌, ◌/◌, ◌%◌, ◌≤◌, min, nat_lt, if◌then◌else◌, List, [], ◌∷◌}

-- what these numbers come to
abbrev pub sum_of : List ℕ → ℕ
sum_of [] = 0
sum_of (n ∷ ns) = n + sum_of ns

-- each is from low to high
abbrev pub AllWithin : ℕ → ℕ → List ℕ → Type 0
AllWithin low high [] = Unit {0}
AllWithin low high (n ∷ ns) = (low ≤ n) × (n ≤ high) × AllWithin low high ns

-- The leaves of c whole lots of 2 · size records and r records more. These are a leaf if they are `size` or more, or if there
-- is no lot; else they go to the last lot.
pub data LeafSizes (size : ℕ) : ℕ → ℕ → List ℕ → Type 0 where
  alone : {r : ℕ} → r ≤ 2 * size → LeafSizes size 0 r (r ∷ [])
  apart : {r : ℕ} → size ≤ r → r ≤ 2 * size → LeafSizes size 1 r ((2 * size) ∷ (r ∷ []))
  together : {r : ℕ} → r ≤ size → LeafSizes size 1 r ((2 * size + r) ∷ [])
  whole : {c r : ℕ} {ns : List ℕ} → LeafSizes size (suc c) r ns
      → LeafSizes size (suc (suc c)) r ((2 * size) ∷ ns)

-- The nodes over n children: each takes from f to 2 · f - 1 of them and leaves f or more, and the last one takes all that are
-- left, fewer than 2 · f.
pub data Cuts (f : ℕ) : ℕ → List ℕ → Type 0 where
  last : {n : ℕ} → n + 1 ≤ 2 * f → Cuts f n (n ∷ [])
  next : {n m r : ℕ} {ns : List ℕ} → f ≤ m → m + 1 ≤ 2 * f → f ≤ r → n ≡ m + r → Cuts f r ns
      → Cuts f n (m ∷ ns)

-- such leaves
abbrev pub leaf_plan : ℕ → ℕ → ℕ → List ℕ
leaf_plan size zero r = r ∷ []
leaf_plan size (suc zero) r = if nat_lt r size then (2 * size + r) ∷ [] else (2 * size) ∷ (r ∷ [])
leaf_plan size (suc (suc c)) r = (2 * size) ∷ leaf_plan size (suc c) r

-- the leaves of p records
abbrev pub builder_plan : ℕ → ℕ → List ℕ
builder_plan size p = leaf_plan size (p / (2 * size)) (p % (2 * size))

-- how many of n children a node takes that doesn't take all: f and a half, and so few that f are left
abbrev pub cut_size : ℕ → ℕ → ℕ
cut_size f n = min (f + f / 2) (n - f)

-- such nodes, up to `most` and one
abbrev pub nodes_within : ℕ → ℕ → ℕ → List ℕ
nodes_within zero f n = n ∷ []
nodes_within (suc most) f n =
    if nat_lt n (2 * f) then n ∷ [] else cut_size f n ∷ nodes_within most f (n - cut_size f n)

-- the nodes over n children
abbrev pub node_plan : ℕ → ℕ → List ℕ
node_plan f n = nodes_within n f n
