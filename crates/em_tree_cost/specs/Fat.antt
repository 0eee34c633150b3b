-- Nodes with many entries: each off the leftmost path has at least f.
use Rattle.std.specs.Prelude.{ℕ, suc, ◌+◌, ◌≤◌}
use Rattle.em_tree_cost.specs.Outline.{Outline, count_of}
use Rattle.em_tree_cost.specs.Outline.Outline.{leaf, end, entry}

-- a leaf, or a node of at least f entries
abbrev pub IsFat : ℕ → Outline → Type 0
IsFat f (leaf n) = Unit {0}
IsFat f end = f ≤ 0
IsFat f (entry b c r) = f ≤ 1 + count_of r

-- all nodes below a row are fat
abbrev pub AllFat : ℕ → Outline → Type 0
AllFat f (leaf n) = Unit {0}
AllFat f end = Unit {0}
AllFat f (entry b c r) = IsFat f c × AllFat f c × AllFat f r

-- all nodes below a row are fat but those on the leftmost path
abbrev pub LeftFat : ℕ → Outline → Type 0
LeftFat f (leaf n) = Unit {0}
LeftFat f end = Unit {0}
LeftFat f (entry b c r) = LeftFat f c × AllFat f r

-- u may stand in the place of t: no node becomes less fat.
pub record Fatter (f : ℕ) (t u : Outline) : Type 0 where
  pub count : count_of t ≤ count_of u
  pub fat : IsFat f t → IsFat f u
  pub all : AllFat f t → AllFat f u
  pub left : LeftFat f t → LeftFat f u

-- each buffer of a row has fewer than x operations
abbrev pub RowUnder : ℕ → Outline → Type 0
RowUnder x (leaf n) = Unit {0}
RowUnder x end = Unit {0}
RowUnder x (entry b c r) = (suc b ≤ x) × RowUnder x r
