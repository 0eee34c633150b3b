-- Places in an outline.
use Rattle.std.specs.Prelude.{ℕ, zero, suc}
use Rattle.em_tree_cost.specs.Counters.{Sums}
use Rattle.em_tree_cost.specs.Outline.{Outline, sums_of}
use Rattle.em_tree_cost.specs.Outline.Outline.{entry}

-- A place: here, or a place in the child of a row's first entry, or one in the entries after that.
pub data Spot : Type 0 where
  here : Spot
  under : ℕ → Outline → Spot → Spot
  past : ℕ → Outline → Spot → Spot

-- the outline that has t at the place
abbrev pub put_at_spot : Spot → Outline → Outline
put_at_spot here t = t
put_at_spot (under b r p) t = entry b (put_at_spot p t) r
put_at_spot (past b c p) t = entry b c (put_at_spot p t)

-- the level at a place of a node of this level
abbrev pub level_at_spot : Spot → ℕ → ℕ
level_at_spot here level = level
level_at_spot (under b r p) zero = level_at_spot p zero
level_at_spot (under b r p) (suc level) = level_at_spot p level
level_at_spot (past b c p) level = level_at_spot p level

-- the sums of the outline that has t at the place
abbrev pub sums_at : ℕ → ℕ → Spot → ℕ → ℕ → Outline → Sums
sums_at half level p x d t = sums_of half level (put_at_spot p t) x d

-- a place on the leftmost path
abbrev pub IsLeftmost : Spot → Type 0
IsLeftmost here = Unit {0}
IsLeftmost (under b r p) = IsLeftmost p
IsLeftmost (past b c p) = ⊥
