-- The sizes of the recursion of a segment tree.
use Rattle.std.specs.Prelude.{ℕ, zero, suc, ◌+◌, ◌*◌, ◌≤◌, if◌then◌else◌, nat_le}
use Rattle.std.specs.Int.{div_ceil}
use Rattle.em_record.specs.Shape.{ShapeNumbers, fan_of, wide_of}
use Rattle.em_tree_cost.specs.Sizes.{IsSize}

-- the greatest number up to `most` of which the square is at most n
abbrev pub root_within : ℕ → ℕ → ℕ
root_within zero n = 0
root_within (suc most) n = if nat_le (suc most * suc most) n then suc most else root_within most n

-- the square root of n, rounded down
abbrev pub root_of : ℕ → ℕ
root_of n = root_within n n

-- how many strips a node has at most: the square root of the fan-out
abbrev pub fan_root : ShapeNumbers → ℕ
fan_root shape = root_of (fan_of shape)

-- s is the square root of the fan-out 2 * w, rounded down.
pub record IsRoot (s w : ℕ) : Type 0 where
  pub low : s * s ≤ 2 * w
  pub high : 2 * w ≤ s * s + 2 * s

-- the sizes of a shape, with s
pub record Sized (s w B P : ℕ) : Type 0 where
  pub size : IsSize w B P
  pub root : IsRoot s w
  pub s_low : 4 ≤ s
  pub s_high : s ≤ 16

-- how often n is divided by the number of strips, rounded up, until an area holds it, counted up to `most`
abbrev pub strip_levels_within : ℕ → ShapeNumbers → ℕ → ℕ
strip_levels_within zero shape n = 0
strip_levels_within (suc most) shape n =
    if nat_le n (wide_of shape * shape.block) then 0
    else 1 + strip_levels_within most shape (div_ceil n (fan_root shape))

-- the levels of nodes over n points
abbrev pub strip_levels : ShapeNumbers → ℕ → ℕ
strip_levels shape n = strip_levels_within n shape n
