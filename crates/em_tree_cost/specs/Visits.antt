-- What a call of `take_first` may owe on its way to a leaf. L levels are enough for the tree.
use Rattle.std.specs.Prelude.{ℕ, zero, suc, ◌+◌, ◌-◌, ◌*◌}
use Rattle.em_record.specs.Shape.{ShapeNumbers, wide_of}

-- what the root's buffer may owe, with a search for full buffers below it
abbrev pub root_debt : ShapeNumbers → ℕ → ℕ
root_debt shape L = 16 * wide_of shape + 15 + L

-- What the first buffers of the levels up to one may owe, down to level 2: on each a search, and a thin buffer.
abbrev pub way_debt : ℕ → ℕ → ℕ → ℕ
way_debt w L zero = 0
way_debt w L (suc zero) = 0
way_debt w L (suc (suc l)) = L + 1 - suc (suc l) + (16 * w + 4) + way_debt w L (suc l)

-- what the last load of the first leaf's buffer may owe, with the searches before and after it
abbrev pub first_load_debt : ShapeNumbers → ℕ → ℕ
first_load_debt shape L = 20 * wide_of shape + 29 + 2 * L

-- what a visit may owe that stands before its leaf, with the look for it
abbrev pub arrival_debt : ShapeNumbers → ℕ → ℕ → ℕ
arrival_debt shape L at =
    root_debt shape L + way_debt (wide_of shape) L at + first_load_debt shape L + (L + 1)
