-- The numbers of a shape that bound a run: docs/ARCHITECTURE.md, "The machine". In Vitter's survey
-- n records fill ceil(n / B) blocks, and a tree of fan-out f over x leaves has log_f x levels.
use Rattle.std.specs.Prelude.{ℕ, zero, suc, ◌+◌, ◌*◌, nat_le, if◌then◌else◌}
use Rattle.std.specs.Int.{div_ceil}
use Rattle.em_record.specs.Shape.{ShapeNumbers, fan_of}

-- the blocks that n records fill
abbrev pub blocks_of : ShapeNumbers → ℕ → ℕ
blocks_of shape n = div_ceil n shape.block

-- how often x is divided by the fan-out, rounded up, until at most 1 is left, counted up to `most`
abbrev pub lev_within : ℕ → ℕ → ℕ → ℕ
lev_within zero fan x = 0
lev_within (suc most) fan x = if nat_le x 1 then 0 else 1 + lev_within most fan (div_ceil x fan)

-- the same with no end: x divisions leave at most 1
abbrev pub lev : ShapeNumbers → ℕ → ℕ
lev shape x = lev_within x (fan_of shape) x

-- 2048 moves for each block that n records fill, and one more, at each level and once more. A tree, a
-- queue and a circuit's evaluation stay within it; the top call asks this number of blocks and 4m more.
abbrev pub cost : ShapeNumbers → ℕ → ℕ
cost shape n = 2048 * (blocks_of shape n + 1) * (1 + lev shape (blocks_of shape n))

-- 96 blocks for each block that n records fill, and one more, and 2m for each level and three more: a device of so many is never full for a run
-- of this size
abbrev pub room : ShapeNumbers → ℕ → ℕ
room shape n =
    96 * (blocks_of shape n + 1) + 2 * shape.frames * (3 + lev shape (blocks_of shape n))
