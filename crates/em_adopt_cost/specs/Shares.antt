-- The share of a batch over an adopted tree.
use Rattle.std.specs.Prelude.{ℕ, ◌+◌, ◌*◌}
use Rattle.em_record.specs.Cost.{blocks_of}
use Rattle.em_record.specs.Shape.{ShapeNumbers}
use Rattle.em_tree_cost.specs.Shares.{floors_of}

-- a batch of c calls, y of them syncs, over p adopted records
abbrev pub over_share : ShapeNumbers → ℕ → ℕ → ℕ → ℕ
over_share shape p c y =
    (176 * (blocks_of shape c + 1) + 64 * (blocks_of shape (p + c) + 1)) * (y + 1) * floors_of shape (p + c)
