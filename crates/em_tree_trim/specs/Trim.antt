-- A tree that is as small as its records allow.
use Rattle.std.specs.Prelude.{◌≡◌, ◌⊎◌, ℕ, ◌<◌}
use Rattle.em_record.specs.Shape.{ShapeNumbers, fan_of}
use Rattle.em_frames.specs.Pool.{load_of}
use Rattle.em_tree_cost.specs.Fat.{AllFat}
use Rattle.em_tree_cost.specs.Fusing.{LeavesFrom}
use Rattle.em_tree_cost.specs.Outline.{Outline, count_of}

-- each leaf of a root of this level has w · B records or more, each node below the root f entries or more, and the root has
-- two; or there is one leaf under a root of level 1
abbrev pub IsTrim : ShapeNumbers → ℕ → Outline → Type 0
IsTrim shape level t = ((level ≡ 1) × (count_of t ≡ 1))
    ⊎ ((1 < count_of t) × LeavesFrom (load_of shape) t × AllFat (fan_of shape) t)
