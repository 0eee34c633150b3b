-- The sizes of a tree's leaves and nodes.
use Rattle.std.specs.Prelude.{ℕ, ◌*◌, ◌<◌, ◌≤◌}
use Rattle.em_record.specs.Shape.{ShapeNumbers, fan_of, wide_of}
use Rattle.em_tree_cost.specs.Fat.{LeftFat}
use Rattle.em_tree_cost.specs.Outline.{Outline, count_of}
use Rattle.em_tree_cost.specs.Outline.Outline.{leaf, end, entry}

-- each leaf has at most n records
abbrev pub LeavesUpTo : ℕ → Outline → Type 0
LeavesUpTo n (leaf x) = x ≤ n
LeavesUpTo n end = Unit {0}
LeavesUpTo n (entry b c r) = LeavesUpTo n c × LeavesUpTo n r

-- each node below a row has fewer than n entries
abbrev pub NodesUnder : ℕ → Outline → Type 0
NodesUnder n (leaf x) = Unit {0}
NodesUnder n end = Unit {0}
NodesUnder n (entry b c r) = (count_of c < n) × NodesUnder n c × NodesUnder n r

-- a leaf has at most 4 · w · B records, as between two loads
abbrev pub leaf_limit : ShapeNumbers → ℕ
leaf_limit shape = 4 * wide_of shape * shape.block

-- A leaf has at most 4 · w · B records, a node fewer than 2 · f entries, and at least f off the
-- leftmost path.
pub record IsSized (shape : ShapeNumbers) (t : Outline) : Type 0 where
  pub leaves : LeavesUpTo (leaf_limit shape) t
  pub nodes : NodesUnder (2 * fan_of shape) t
  pub fat : LeftFat (fan_of shape) t
