-- How many nodes of a level begin among some keys.
use Rattle.std.specs.Prelude.{Bool, cond, ℕ, ◌+◌, ◌-◌, ◌==◌, ◌&&◌, true, Option, Some, None}
use Rattle.em_record.specs.declared.record.Record.{Record}
use Rattle.em_record.specs.Order.{is_below}
use Rattle.em_tree_model.specs.Ranges.{low_of}
use Rattle.em_tree_model.specs.Tree.{Tree}
use Rattle.em_tree_model.specs.Tree.Tree.{leaf, end, entry}

-- the entries of nodes of a level whose ranges begin at a key that passes a test, in a row of a node
-- of level `top`, whose keys begin at lo
abbrev pub starts_of : (Record → Bool) → ℕ → ℕ → Record → Tree → ℕ
starts_of test level top lo (leaf xs) = 0
starts_of test level top lo end = 0
starts_of test level top lo (entry low b c r) = cond (top == level) (cond (test lo) 1 0) 0
    + starts_of test level (top - 1) lo c + starts_of test level top (low_of lo r) r

-- a key is below the end of a range
abbrev pub is_before : Option Record → Record → Bool
is_before None k = true
is_before (Some high) k = is_below k high

-- a key is above the start of a range, and in the range
abbrev pub is_inside : Record → Option Record → Record → Bool
is_inside from until k = is_below from k && is_before until k
