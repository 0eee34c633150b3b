-- What emptying the buffers of a tree's level may owe, in moves times B, beside what their operations
-- pay for. L is the most moves of a search.
use Rattle.std.specs.Prelude.{cond, ℕ, ◌+◌, ◌-◌, ◌*◌, ◌==◌, List, [], ◌∷◌, length}
use Rattle.em_record.specs.declared.record.Record.{Record}
use Rattle.em_tree_model.specs.Tree.{Tree}
use Rattle.em_tree_model.specs.Tree.Tree.{leaf, end, entry}
use Rattle.em_tree_cost.specs.Outline.{count_of}
use Rattle.em_tree_outline.specs.Outline.{outline_of}

-- An entry over a leaf, if its buffer has an operation: five moves for each block of the leaf, and some
-- for the load that takes the last operation.
abbrev pub load_part : ℕ → ℕ → List Record → Tree → ℕ
load_part B L [] c = 0
load_part B L (op ∷ ops) (leaf xs) = 10 * (length (op ∷ ops) + length xs) + B * (35 + 2 * L)
load_part B L (op ∷ ops) end = 0
load_part B L (op ∷ ops) (entry low b c r) = 0

-- all entries over leaves
abbrev pub loads_owing : ℕ → ℕ → Tree → ℕ
loads_owing B L (leaf xs) = 0
loads_owing B L end = 0
loads_owing B L (entry low b c r) = load_part B L b c + loads_owing B L c + loads_owing B L r

-- An entry over a node, if its buffer has an operation: four moves for each entry of the node, and some.
abbrev pub lower_part : ℕ → ℕ → List Record → Tree → ℕ
lower_part B L [] c = 0
lower_part B L (op ∷ ops) c = B * (4 * count_of (outline_of c) + 8 + L)

-- the entries of the nodes of a level, in a row of a node of level `top`
abbrev pub lowers_owing : ℕ → ℕ → ℕ → ℕ → Tree → ℕ
lowers_owing B L level top (leaf xs) = 0
lowers_owing B L level top end = 0
lowers_owing B L level top (entry low b c r) = cond (top == level) (lower_part B L b c) 0
    + lowers_owing B L level (top - 1) c + lowers_owing B L level top r
