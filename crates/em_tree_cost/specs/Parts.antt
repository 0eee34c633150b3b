-- The most moves of the parts of a call, and what the longer ones may owe on their way. A node has
-- at most 4 * w entries, and a tree at most L levels. A descent from the root is at most L moves.
use Rattle.std.specs.Prelude.{ℕ, ◌+◌, ◌*◌}

-- a full buffer in d blocks goes to the buffers of its node's children
abbrev pub full_moves : ℕ → ℕ → ℕ → ℕ
full_moves w L d = 4 * d + 16 * w + 18 + 3 * L

-- a buffer of any length goes there, without descents
abbrev pub thin_moves : ℕ → ℕ → ℕ
thin_moves w d = 4 * d + 16 * w + 15

-- what that owes beyond the fee of the operations
abbrev pub thin_debt : ℕ → ℕ
thin_debt w = 16 * w + 19

-- a load in d blocks into a leaf of e blocks, with two descents
abbrev pub load_moves : ℕ → ℕ → ℕ → ℕ
load_moves L d e = 5 * e + 6 * d + 18 + 2 * L

-- A leaf's split, beside its load: the rest of its buffer, in d blocks, goes once more through the
-- node; then up to L splits of nodes, each with a descent, and a new root.
abbrev pub split_moves : ℕ → ℕ → ℕ → ℕ
split_moves w L d = 26 + 4 * d + 16 * w + 8 * L + L * L

-- what the visit of a leaf may owe when the leaf is taken away: a thin buffer on each level of its
-- path, a load that wasn't full, and the removal
abbrev pub visit_debt : ℕ → ℕ → ℕ
visit_debt w L = L * thin_debt w + 26 * w + 35 + 6 * L

-- what a call that leaves some may owe at its end
abbrev pub leave_debt : ℕ → ℕ → ℕ
leave_debt w L = L * thin_debt w + 26 * w + 33 + 3 * L

-- the same of one that filled the area, and wrote what it left of a leaf anew
abbrev pub filled_debt : ℕ → ℕ → ℕ
filled_debt w L = L * thin_debt w + 42 * w + 37 + 3 * L

-- what `settle_all` or `finish` may owe at its end, over q blocks of operations
abbrev pub settle_debt : ℕ → ℕ → ℕ → ℕ
settle_debt L q leaves = 16 * q + leaves * (66 * L + 6)
