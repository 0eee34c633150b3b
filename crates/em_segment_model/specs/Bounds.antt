-- The most that a call of the recursion moves and holds. Both are times P, the payload of a block.
use Rattle.std.specs.Prelude.{ℕ, ◌+◌, ◌*◌}

-- what a call may move: of X points, pieces that weigh e, and F pairs, over r levels of nodes
abbrev pub pays : ℕ → ℕ → ℕ → ℕ → ℕ → ℕ
pays P r X e F = (r + 1) * (58 * X + 10 * e) + F + 4 * P

-- What a call may hold, beside the chain of pairs: of X points and pieces that weigh e, over r levels of
-- nodes of at most s strips. On each level two chains for each strip wait, with a block each that isn't
-- full.
abbrev pub holds : ℕ → ℕ → ℕ → ℕ → ℕ → ℕ
holds s P r X e = 2 * X + 3 * e + (s * s + 6 * s + 4) * P + r * (2 * s * P)
