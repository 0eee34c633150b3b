-- What the events of a tree pay for, in moves times B: what a single record pays is a part of a
-- move.
use Rattle.std.specs.Prelude.{◌≡◌, ◌⊎◌, ℕ, ◌+◌, ◌*◌, ◌≤◌}
use Rattle.em_tree_cost.specs.Counters.{Counters, Sums, parts_since}

-- what the events pay for: pushes, operations that went down, loads, splits, leaves taken away, and
-- records handed out
abbrev pub fee : ℕ → ℕ → ℕ → Counters → ℕ
fee w B L cs =
    3 * cs.n + 19 * cs.lowered + 36 * cs.loaded + (7 * L + 12) * (2 * w * B * cs.splits)
    + (20 * L + 31) * (w * B * (cs.visits_before + cs.removed_since)) + (40 * L + 64) * cs.left
    + 18 * cs.taken

-- what calls pay for by themselves: c each reset, and c * (q + 1) each call of `settle_all` and
-- `finish`
abbrev pub toll : ℕ → ℕ → Counters → ℕ
toll c q cs = c * (cs.z + cs.y * (q + 1))

-- The moves of a tree are covered but for `more`, which is owed. The root's buffer has paid for the
-- two moves of each of its blocks.
pub record Covers (w B L c q spent more : ℕ) (cs : Counters) (t : Sums) : Type 0 where
  pub covered : B * spent + 3 * t.root
      ≤ 8 * B + B * (2 * t.blocks) + fee w B L cs + toll c q cs + more

-- A call that was refused may owe u for a leaf's visit that it didn't end, if another leaf was there.
pub record OpenVisit (w B L u : ℕ) (cs : Counters) : Type 0 where
  pub most : (u ≡ 0) ⊎ (u ≤ (20 * L + 31) * (w * B) + 18 * (w * B))
  pub some : (u ≡ 0) ⊎ (2 ≤ parts_since cs)
