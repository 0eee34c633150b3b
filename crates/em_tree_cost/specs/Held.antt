-- The blocks that a tree holds.
use Rattle.std.specs.Prelude.{◌≡◌, ℕ, ◌+◌, ◌*◌, ◌≤◌}
use Rattle.em_tree_cost.specs.Counters.{Sums}
use Rattle.em_tree_cost.specs.Outline.{Outline, node_of}
use Rattle.em_tree_cost.specs.Outline.Outline.{leaf, end, entry}
use Rattle.em_tree_cost.specs.Sizes.{IsCeil}

-- The blocks below a row: a leaf has its own and those of a packed chain; a node has its own; a
-- buffer of b operations has up to b / P and two more, since its first block may be read in part.
pub data HeldBelow (P : ℕ) : ℕ → Outline → Type 0 where
  leaf_blocks : {n : ℕ} (d k : ℕ) → IsCeil d P n → k ≡ 1 + d → HeldBelow P k (leaf n)
  end_blocks : HeldBelow P 0 end
  entry_blocks : {k b i j : ℕ} {c r : Outline} (d : ℕ) → d * P ≤ b + 2 * P → HeldBelow P i c
      → HeldBelow P j r → k ≡ node_of c + d + i + j → HeldBelow P k (entry b c r)

-- The blocks of a tree of this many nodes: those that its records fill; one that the root's buffer
-- began; four for each leaf (its own, its chain's last, its buffer's first and last); and three for
-- each node.
pub record BlocksMost (P blocks nodes : ℕ) (t : Sums) : Type 0 where
  pub most : P * blocks ≤ t.waiting + t.stored + P * (1 + 4 * t.leaves + 3 * nodes)
