-- The blocks of a tree, by the sums of its outline.
use Rattle.std.proofs.Common.{ℕ, ◌+◌, ◌*◌, ◌≤◌, arith}
use Rattle.std.proofs.Math.Nat.{mul-le-mul_left}
use Rattle.em_tree_cost.specs.Held.{BlocksMost, HeldBelow}
use Rattle.em_tree_cost.specs.Held.HeldBelow.{end_blocks, entry_blocks, leaf_blocks}
use Rattle.em_tree_cost.specs.Outline.{Outline, inner_of, leaves_of, node_of, stored_of, sums_of, waiting_of}
use Rattle.em_tree_cost.specs.Outline.Outline.{end, entry, leaf}
use Rattle.em_tree_cost.specs.Sizes.{IsCeil}

-- a leaf or a node is at most one node
node_of_most : (t : Outline) → node_of t ≤ 1
node_of_most (leaf n) = omega arith
node_of_most end = omega arith
node_of_most (entry b c r) = omega arith

-- all blocks below a row, and two more for itself
held_below : (P k : ℕ) (t : Outline) → HeldBelow P k t
    → P * k + 2 * P
    ≤ waiting_of t + stored_of t + P * (4 * leaves_of t + 3 * inner_of t) + 2 * P * node_of t
held_below P k (leaf n) (leaf_blocks d k2 i e) = rw e (omega (arith, i.tight))
held_below P k end end_blocks = omega arith
held_below P k (entry b c r) (entry_blocks {i = i} {j = j} d h p q e) =
    let x = held_below P i c p in let y = held_below P j r q in
    let m : P * node_of r ≤ P * 1 = mul-le-mul_left P (node_of_most r) in
    rw e (omega (arith, x, y, m, h))

-- all blocks of a tree: the root's, k below it, and e of the root's buffer of x operations
pub held_whole : (P half level x e k : ℕ) (t : Outline) → HeldBelow P k t → IsCeil e P x
    → BlocksMost P (1 + k + e) (1 + inner_of t) (sums_of half level t x e)
held_whole P half level x e k t b i =
    let h = held_below P k t b in
    let m : P * node_of t ≤ P * 1 = mul-le-mul_left P (node_of_most t) in
    record { most = omega (arith, h, m, i.tight) }
