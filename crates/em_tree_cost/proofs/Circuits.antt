-- The moves of a queue along a circuit's edges, by units of its cost, and the room of an evaluation.
use Rattle.std.proofs.Common.{◌≡◌, ℕ, ◌+◌, ◌*◌, ◌≤◌, arith}
use Rattle.std.proofs.Math.Nat.{mul-le-mul_right, mul-le-mul_left, mul-le-mul}
use Rattle.em_record.specs.Cost.{blocks_of, room}
use Rattle.em_record.specs.Shape.{ShapeNumbers, IsShape}
use Rattle.em_record.proofs.Blocks.{blocks_rise, shares_add}
use Rattle.em_record.proofs.Levels.{lev_rises}
use Rattle.em_tree_cost.specs.Shares.{cost_unit, floors_of, queue_share, tree_room}

-- A queue of at most j times 2 * E calls, 2 * E of them at most between two moments at which it is empty,
-- moves at most 240 * j units.
pub queue_units : (shape : ShapeNumbers) (E j n k : ℕ) → IsShape shape → 1 ≤ j → n ≤ j * (2 * E)
    → k ≤ 2 * E → queue_share shape n k ≤ 240 * j * cost_unit shape E
queue_units shape E j n k is one h l =
    let q = blocks_of shape (2 * E) in let floors = floors_of shape (2 * E) in
    let t = shares_add shape j (2 * E) is in
    let b = blocks_rise shape n (j * (2 * E)) is h in
    let v = lev_rises shape (blocks_of shape k) q is (blocks_rise shape k (2 * E) is l) in
    let m : queue_share shape n k ≤ 240 * (j * q + 1) * floors =
    mul-le-mul {n₁ = 240 * (blocks_of shape n + 1)} {m₁ = floors_of shape k}
    {n₂ = 240 * (j * q + 1)} {m₂ = floors} (omega (arith, b, t)) (omega (arith, v)) in
    let p : (240 * (j * q + 1)) * floors ≤ (240 * (j * (q + 1))) * floors =
    mul-le-mul_right floors (omega arith) in
    omega (arith, m, p)

-- the room of an evaluation: a queue of at most 2 * E calls between two moments at which it is
-- empty, beside chains
pub evaluation_run_room : (shape : ShapeNumbers) (E queue chains : ℕ) → IsShape shape
    → queue ≤ tree_room shape (2 * E)
    → chains ≤ 84 * (blocks_of shape (2 * E) + 1) + 3 * shape.frames
    → queue + chains ≤ room shape (2 * E)
evaluation_run_room shape E queue chains is q c =
    let f = floors_of shape (2 * E) in
    let m : shape.frames * (4 + f) ≤ shape.frames * (2 * (2 + f)) =
    mul-le-mul_left shape.frames (omega arith) in
    omega (arith, q, c, m)
