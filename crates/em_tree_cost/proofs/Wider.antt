-- How levels, blocks and chains grow with the number of records.
use Rattle.std.proofs.Common.{ℕ, ◌+◌, ◌*◌, ◌≤◌, arith, inl, inr, max}
use Rattle.std.proofs.Math.Nat.{mul-le-mul_right, mul-le-mul_left}
use Rattle.std.proofs.lemmas.Bool.{cases_lt}
use Rattle.std.specs.Int.{div_ceil}
use Rattle.em_record.specs.Cost.{blocks_of, lev}
use Rattle.em_record.specs.Shape.{ShapeNumbers, IsShape, fan_of, payload_of}
use Rattle.em_record.proofs.Blocks.{ceil_least}
use Rattle.em_record.proofs.Levels.{lev_rises}
use Rattle.em_tree_cost.specs.Shares.{chain_share, floors_of}
use Rattle.em_tree_cost.proofs.Ceilings.{blocks_ceil, blocks_most}
use Rattle.em_tree_cost.proofs.Levels.{lev_few, lev_next}

-- Up to `fan` times as many blocks have one level more at most.
pub lev_wider : (shape : ShapeNumbers) (x y : ℕ) → IsShape shape → y ≤ max 1 x * fan_of shape
    → lev shape y ≤ 1 + lev shape x
lev_wider shape x y is h = elim (cases_lt 1 y) [
  | inl more ↦
      let fan = fan_of shape in
      let s = lev_next shape y is more in
      let c = ceil_least y fan (max 1 x) (omega (arith, is.frames_low)) h in
      let m = lev_rises shape (div_ceil y fan) (max 1 x) is c in
      let n : lev shape (max 1 x) ≤ lev shape x = elim (cases_lt 0 x) [
        | inl some ↦ lev_rises shape (max 1 x) x is (omega arith)
        | inr none ↦ let z = lev_few shape (max 1 x) is (omega arith) in omega arith
      ] in
      omega (arith, s, m, n)
  | inr few ↦ let z = lev_few shape y is few in omega arith
]

-- Up to sixteen times as many blocks have one floor more at most.
pub floors_next : (shape : ShapeNumbers) (n k : ℕ) → IsShape shape
    → blocks_of shape k ≤ max 1 (blocks_of shape n) * 16 → floors_of shape k ≤ 1 + floors_of shape n
floors_next shape n k is h =
    let q = max 1 (blocks_of shape n) in
    let wide : 16 ≤ fan_of shape = omega (arith, is.frames_low) in
    let m : q * 16 ≤ q * fan_of shape = mul-le-mul_left q wide in
    let l = lev_wider shape (blocks_of shape n) (blocks_of shape k) is (omega (arith, m, h)) in
    omega (arith, l)

-- Up to eight times as many records, and eight, have at most twice the floors.
pub floors_wider : (shape : ShapeNumbers) (n k : ℕ) → IsShape shape → k ≤ 8 * n + 8
    → floors_of shape k ≤ 2 * floors_of shape n
floors_wider shape n k is h =
    let q = max 1 (blocks_of shape n) in
    let c = blocks_ceil shape n is in
    let b : 1 * shape.block ≤ q * shape.block = mul-le-mul_right shape.block (omega arith) in
    let e : blocks_of shape n * shape.block ≤ q * shape.block =
    mul-le-mul_right shape.block (omega arith) in
    let d = blocks_most shape k (q * 16) is (omega (arith, h, c.holds, b, e, is.block_low)) in
    let f = floors_next shape n k is d in
    omega (arith, f)

-- j times as many records, and two, fill at most j times as many blocks, and one.
pub blocks_wider : (shape : ShapeNumbers) (j n k : ℕ) → IsShape shape → k ≤ j * n + 2
    → blocks_of shape k ≤ j * blocks_of shape n + 1
blocks_wider shape j n k is h =
    let c = blocks_ceil shape n is in
    let m : j * n ≤ j * (blocks_of shape n * shape.block) = mul-le-mul_left j c.holds in
    blocks_most shape k (j * blocks_of shape n + 1) is (omega (arith, h, m, is.block_low))

-- A chain has at most two blocks for each that its records fill.
pub chain_most : (shape : ShapeNumbers) (n : ℕ) → IsShape shape
    → chain_share shape n ≤ 8 * (blocks_of shape n + 1)
chain_most shape n is =
    let P = payload_of shape in let q = blocks_of shape n in
    let c = blocks_ceil shape n is in
    let p : q * shape.block ≤ q * (2 * P) = mul-le-mul_left q (omega (arith, is.block_low)) in
    let some : 1 ≤ P = omega (arith, is.block_low) in
    let d = ceil_least n P (2 * q) some (omega (arith, c.holds, p)) in
    omega (arith, d)
