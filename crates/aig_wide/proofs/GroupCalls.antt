-- The blocks that the calls of a group fill, and the levels over them, where E is the circuit's size.
use Rattle.std.proofs.Common.{◌≡◌, ℕ, ◌+◌, ◌*◌, ◌≤◌, zero, suc, refl, arith}
use Rattle.std.proofs.Math.Nat.{mul-le-mul_left}
use Rattle.std.specs.Int.{div_ceil}
use Rattle.em_record.specs.Cost.{blocks_of, lev}
use Rattle.em_record.specs.Shape.{IsShape, ShapeNumbers, fan_of}
use Rattle.em_record.proofs.Blocks.{ceil_holds, ceil_least}
use Rattle.em_record.proofs.Levels.{lev-more, lev_rises}
use Rattle.em_tree_cost.specs.Shares.{floors_of}

-- the calls of a group are few: they fill at most twice as many blocks as 2E records, and two
-- more
pub calls_blocks : (shape : ShapeNumbers) (size : ℕ) → IsShape shape
    → blocks_of shape (4 * size + 252) ≤ 2 * blocks_of shape (2 * size) + 2
calls_blocks shape size is =
    let q = blocks_of shape (2 * size) in
    let low = is.block_low in
    let holds = ceil_holds (2 * size) shape.block (omega (arith, low)) in
    ceil_least (4 * size + 252) shape.block (2 * q + 2) (omega (arith, low))
    (parts (2 * size) (4 * size) q shape.block low holds (omega arith))
  where
    parts : (n m q b : ℕ) → 128 ≤ b → n ≤ q * b → m ≡ 2 * n → m + 252 ≤ (2 * q + 2) * b
    parts n m q b low holds e = omega (arith, low, holds, e)

-- this many blocks and two fit where q of them do, a level down
fits : (q fan : ℕ) → 16 ≤ fan → 2 * suc q + 2 ≤ suc q * fan
fits q fan low =
    let more : suc q * 16 ≤ suc q * fan = mul-le-mul_left (suc q) low in omega (arith, more)

-- and so they have at most one level more
pub level_more : (shape : ShapeNumbers) (q : ℕ) → IsShape shape
    → lev shape (2 * q + 2) ≤ 1 + lev shape q
level_more shape zero is =
    let fan : 16 ≤ fan_of shape = omega (arith, is.frames_low) in
    let step = lev-more shape 2 2 0 (div_ceil 2 (fan_of shape)) is (omega arith) refl (omega arith) in
    let part : div_ceil 2 (fan_of shape) ≤ 1 = ceil_least 2 (fan_of shape) 1 (omega (arith, fan))
    (omega (arith, fan)) in
    let fewer = lev_rises shape (div_ceil 2 (fan_of shape)) 1 is part in
    let none : lev shape 1 ≡ 0 = refl in
    omega (arith, step, fewer, none)
level_more shape (suc q) is =
    let fan : 16 ≤ fan_of shape = omega (arith, is.frames_low) in
    let most = 2 * suc q + 2 in
    let step = lev-more shape most most 0 (div_ceil most (fan_of shape)) is (omega arith) refl
    (omega arith) in
    let part : div_ceil most (fan_of shape) ≤ suc q =
    ceil_least most (fan_of shape) (suc q) (omega (arith, fan)) (fits q (fan_of shape) fan) in
    let fewer = lev_rises shape (div_ceil most (fan_of shape)) (suc q) is part in
    omega (arith, step, fewer)

-- so that they have at most one level more
pub calls_floors : (shape : ShapeNumbers) (size : ℕ) → IsShape shape
    → floors_of shape (4 * size + 252) ≤ 2 * floors_of shape (2 * size)
calls_floors shape size is =
    let q = blocks_of shape (2 * size) in
    let few = lev_rises shape (blocks_of shape (4 * size + 252)) (2 * q + 2) is
    (calls_blocks shape size is) in
    let more = level_more shape q is in
    omega (arith, few, more)
