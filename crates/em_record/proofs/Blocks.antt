-- A division rounded up, and the blocks that records fill.
use Rattle.std.proofs.Common.{ℕ, suc, ◌*◌, ◌<◌, ◌≤◌, arith, inl, inr}
use Rattle.std.proofs.lemmas.Bool.{cases_lt}
use Rattle.std.proofs.lemmas.Grind.{div_ceil_times}
use Rattle.std.proofs.Math.Nat.{mul-le-mul_left, mul-le-mul_right, mul_assoc}
use Rattle.std.specs.Int.{div_ceil}
use Rattle.em_record.specs.Cost.{blocks_of}
use Rattle.em_record.specs.Shape.{ShapeNumbers, IsShape}

-- this many parts hold x
pub ceil_holds : (x part : ℕ) → 0 < part → x ≤ div_ceil x part * part
ceil_holds x part some = (div_ceil_times x part some).0

-- a number of parts that holds x is no less
pub ceil_least : (x part n : ℕ) → 0 < part → x ≤ n * part → div_ceil x part ≤ n
ceil_least x part n some h = elim (cases_lt n (div_ceil x part)) [
  | inl more ↦
      let times : suc n * part ≤ div_ceil x part * part = mul-le-mul_right part more in
      let tight = (div_ceil_times x part some).1 in
      absurd (omega (arith, h, times, tight))
  | inr most ↦ most
]

pub ceil_rises : (x y part : ℕ) → 0 < part → x ≤ y → div_ceil x part ≤ div_ceil y part
ceil_rises x y part some h =
    let holds = ceil_holds y part some in
    ceil_least x part (div_ceil y part) some (omega (arith, h, holds))

-- More records fill no fewer blocks.
pub blocks_rise : (s : ShapeNumbers) (m n : ℕ) → IsShape s → m ≤ n → blocks_of s m ≤ blocks_of s n
blocks_rise s m n is h = ceil_rises m n s.block (omega (arith, is.block_low)) h

-- The blocks of a number of equal shares are at most as many as these fill one by one.
pub shares_add : (s : ShapeNumbers) (shares n : ℕ) → IsShape s
    → blocks_of s (shares * n) ≤ shares * blocks_of s n
shares_add s shares n is =
    let some : 0 < s.block = omega (arith, is.block_low) in
    let each : shares * n ≤ shares * (blocks_of s n * s.block) =
    mul-le-mul_left shares (ceil_holds n s.block some) in
    ceil_least (shares * n) s.block (shares * blocks_of s n) some
    (rw (mul_assoc shares (blocks_of s n) s.block) each)
