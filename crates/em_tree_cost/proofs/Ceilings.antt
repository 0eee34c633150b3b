-- Blocks that records fill: a ceiling as a number with two bounds.
use Rattle.std.proofs.Common.{◌≡◌, ℕ, zero, suc, ◌+◌, ◌-◌, ◌*◌, ◌/◌, ◌<◌, ◌≤◌, refl, arith, ◌⊎◌, inl, inr}
use Rattle.std.proofs.lemmas.Bool.{cases_lt}
use Rattle.std.proofs.lemmas.Grind.{div_ceil_times}
use Rattle.std.proofs.Math.Nat.{mul-le-mul_right, mul-le-mul_left}
use Rattle.std.specs.Int.{div_ceil}
use Rattle.em_record.specs.Cost.{blocks_of}
use Rattle.em_record.specs.Shape.{ShapeNumbers, IsShape}
use Rattle.em_record.proofs.Blocks.{ceil_least}
use Rattle.em_tree_cost.specs.Sizes.{IsCeil}

-- `div_ceil` is the least number of blocks
pub ceil_is : (x P : ℕ) → 0 < P → IsCeil (div_ceil x P) P x
ceil_is x P some = let d = div_ceil_times x P some in record { holds = d.0; tight = d.1 }

-- A number of blocks that holds x is no less.
pub ceil_most : (c P x d : ℕ) → IsCeil c P x → x ≤ d * P → c ≤ d
ceil_most c P x d i h = elim (cases_lt d c) [
  | inl more ↦
      let t : suc d * P ≤ c * P = mul-le-mul_right P more in
      absurd (omega (arith, i.tight, h, t))
  | inr most ↦ most
]

pub ceil_mono : (c d P x y : ℕ) → IsCeil c P x → IsCeil d P y → x ≤ y → c ≤ d
ceil_mono c d P x y i j h = ceil_most c P x d i (omega (arith, j.holds))

pub ceil_add : (c d e P x y : ℕ) → IsCeil c P x → IsCeil d P y → IsCeil e P (x + y) → e ≤ c + d
ceil_add c d e P x y i j k = ceil_most e P (x + y) (c + d) k (omega (arith, i.holds, j.holds))

-- All blocks but the last have at least `low` records, if that is at most P.
pub ceil_low : (c P x low : ℕ) → IsCeil c P x → low ≤ P → c * low < x + low ⊎ (c ≡ 0)
ceil_low zero P x low i h = inr refl
ceil_low (suc c) P x low i h =
    let t : c * low ≤ c * P = mul-le-mul_left c h in
    inl (omega (arith, i.tight, t))

-- the blocks that records fill
pub blocks_ceil : (shape : ShapeNumbers) (n : ℕ) → IsShape shape
    → IsCeil (blocks_of shape n) shape.block n
blocks_ceil shape n is = ceil_is n shape.block (omega (arith, is.block_low))

pub blocks_add : (shape : ShapeNumbers) (m n : ℕ) → IsShape shape
    → blocks_of shape (m + n) ≤ blocks_of shape m + blocks_of shape n
blocks_add shape m n is =
    ceil_add _ _ _ shape.block m n (blocks_ceil shape m is) (blocks_ceil shape n is)
    (blocks_ceil shape (m + n) is)

pub blocks_most : (shape : ShapeNumbers) (n b : ℕ) → IsShape shape → n ≤ b * shape.block
    → blocks_of shape n ≤ b
blocks_most shape n b is h = ceil_least n shape.block b (omega (arith, is.block_low)) h

-- `ceiling` of em_chain is the least number of blocks.
pub ceiling_is : (n p : ℕ) → 0 < p → IsCeil ((n + p - 1) / p) p n
ceiling_is n p some = record { holds = omega arith; tight = omega arith }

-- No record fills no block.
pub ceil_none : (P : ℕ) → 0 < P → IsCeil 0 P 0
ceil_none P some = record { holds = omega arith; tight = omega arith }

-- With one record more a block begins, or none.
pub ceil_next : (c d P x : ℕ) → IsCeil c P x → IsCeil d P (x + 1) → 0 < P → (d ≡ c) ⊎ (d ≡ c + 1)
ceil_next c d P x i j some =
    let a = ceil_mono c d P x (x + 1) i j (omega arith) in
    let b = ceil_most d P (x + 1) (c + 1) j (omega (arith, i.holds, some)) in
    elim (cases_lt c d) [
      | inl more ↦ inr (omega (arith, a, b))
      | inr none ↦ inl (omega (arith, a))
    ]
