-- Laws of `lev` and of the numbers of a shape.
use Rattle.std.proofs.Common.{◌≡◌, ℕ, zero, suc, ◌+◌, ◌*◌, ◌^◌, ◌<◌, ◌≤◌, refl, arith, inl, inr}
use Rattle.std.proofs.lemmas.Bool.{cases_lt}
use Rattle.std.proofs.Math.Nat.{mul-le-mul_left, mul-le-mul_right, le_of_mul-le-mul_right, one-le-pow, pow-suc, pow-zero, pow-le-pow_left}
use Rattle.std.specs.Int.{div_ceil}
use Rattle.em_record.specs.Cost.{blocks_of, lev}
use Rattle.em_record.specs.Shape.{ShapeNumbers, IsShape, fan_of, wide_of, payload_of}
use Rattle.em_record.proofs.Levels.{lev_rises, lev_within-step}
use Rattle.em_tree_cost.specs.Sizes.{IsCeil, IsSize}
use Rattle.em_tree_cost.proofs.Ceilings.{blocks_ceil, ceil_is, ceil_most}

-- the numbers of a shape, by the frames of an area
pub frames_wide : (shape : ShapeNumbers) → IsShape shape → shape.frames ≡ 8 * wide_of shape
frames_wide shape is = omega (arith, is.frames_multiple)

pub fan_wide : (shape : ShapeNumbers) → IsShape shape → fan_of shape ≡ 2 * wide_of shape
fan_wide shape is = omega (arith, is.frames_multiple)

pub size_is : (shape : ShapeNumbers) → IsShape shape
    → IsSize (wide_of shape) shape.block (payload_of shape)
size_is shape is = record {
  wide = omega (arith, is.frames_low, is.frames_multiple);
  narrow = omega (arith, is.frames_within, is.frames_multiple);
  payload = omega (arith, is.block_low);
}

-- At most one block has no level.
pub lev_few : (shape : ShapeNumbers) (x : ℕ) → IsShape shape → x ≤ 1 → lev shape x ≡ 0
lev_few shape x is h = let r : lev shape x ≤ 0 = lev_rises shape x 1 is h in omega (arith, r)

-- A division, rounded up, is one level.
pub lev_next : (shape : ShapeNumbers) (x : ℕ) → IsShape shape → 1 < x
    → lev shape x ≡ 1 + lev shape (div_ceil x (fan_of shape))
lev_next shape x is h =
    lev_within-step (fan_of shape) x h (omega (arith, is.frames_low))

fan_ceil : (shape : ShapeNumbers) (x : ℕ) → IsShape shape
    → IsCeil (div_ceil x (fan_of shape)) (fan_of shape) x
fan_ceil shape x is = ceil_is x (fan_of shape) (omega (arith, is.frames_low))

-- A number of at most this power of the fan-out has at most that many levels.
pub lev_most : (shape : ShapeNumbers) (r x : ℕ) → IsShape shape → x ≤ fan_of shape ^ r
    → lev shape x ≤ r
lev_most shape zero x is h =
    let one = pow-zero (fan_of shape) in
    let e = lev_few shape x is (omega arith) in omega arith
lev_most shape (suc r) x is h = elim (cases_lt 1 x) [
  | inl more ↦
      let e = pow-suc (fan_of shape) r in
      let c = fan_ceil shape x is in
      let low = ceil_most (div_ceil x (fan_of shape)) (fan_of shape) x (fan_of shape ^ r) c
      (omega (arith, e, h)) in
      let ih = lev_most shape r (div_ceil x (fan_of shape)) is low in
      let s = lev_next shape x is more in
      omega arith
  | inr most ↦ let e = lev_few shape x is most in omega arith
]

-- Two blocks have a level.
pub lev_some : (shape : ShapeNumbers) (x : ℕ) → IsShape shape → 1 < x → 1 ≤ lev shape x
lev_some shape x is h = let s = lev_next shape x is h in omega arith

-- A number above this power of the fan-out has more levels.
lev_above : (shape : ShapeNumbers) (r x : ℕ) → IsShape shape → fan_of shape ^ r + 1 ≤ x → suc r ≤ lev shape x
lev_above shape zero x is h =
    let one = pow-zero (fan_of shape) in
    let s = lev_some shape x is (omega (arith, h, one)) in omega (arith, s)
lev_above shape (suc r) x is h =
    let e = pow-suc (fan_of shape) r in
    let c = fan_ceil shape x is in
    let up = div_ceil x (fan_of shape) in
    let one : 1 ≤ fan_of shape ^ r = one-le-pow r (fan_of shape) (omega (arith, is.frames_low)) in
    let m : fan_of shape * 1 ≤ fan_of shape * fan_of shape ^ r = mul-le-mul_left (fan_of shape) one in
    let more : 1 < x = omega (arith, h, e, m, is.frames_low) in
    let low : fan_of shape ^ r + 1 ≤ up = elim (cases_lt (fan_of shape ^ r) up) [
      | inl less ↦ omega (arith, less)
      | inr most ↦
          let n : up * fan_of shape ≤ fan_of shape ^ r * fan_of shape = mul-le-mul_right (fan_of shape) most in
          absurd (omega (arith, n, c.holds, h, e))
    ] in
    let ih = lev_above shape r up is low in
    let s = lev_next shape x is more in
    omega (arith, s, ih)

-- If a root of a level needs half of B * f ^ level records, its level is at most `lev` of the blocks of k, or 1.
pub root_height : (shape : ShapeNumbers) (r k : ℕ) → IsShape shape → shape.block * fan_of shape ^ suc r ≤ 2 * k
    → suc r ≤ lev shape (blocks_of shape k)
root_height shape r k is h =
    let X = fan_of shape ^ r in
    let B = shape.block in
    let e = pow-suc (fan_of shape) r in
    let one : 1 ≤ X = one-le-pow r (fan_of shape) (omega (arith, is.frames_low)) in
    let c = blocks_ceil shape k is in
    let wide : 16 * X ≤ fan_of shape * X = mul-le-mul_right X (omega (arith, is.frames_low)) in
    let all : B * (16 * X) ≤ B * fan_of shape ^ suc r = mul-le-mul_left B (omega (arith, wide, e)) in
    let t : 8 * X * B ≤ blocks_of shape k * B = omega (arith, all, c.holds, h) in
    let low : 8 * X ≤ blocks_of shape k = le_of_mul-le-mul_right t (omega (arith, is.block_low)) in
    lev_above shape r (blocks_of shape k) is (omega (arith, low, one))

-- Up to 2 ^ 103 operations have at most 24 levels.
pub levels_most : (shape : ShapeNumbers) (k : ℕ) → IsShape shape → k ≤ 2 ^ 103
    → lev shape (blocks_of shape k) ≤ 24
levels_most shape k is h =
    let wide : 16 ≤ fan_of shape = omega (arith, is.frames_low) in
    let p : 16 ^ 24 ≤ fan_of shape ^ 24 = pow-le-pow_left wide 24 in
    let m : fan_of shape ^ 24 * 128 ≤ fan_of shape ^ 24 * shape.block =
    mul-le-mul_left (fan_of shape ^ 24) is.block_low in
    let e : 16 ^ 24 * 128 ≡ 2 ^ 103 = refl in
    lev_most shape 24 (blocks_of shape k) is
    (ceil_most _ shape.block k (fan_of shape ^ 24) (blocks_ceil shape k is) (omega arith))
