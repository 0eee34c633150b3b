-- The square root of the fan-out: how many strips a node has.
use Rattle.std.proofs.Common.{◌≡◌, ℕ, zero, suc, ◌+◌, ◌*◌, ◌<◌, ◌≤◌, sym, ◌∙◌, arith, inl, inr}
use Rattle.std.proofs.Math.Nat.{mul-le-mul, mul-le-mul_left, mul-le-mul_right}
use Rattle.std.proofs.lemmas.Bool.{cond-false, cond-true, cases_lt, le-leb, lt-leb}
use Rattle.em_record.specs.Shape.{ShapeNumbers, IsShape, fan_of, payload_of, wide_of}
use Rattle.em_tree_cost.specs.Sizes.{IsSize}
use Rattle.em_tree_cost.proofs.Levels.{fan_wide, size_is}
use Rattle.em_segment_model.specs.Sizes.{IsRoot, Sized, fan_root, root_of, root_within}

root_found : (most n r : ℕ) → r ≤ most → r * r ≤ n → n < (r + 1) * (r + 1) → r ≡ root_within most n
root_found zero n r l low high = omega (arith, l)
root_found (suc most) n r l low high = elim (cases_lt n (suc most * suc most)) [
  | inl less ↦
      let few : r ≤ most = elim (cases_lt most r) [
        | inl more ↦
            let m : suc most * suc most ≤ r * r =
            mul-le-mul {n₁ = suc most} {m₁ = suc most} {n₂ = r} {m₂ = r} (omega (arith, more)) (omega (arith, more)) in
            absurd (omega (arith, m, less, low))
        | inr less_is ↦ less_is
      ] in
      root_found most n r few low high
      ∙ sym (cond-false _ (suc most) (root_within most n) (lt-leb (suc most * suc most) n less))
  | inr fits ↦
      let same : r ≡ suc most = elim (cases_lt r (suc most)) [
        | inl less ↦
            let m : (r + 1) * (r + 1) ≤ suc most * suc most =
            mul-le-mul {n₁ = r + 1} {m₁ = r + 1} {n₂ = suc most} {m₂ = suc most} (omega (arith, less)) (omega (arith, less)) in
            absurd (omega (arith, m, fits, high))
        | inr most_is ↦ omega (arith, most_is, l)
      ] in
      same ∙ sym (cond-true _ (suc most) (root_within most n) (le-leb (suc most * suc most) n fits))
]

-- a number is at most its square
root_below : (r n : ℕ) → r * r ≤ n → r ≤ n
root_below zero n h = omega arith
root_below (suc r) n h =
    let m : suc r * 1 ≤ suc r * suc r = mul-le-mul_left (suc r) (omega arith) in
    omega (arith, m, h)

-- The one number whose square is at most n, while the next one's is more, is the root.
pub root_is : (n r : ℕ) → r * r ≤ n → n < (r + 1) * (r + 1) → r ≡ root_of n
root_is n r low high = root_found n n r (root_below r n low) low high

root_low : (most n : ℕ) → root_within most n * root_within most n ≤ n
root_low zero n = omega arith
root_low (suc most) n = elim (cases_lt n (suc most * suc most)) [
  | inl less ↦
      let e = cond-false _ (suc most) (root_within most n) (lt-leb (suc most * suc most) n less) in
      rw e (root_low most n)
  | inr fits ↦
      let e = cond-true _ (suc most) (root_within most n) (le-leb (suc most * suc most) n fits) in
      rw e fits
]

root_high : (most n : ℕ) → n < (most + 1) * (most + 1)
    → n < (root_within most n + 1) * (root_within most n + 1)
root_high zero n h = h
root_high (suc most) n h = elim (cases_lt n (suc most * suc most)) [
  | inl less ↦
      let e = cond-false _ (suc most) (root_within most n) (lt-leb (suc most * suc most) n less) in
      let same : suc most * suc most ≡ (most + 1) * (most + 1) = omega arith in
      rw e (root_high most n (omega (arith, less, same)))
  | inr fits ↦
      let e = cond-true _ (suc most) (root_within most n) (le-leb (suc most * suc most) n fits) in
      rw e h
]

-- s is from 4 to 16
pub root_sized : (s w B P : ℕ) → IsSize w B P → w ≤ 128 → IsRoot s w → Sized s w B P
root_sized s w B P z n r = record {
  size = z;
  root = r;
  s_low = elim (cases_lt s 4) [
    | inl few ↦
        let m : s * s ≤ 3 * s = mul-le-mul_right s (omega (arith, few)) in
        absurd (omega (arith, r.high, z.wide, m, few))
    | inr many ↦ many
  ];
  s_high = elim (cases_lt 16 s) [
    | inl many ↦
        let m : 17 * 17 ≤ s * s = mul-le-mul {n₁ = 17} {m₁ = 17} {n₂ = s} {m₂ = s} (omega (arith, many)) (omega (arith, many)) in
        absurd (omega (arith, r.low, n, m))
    | inr few ↦ few
  ];
}

-- The number of strips is the root of the fan-out, from 4 to 16.
pub fan_root_is : (shape : ShapeNumbers) → IsShape shape → IsRoot (fan_root shape) (wide_of shape)
fan_root_is shape is =
    let f = fan_wide shape is in
    let n = fan_of shape in
    let low = root_low n n in
    let wide : n + 1 ≤ (n + 1) * (n + 1) =
    let m : 1 * (n + 1) ≤ (n + 1) * (n + 1) = mul-le-mul_right (n + 1) (omega arith) in omega (arith, m) in
    let high = root_high n n (omega (arith, wide)) in
    record { low = omega (arith, f, low); high = omega (arith, f, high) }

pub shape_sized : (shape : ShapeNumbers) → IsShape shape
    → Sized (fan_root shape) (wide_of shape) shape.block (payload_of shape)
shape_sized shape is =
    root_sized (fan_root shape) (wide_of shape) shape.block (payload_of shape) (size_is shape is)
    (omega (arith, is.frames_high)) (fan_root_is shape is)
