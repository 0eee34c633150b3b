-- The levels of nodes over some points: how often they are divided by the number of strips until an area holds
-- them. There are at most three for each level of a tree of the shape's fan-out.
use Rattle.std.proofs.Common.{◌≡◌, ℕ, zero, suc, ◌+◌, ◌-◌, ◌*◌, ◌^◌, ◌<◌, ◌≤◌, refl, sym, ap, ◌∙◌, arith, inl, inr, add-one}
use Rattle.std.proofs.Math.Nat.{mul-le-mul, mul-le-mul_left, mul-le-mul_right, pow-suc, pow-zero}
use Rattle.std.proofs.lemmas.Bool.{cond-false, cond-true, cases_lt, le-leb, lt-leb}
use Rattle.std.specs.Int.{div_ceil}
use Rattle.em_record.specs.Cost.{blocks_of, lev}
use Rattle.em_record.specs.Shape.{ShapeNumbers, IsShape, fan_of, wide_of, payload_of}
use Rattle.em_record.proofs.Blocks.{ceil_rises}
use Rattle.em_record.proofs.Levels.{next-less}
use Rattle.em_tree_cost.specs.Sizes.{IsCeil}
use Rattle.em_tree_cost.proofs.Ceilings.{blocks_ceil, ceil_is, ceil_most}
use Rattle.em_tree_cost.proofs.Levels.{fan_wide, lev_few, lev_next}
use Rattle.em_segment_model.specs.Sizes.{Sized, fan_root, strip_levels, strip_levels_within}
use Rattle.em_segment_model.proofs.Roots.{shape_sized}

-- the points that an area holds
abbrev load_of : ShapeNumbers → ℕ
load_of shape = wide_of shape * shape.block

load_some : (shape : ShapeNumbers) → IsShape shape → 1 < load_of shape
load_some shape is =
    let z = (shape_sized shape is).size in
    let m : 8 * shape.block ≤ wide_of shape * shape.block = mul-le-mul_right shape.block z.wide in
    omega (arith, m, is.block_low)

-- A strip has fewer points than its node.
pub strip_less : (s n : ℕ) → 4 ≤ s → 1 < n → div_ceil n s < n
strip_less s n wide some =
    let m : (n - 1) * 4 ≤ (n - 1) * s = mul-le-mul_left (n - 1) wide in
    let c = ceil_most (div_ceil n s) s n (n - 1) (ceil_is n s (omega (arith, wide))) (omega (arith, m, some)) in
    omega (arith, c, some)

-- Strips of at most the points of X, divided by s and rounded up, are at most s, if all but one are full.
pub strips_most : (s X z : ℕ) → 4 ≤ s → z * div_ceil X s < X + div_ceil X s → z ≤ s
strips_most s X z wide h = elim (cases_lt s z) [
  | inl more ↦
      let c = ceil_is X s (omega (arith, wide)) in
      let m : suc s * div_ceil X s ≤ z * div_ceil X s = mul-le-mul_right (div_ceil X s) more in
      absurd (omega (arith, c.holds, m, h))
  | inr most ↦ most
]

levels_enough : (most more : ℕ) (shape : ShapeNumbers) (n : ℕ) → IsShape shape → n ≤ most → n ≤ more
    → strip_levels_within most shape n ≡ strip_levels_within more shape n
levels_enough zero zero shape n is a b = refl
levels_enough zero (suc more) shape n is a b =
    sym (cond-true _ _ _ (le-leb n (load_of shape) (omega (arith, a))))
levels_enough (suc most) zero shape n is a b =
    cond-true _ _ _ (le-leb n (load_of shape) (omega (arith, b)))
levels_enough (suc most) (suc more) shape n is a b = elim (cases_lt (load_of shape) n) [
  | inl many ↦
      let some = load_some shape is in
      let less = strip_less (fan_root shape) n (shape_sized shape is).s_low (omega (arith, some, many)) in
      let same = levels_enough most more shape (div_ceil n (fan_root shape)) is
      (omega (arith, less, a)) (omega (arith, less, b)) in
      cond-false _ _ _ (lt-leb n (load_of shape) many) ∙ ap (λ k. 1 + k) same
      ∙ sym (cond-false _ _ _ (lt-leb n (load_of shape) many))
  | inr few ↦
      cond-true _ _ _ (le-leb n (load_of shape) few)
      ∙ sym (cond-true _ _ _ (le-leb n (load_of shape) few))
]

-- Points that an area holds are a leaf.
pub levels_few : (shape : ShapeNumbers) (n : ℕ) → n ≤ wide_of shape * shape.block
    → strip_levels shape n ≡ 0
levels_few shape zero h = refl
levels_few shape (suc n) h = cond-true _ _ _ (le-leb (suc n) (load_of shape) h)

-- More points have a level of strips.
pub levels_next : (shape : ShapeNumbers) (n : ℕ) → IsShape shape → wide_of shape * shape.block < n
    → strip_levels shape n ≡ 1 + strip_levels shape (div_ceil n (fan_root shape))
levels_next shape zero is h = absurd (omega (arith, h))
levels_next shape (suc n) is h =
    let some = load_some shape is in
    let less = strip_less (fan_root shape) (suc n) (shape_sized shape is).s_low (omega (arith, some, h)) in
    cond-false _ _ _ (lt-leb (suc n) (load_of shape) h)
    ∙ ap (λ k. 1 + k)
    (levels_enough n (div_ceil (suc n) (fan_root shape)) shape (div_ceil (suc n) (fan_root shape)) is
    (omega (arith, less)) (omega arith))

rise_within : (shape : ShapeNumbers) (most x y : ℕ) → IsShape shape → y ≤ most → x ≤ y
    → strip_levels shape x ≤ strip_levels shape y
rise_within shape zero x y is l h =
    let e = levels_few shape x (omega (arith, l, h)) in omega (arith, e)
rise_within shape (suc most) x y is l h = elim (cases_lt (load_of shape) x) [
  | inl many ↦
      let some = load_some shape is in
      let wide = (shape_sized shape is).s_low in
      let s = fan_root shape in
      let less = strip_less s y wide (omega (arith, some, many, h)) in
      let up = ceil_rises x y s (omega (arith, wide)) h in
      let r = rise_within shape most (div_ceil x s) (div_ceil y s) is (omega (arith, less, l)) up in
      let e = levels_next shape x is many in
      let f = levels_next shape y is (omega (arith, many, h)) in
      omega (arith, r, e, f)
  | inr few ↦ let e = levels_few shape x few in omega (arith, e)
]

-- Fewer points have no more levels.
pub levels_rise : (shape : ShapeNumbers) (x y : ℕ) → IsShape shape → x ≤ y
    → strip_levels shape x ≤ strip_levels shape y
levels_rise shape x y is h = rise_within shape y x y is (omega arith) h

-- A child has a level less: X points are at most w * B * s ^ r of them.
pub child_level : (s w B P r X x : ℕ) → Sized s w B P → X ≤ w * B * s ^ (r + 1) → IsCeil x s X
    → x ≤ w * B * s ^ r
child_level s w B P r X x z h c =
    let e : s ^ (r + 1) ≡ s ^ r * s = rw add-one (pow-suc s r) in
    let f : w * B * s ^ (r + 1) ≡ w * B * (s ^ r * s) = ap (λ k. w * B * k) e in
    ceil_most x s X (w * B * s ^ r) c (omega (arith, h, f))

-- r levels are enough for an area's points times the r-th power of the number of strips.
pub levels_most : (shape : ShapeNumbers) (r n : ℕ) → IsShape shape
    → n ≤ wide_of shape * shape.block * fan_root shape ^ r → strip_levels shape n ≤ r
levels_most shape zero n is h =
    let o = ap (λ k. wide_of shape * shape.block * k) (pow-zero (fan_root shape)) in
    let e = levels_few shape n (omega (arith, h, o)) in omega (arith, e)
levels_most shape (suc r) n is h = elim (cases_lt (load_of shape) n) [
  | inl many ↦
      let z = shape_sized shape is in
      let s = fan_root shape in
      let a : wide_of shape * shape.block * s ^ suc r ≡ wide_of shape * shape.block * s ^ (r + 1) =
      ap (λ j. wide_of shape * shape.block * s ^ j) (sym (add-one r)) in
      let c = child_level s (wide_of shape) shape.block (payload_of shape) r n (div_ceil n s) z
      (omega (arith, h, a)) (ceil_is n s (omega (arith, z.s_low))) in
      let i = levels_most shape r (div_ceil n s) is c in
      let e = levels_next shape n is many in
      omega (arith, i, e)
  | inr few ↦ let e = levels_few shape n few in omega (arith, e)
]

-- Three divisions by the number of strips are one by the fan-out.
pub root_cubed : (s w B P : ℕ) → Sized s w B P → 2 * w ≤ s * s * s
root_cubed s w B P z =
    let a : (s * s) * 4 ≤ (s * s) * s = mul-le-mul_left (s * s) z.s_low in
    let b : 4 * s ≤ s * s = mul-le-mul_right s z.s_low in
    let h = z.root.high in
    omega (arith, a, b, h)

cube_pow : (s w l : ℕ) → 2 * w ≤ s * s * s → (2 * w) ^ l ≤ s ^ (3 * l)
cube_pow s w zero h = omega (arith, pow-zero (2 * w), pow-zero s)
cube_pow s w (suc l) h =
    let a = cube_pow s w l h in
    let e = pow-suc (2 * w) l in
    let t : 3 * suc l ≡ suc (suc (suc (3 * l))) = omega arith in
    let f : s ^ (3 * suc l) ≡ s ^ (3 * l) * s * s * s =
    ap (λ k. s ^ k) t ∙ pow-suc s (suc (suc (3 * l)))
    ∙ ap (λ k. k * s) (pow-suc s (suc (3 * l))) ∙ ap (λ k. k * s * s) (pow-suc s (3 * l)) in
    let m : (2 * w) ^ l * (2 * w) ≤ s ^ (3 * l) * (s * s * s) =
    mul-le-mul {n₁ = (2 * w) ^ l} {m₁ = 2 * w} {n₂ = s ^ (3 * l)} {m₂ = s * s * s} a h in
    omega (arith, e, f, m)

-- the points of q blocks, if q is at most the l-th power of the fan-out
root_level : (s w B P l q X : ℕ) → Sized s w B P → q ≤ (2 * w) ^ l → X ≤ q * B
    → X ≤ w * B * s ^ (3 * l)
root_level s w B P l q X z h x =
    let c = cube_pow s w l (root_cubed s w B P z) in
    let sz = z.size in let wide = sz.wide in
    let a : q * B ≤ s ^ (3 * l) * B = mul-le-mul_right B (omega (arith, h, c)) in
    let b : 1 * (B * s ^ (3 * l)) ≤ w * (B * s ^ (3 * l)) =
    mul-le-mul_right (B * s ^ (3 * l)) (omega (arith, wide)) in
    omega (arith, x, a, b)

-- `lev` divisions by the fan-out are enough.
pub lev_reach : (shape : ShapeNumbers) (n x : ℕ) → IsShape shape → x ≤ n → x ≤ fan_of shape ^ lev shape x
lev_reach shape zero x is h = omega (arith, h)
lev_reach shape (suc n) x is h = elim (cases_lt 1 x) [
  | inl more ↦
      let s = lev_next shape x is more in
      let wide : 16 ≤ fan_of shape = omega (arith, is.frames_low) in
      let c = ceil_is x (fan_of shape) (omega (arith, wide)) in
      let u = c.holds in
      let nl = next-less shape x (div_ceil x (fan_of shape)) is more refl in
      let r = lev_reach shape n (div_ceil x (fan_of shape)) is (omega (arith, nl, h)) in
      let m : div_ceil x (fan_of shape) * fan_of shape
      ≤ fan_of shape ^ lev shape (div_ceil x (fan_of shape)) * fan_of shape =
      mul-le-mul_right (fan_of shape) r in
      let e : fan_of shape ^ lev shape x ≡ fan_of shape ^ lev shape (div_ceil x (fan_of shape)) * fan_of shape =
      ap (λ k. fan_of shape ^ k) (s ∙ one_more (lev shape (div_ceil x (fan_of shape))))
      ∙ pow-suc (fan_of shape) (lev shape (div_ceil x (fan_of shape))) in
      omega (arith, u, m, e)
  | inr few ↦
      let z = lev_few shape x is few in
      let e : fan_of shape ^ lev shape x ≡ 1 = ap (λ k. fan_of shape ^ k) z ∙ pow-zero (fan_of shape) in
      omega (arith, few, e)
]
  where
    one_more : (k : ℕ) → 1 + k ≡ suc k
    one_more k = omega arith

-- The points of J among n calls and pairs have at most three levels for each level of the blocks of n.
pub root_levels : (shape : ShapeNumbers) (J n : ℕ) → IsShape shape → J ≤ n
    → strip_levels shape J ≤ 3 * lev shape (blocks_of shape n)
root_levels shape j n is h =
    let z = shape_sized shape is in
    let q = blocks_of shape n in
    let c = blocks_ceil shape n is in
    let l = lev_reach shape q q is (omega arith) in
    let e : fan_of shape ^ lev shape q ≡ (2 * wide_of shape) ^ lev shape q =
    ap (λ k. k ^ lev shape q) (fan_wide shape is) in
    let m : q ≤ (2 * wide_of shape) ^ lev shape q = omega (arith, l, e) in
    levels_most shape (3 * lev shape q) j is
    (root_level (fan_root shape) (wide_of shape) shape.block (payload_of shape) (lev shape q) q j z m
    (omega (arith, h, c.holds)))
