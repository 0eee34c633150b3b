-- How often a number is divided by the fan-out.
use Rattle.std.proofs.Common.{◌≡◌, ℕ, zero, suc, ◌+◌, ◌*◌, ◌/◌, ◌<◌, ◌≤◌, ◌^◌, refl, sym, ap, ◌∙◌, arith, inl, inr}
use Rattle.std.proofs.lemmas.Bool.{cond-false, cond-true, lt-leb, le-leb, cases_lt}
use Rattle.std.proofs.Math.Nat.{mul-le-mul, mul-le-mul_left, mul-le-mul_right, le_of_mul-le-mul_right, div-mul-le_self, pow-suc, one-le-pow}
use Rattle.std.specs.Int.{div_ceil}
use Rattle.em_record.specs.Cost.{lev, lev_within}
use Rattle.em_record.specs.Shape.{ShapeNumbers, IsShape, fan_of}
use Rattle.em_record.proofs.Blocks.{ceil_holds, ceil_rises}

-- a division by at least two, rounded up, makes a number above 1 less
div_ceil-less : (x fan : ℕ) → 1 < x → 2 < fan → div_ceil x fan < x
div_ceil-less x fan some wide =
    let times : x / fan * 3 ≤ x / fan * fan = mul-le-mul_left (x / fan) wide in
    omega (arith, times, div-mul-le_self x fan)

-- the most divisions don't matter, if they are enough
lev_within-enough : (m n fan x : ℕ) → x ≤ m → x ≤ n → 2 < fan
    → lev_within m fan x ≡ lev_within n fan x
lev_within-enough zero zero fan x a b wide = refl
lev_within-enough zero (suc n) fan x a b wide = sym (cond-true _ _ _ (le-leb x 1 (omega arith)))
lev_within-enough (suc m) zero fan x a b wide = cond-true _ _ _ (le-leb x 1 (omega arith))
lev_within-enough (suc m) (suc n) fan x a b wide = elim (cases_lt 1 x) [
  | inl more ↦
      let less = div_ceil-less x fan more wide in
      let same = lev_within-enough m n fan (div_ceil x fan) (omega arith) (omega arith) wide in
      cond-false _ _ _ (lt-leb x 1 more) ∙ ap (λ k. 1 + k) same
      ∙ sym (cond-false _ _ _ (lt-leb x 1 more))
  | inr most ↦ cond-true _ _ _ (le-leb x 1 most) ∙ sym (cond-true _ _ _ (le-leb x 1 most))
]

-- one division
pub lev_within-step : (fan x : ℕ) → 1 < x → 2 < fan
    → lev_within x fan x ≡ 1 + lev_within (div_ceil x fan) fan (div_ceil x fan)
lev_within-step fan zero some wide = absurd (omega arith)
lev_within-step fan (suc x) some wide =
    let less = div_ceil-less (suc x) fan some wide in
    cond-false _ _ _ (lt-leb (suc x) 1 some)
    ∙ ap (λ n. 1 + n)
    (lev_within-enough x (div_ceil (suc x) fan) fan (div_ceil (suc x) fan)
    (omega arith) (omega arith) wide)

-- two numbers of this many bits have a product of as many as both
pub product-small : (a b : ℕ) → a ≤ 2 ^ 69 → b ≤ 2 ^ 58 → a * b ≤ 2 ^ 127
product-small a b low high = mul-le-mul {n₁ = a} {m₁ = b} {n₂ = 2 ^ 69} {m₂ = 2 ^ 58} low high

-- one division more in the count
pub lev-more : (shape : ShapeNumbers) (x left levels next : ℕ) → IsShape shape → 1 < left
    → next ≡ div_ceil left (fan_of shape) → lev shape x ≡ levels + lev shape left
    → lev shape x ≡ levels + 1 + lev shape next
lev-more shape x left levels next is some e so_far =
    let wide : 2 < fan_of shape = omega (arith, is.frames_low) in
    let step = lev_within-step (fan_of shape) left some wide in
    rw e (omega (arith, so_far, step))

pub next-less : (shape : ShapeNumbers) (left next : ℕ) → IsShape shape → 1 < left
    → next ≡ div_ceil left (fan_of shape) → next < left
next-less shape left next is some e =
    let wide : 2 < fan_of shape = omega (arith, is.frames_low) in
    rw e (div_ceil-less left (fan_of shape) some wide)

-- no division of at most 1
lev_none : (s : ShapeNumbers) (x : ℕ) → x ≤ 1 → lev s x ≡ 0
lev_none s zero h = refl
lev_none s (suc x) h = cond-true _ _ _ (le-leb (suc x) 1 h)

-- one division of a shape
lev_step : (s : ShapeNumbers) (x : ℕ) → IsShape s → 1 < x
    → lev s x ≡ 1 + lev s (div_ceil x (fan_of s))
lev_step s x is h = lev_within-step (fan_of s) x h (omega (arith, is.frames_low))

rises_within : (s : ShapeNumbers) (most x y : ℕ) → IsShape s → y ≤ most → x ≤ y
    → lev s x ≤ lev s y
rises_within s zero x y is l h = let e = lev_none s x (omega arith) in omega arith
rises_within s (suc most) x y is l h = elim (cases_lt 1 x) [
  | inl more ↦
      let fan = fan_of s in
      let less = next-less s y (div_ceil y fan) is (omega arith) refl in
      let up = ceil_rises x y fan (omega (arith, is.frames_low)) h in
      let rest = rises_within s most (div_ceil x fan) (div_ceil y fan) is (omega arith) up in
      let e = lev_step s x is more in
      let f = lev_step s y is (omega arith) in
      omega arith
  | inr few ↦ let e = lev_none s x few in omega arith
]

-- More blocks have no fewer levels.
pub lev_rises : (s : ShapeNumbers) (x y : ℕ) → IsShape s → x ≤ y → lev s x ≤ lev s y
lev_rises s x y is h = rises_within s y x y is (omega arith) h

-- A number of at least this power of the fan-out has that many levels.
pub lev_power : (s : ShapeNumbers) (r x : ℕ) → IsShape s → fan_of s ^ r ≤ x → r ≤ lev s x
lev_power s zero x is h = omega arith
lev_power s (suc r) x is h =
    let fan = fan_of s in
    let wide : 16 ≤ fan = omega (arith, is.frames_low) in
    let e = pow-suc fan r in
    let some = one-le-pow r fan (omega arith) in
    let times : 1 * fan ≤ fan ^ r * fan = mul-le-mul_right fan some in
    let more : 1 < x = omega arith in
    let holds = ceil_holds x fan (omega arith) in
    let all : fan ^ r * fan ≤ div_ceil x fan * fan = omega arith in
    let rest = lev_power s r (div_ceil x fan) is (le_of_mul-le-mul_right all (omega arith)) in
    let f = lev_step s x is more in
    omega arith
