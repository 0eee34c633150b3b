-- What the lists of a node hold: records, and blocks that they fill.
use Rattle.std.proofs.Common.{◌≡◌, ℕ, zero, suc, ◌+◌, ◌-◌, ◌*◌, ◌<◌, ◌≤◌, Bool, true, false, List, [], ◌∷◌, length, refl, ap, arith}
use Rattle.std.proofs.lemmas.Bool.Decides.{nat_tests}
use Rattle.std.proofs.lemmas.List.Sums.{sum_by-cons, sum_by-append}
use Rattle.std.proofs.Math.Nat.{mul-le-mul, mul-le-mul_right}
use Rattle.std.specs.Prelude.{◌&&◌, ◌==◌, if◌then◌else◌, filter}
use Rattle.std.specs.Int.{div_ceil}
use Rattle.std.specs.List.{sum_by}
use Rattle.em_model.specs.Stab.{NumberedInterval}
use Rattle.em_segment_model.specs.Pieces.{Strip}
use Rattle.em_segment_model.specs.Slabs.{slab_first, slab_width, in_slab, slabs_at, slabs_from}
use Rattle.em_tree_cost.proofs.Ceilings.{ceil_is}
use Rattle.em_segment_model.proofs.Sums.{if_so, length-kept, sum-same, sum-two, sum-zero}
use Rattle.em_segment_model.proofs.Reports.{share, slab_once, slab_within}

-- Chains of these lengths fill at most a block each more than their records need.
pub blocks_in_all : (P : ℕ) (xs : List ℕ) → 0 < P
    → sum_by (λ x. div_ceil x P) xs * P ≤ sum_by (λ x. x) xs + length xs * P
blocks_in_all P [] h = omega arith
blocks_in_all P (x ∷ xs) h =
    let a = sum_by-cons (λ (y : ℕ). div_ceil y P) x xs in
    let b = sum_by-cons (λ (y : ℕ). y) x xs in
    let c = ceil_is x P h in
    let t = c.tight in
    let r = blocks_in_all P xs h in
    let m : sum_by (λ y. div_ceil y P) (x ∷ xs) * P ≡ (div_ceil x P + sum_by (λ y. div_ceil y P) xs) * P =
    ap (λ k. k * P) a in
    omega (arith, m, b, t, r)

-- no multislab has no strip
no_strip : (a x first n : ℕ) → sum_by (share a 0 x) (slabs_at first n) ≡ 0
no_strip a x first zero = refl
no_strip a x first (suc n) =
    let r = no_strip a x first n in
    let c = sum_by-cons (share a 0 x) (record { first = first; width = suc n }) (slabs_at first n) in
    let z : share a 0 x (record { first = first; width = suc n }) ≡ 0 = rw (zero_no n) (never (a == first)) in
    omega arith
  where
    zero_no : (n : ℕ) → (0 == suc n) ≡ false
    zero_no n = grind (arith, nat_tests)

    never : (b : Bool) → if_so (b && false) x ≡ 0
    never true = refl
    never false = refl

no_strips : (a x first n : ℕ) → sum_by (share a 0 x) (slabs_from first n) ≡ 0
no_strips a x first zero = refl
no_strips a x first (suc n) =
    let s = sum_by-append (share a 0 x) (slabs_at first (suc n)) (slabs_from (first + 1) n) in
    let o = no_strip a x first (suc n) in
    let r = no_strips a x (first + 1) n in omega arith

-- an interval is in one multislab or in none
one_slab : (zs : List Strip) (i : NumberedInterval)
    → sum_by (λ t. if_so (in_slab zs t i) 1) (slabs_from 0 (length zs)) ≤ 1
one_slab zs i = by_width (slab_first zs i) (slab_width zs i) (length zs) (slab_within zs i)
  where
    by_width : (a w n : ℕ) → a + w ≤ n → sum_by (share a w 1) (slabs_from 0 n) ≤ 1
    by_width a zero n h = let z = no_strips a 1 0 n in omega arith
    by_width a (suc w) n h = let o = slab_once a (suc w) 1 0 n (omega arith) (omega arith) (omega arith) in omega arith

-- All multislabs together hold at most the node's pieces.
pub slabs_hold : (zs : List Strip) (is : List NumberedInterval)
    → sum_by (λ t. length (filter (in_slab zs t) is)) (slabs_from 0 (length zs)) ≤ length is
slabs_hold zs [] = let z = sum-zero (slabs_from 0 (length zs)) in omega arith
slabs_hold zs (i ∷ is) =
    let r = slabs_hold zs is in
    let o = one_slab zs i in
    let m = sum-same (λ t. length (filter (in_slab zs t) (i ∷ is)))
    (λ t. if_so (in_slab zs t i) 1 + length (filter (in_slab zs t) is)) (slabs_from 0 (length zs))
    (λ t. length-kept (in_slab zs t i) i (filter (in_slab zs t) is)) in
    let t = sum-two (λ t. if_so (in_slab zs t i) 1) (λ t. length (filter (in_slab zs t) is)) (slabs_from 0 (length zs)) in
    omega arith

-- The multislabs of a node are at most the fan-out 2 * w.
pub slabs_few : (s w z t : ℕ) → s * s ≤ 2 * w → z ≤ s → 1 ≤ s → 2 * t ≡ z * (z + 1) → t ≤ 2 * w
slabs_few s w z t h l some e =
    let m : z * (z + 1) ≤ s * (s + 1) =
    mul-le-mul {n₁ = z} {m₁ = z + 1} {n₂ = s} {m₂ = s + 1} l (omega (arith, l)) in
    let n : 1 * s ≤ s * s = mul-le-mul_right s some in
    omega (arith, m, n, h, e)
