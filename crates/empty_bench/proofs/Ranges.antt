-- The place of a key among the low keys of the node.
use Rattle.std.proofs.Common.{◌≡◌, true, false, ℕ, zero, suc, ◌+◌, ◌-◌, ◌*◌, ◌/◌, ◌^◌, ◌<◌, ◌≤◌, min, cond, ap, sym, refl, ◌∙◌, ⊎_elim, arith}
use Rattle.std.specs.Cmp.{nat_cmp_is}
use Rattle.std.specs.Ordering.{is_lt, nat_cmp, ordering_then}
use Rattle.std.specs.declared.cmp.Ordering.{Ordering}
use Rattle.std.specs.declared.cmp.Ordering.TheVariants.{Less, Equal, Greater}
use Rattle.std.proofs.lemmas.Bool.{cases_lt}
use Rattle.std.proofs.lemmas.Nat.{div_below, le-div}
use Rattle.em_record.specs.declared.record.Record.{Record}
use Rattle.em_record.specs.Order.{is_below}
use Rattle.em_settle.specs.Bag.{bag_key_of}
use Rattle.em_node.specs.Node.{LowsAbove, LowsRise, place_of}
use Rattle.empty_bench.specs.Places.{low_of, bare_entries, place_in_node}

-- no number is below 0
zero_least : (n : ℕ) (o : Ordering) → is_lt o ≡ false
    → is_lt (ordering_then (nat_cmp n 0) o) ≡ false
zero_least zero o h = ap (λ p. is_lt (ordering_then p o)) (sym (nat_cmp_is 0 0 Equal refl)) ∙ h
zero_least (suc n) o h =
    ap (λ p. is_lt (ordering_then p o)) (sym (nat_cmp_is (suc n) 0 Greater (omega arith)))

-- a lower first word makes a record lower,
lower : (x y : Record) → x.a < y.a → is_below x y ≡ true
lower x y h =
    let last = ordering_then (nat_cmp x.c y.c) (nat_cmp x.d y.d) in
    let rest = ordering_then (nat_cmp x.b y.b) last in
    ap (λ o. is_lt (ordering_then o rest)) (sym (nat_cmp_is x.a y.a Less h))

-- and no record is below a low key whose first word is at most its own.
not_lower : (x : Record) (j : ℕ) → j * 2 ^ 58 ≤ x.a → is_below (bag_key_of x) (low_of j) ≡ false
not_lower x j h =
    let rest = ordering_then (nat_cmp x.b 0) (ordering_then (nat_cmp 0 0) (nat_cmp 0 0)) in
    ⊎_elim
    (λ (g : j * 2 ^ 58 < x.a).
    ap (λ o. is_lt (ordering_then o rest)) (sym (nat_cmp_is x.a (j * 2 ^ 58) Greater g)))
    (λ (g : x.a ≤ j * 2 ^ 58).
    let e : x.a ≡ j * 2 ^ 58 = omega (arith, g, h) in
    ap (λ o. is_lt (ordering_then o rest)) (sym (nat_cmp_is x.a (j * 2 ^ 58) Equal e))
    ∙ zero_least x.b (ordering_then (nat_cmp 0 0) (nat_cmp 0 0)) (zero_least 0 (nat_cmp 0 0) refl))
    (cases_lt (j * 2 ^ 58) x.a)

first_place : (q j n : ℕ) → q < j + 1 → 0 ≡ min (q - j) (suc n)
first_place q j n h = omega arith

next_place : (q j n p : ℕ) → j + 1 ≤ q → p ≡ min (q - (j + 1)) n → 1 + p ≡ min (q - j) (suc n)
next_place q j n p h e = omega arith

-- the place among the places from one on
place_from : (child n j : ℕ) (x : Record)
    → place_of (bag_key_of x) (bare_entries child j (suc n)) ≡ min (x.a / 2 ^ 58 - j) n
place_from child zero j x = omega arith
place_from child (suc n) j x =
    let rest = place_of (bag_key_of x) (bare_entries child (j + 1) (suc n)) in
    ⊎_elim
    (λ (l : x.a < (j + 1) * 2 ^ 58).
    ap (λ z. cond z 0 (1 + rest)) (lower (bag_key_of x) (low_of (j + 1)) l)
    ∙ first_place (x.a / 2 ^ 58) j n (div_below x.a (2 ^ 58) (j + 1) (omega arith) l))
    (λ (m : (j + 1) * 2 ^ 58 ≤ x.a).
    ap (λ z. cond z 0 (1 + rest)) (not_lower x (j + 1) m)
    ∙ next_place (x.a / 2 ^ 58) j n rest (le-div (j + 1) x.a (2 ^ 58) (omega arith) m)
    (place_from child n (j + 1) x))
    (cases_lt x.a ((j + 1) * 2 ^ 58))

from_zero : (q : ℕ) → min (q - 0) 63 ≡ min q 63
from_zero q = omega arith

-- A key's place in the node is that of its record.
pub place_is : (child : ℕ) (x : Record)
    → place_of (bag_key_of x) (bare_entries child 0 64) ≡ place_in_node x
place_is child x = place_from child 63 0 x ∙ from_zero (x.a / 2 ^ 58)

lows_above : (child i j n : ℕ) → i < j → LowsAbove (low_of i) (bare_entries child j n)
lows_above child i j zero h = tt
lows_above child i j (suc n) h =
    (lower (low_of i) (low_of j) (omega arith), lows_above child i (j + 1) n (omega arith))

-- The low keys rise.
pub lows_rise : (child j n : ℕ) → LowsRise (bare_entries child j n)
lows_rise child j zero = tt
lows_rise child j (suc n) = (lows_above child j (j + 1) n (omega arith), lows_rise child (j + 1) n)
