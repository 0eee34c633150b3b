-- Two tests that both hold, in any order.
use Rattle.std.proofs.Common.{◌≡◌, Bool, true, false, ◌&&◌, refl}

pub first_holds : (a b : Bool) → (a && b) ≡ true → a ≡ true
first_holds true b e = refl
first_holds false b e = e

pub second_holds : (a b : Bool) → (a && b) ≡ true → b ≡ true
second_holds true b e = e
second_holds false b e = cc

pub both_swap : (a b c : Bool) → (a && (b && c)) ≡ (b && (a && c))
both_swap true b c = refl
both_swap false true c = refl
both_swap false false c = refl

pub both_three : (a b c : Bool) → ((a && b) && c) ≡ (a && (b && c))
both_three true b c = refl
both_three false b c = refl

pub both_true : (a : Bool) → (a && true) ≡ a
both_true true = refl
both_true false = refl
