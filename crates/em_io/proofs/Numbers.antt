-- Digits that are taken one at a time, and what they say of the number at a place.
use Rattle.std.proofs.Common.{◌≡◌, ◌<◌, ◌≤◌, ◌+◌, ◌-◌, ◌*◌, ◌^◌, ◌∙◌, Bool, true, false, cond, eqb, leb, ltb, ◌&&◌, List, [], ◌∷◌, ◌++◌, ℕ, min, length, ap, sym, subst, refl, arith}
use Rattle.std.specs.Prelude.{IsTrue}
use Rattle.std.specs.Char.{IsAsciiDigit, digit_value, is_ascii_digit}
use Rattle.std.specs.Str.Parse.{AllDigits, digits_value}
use Rattle.std.proofs.lemmas.Bool.Decides.{nat_tests}
use Rattle.std.proofs.lemmas.Int.Digits.{digits_push, digits_value_push}
use Rattle.std.proofs.lemmas.List.{append-nil, length-append}
use Rattle.std.proofs.lemmas.List.Sums.{take_while-cons}
use Rattle.std.proofs.lemmas.Nat.{pow-add}
use Rattle.std.proofs.lemmas.Str.{digit_value_digit}
use Rattle.std.proofs.lemmas.Str.Parse.{digit_from_value}
use Rattle.em_io.specs.declared.digits.Digits.{Digits}
use Rattle.em_io.specs.declared.digits.Digits.TheVariants.{Nothing, Value, TooMany, TooLong}
use Rattle.em_io.specs.declared.digits.Look.TheVariants.{TooFar, Digit, Other}
use Rattle.em_io.specs.Digits.{TakesNumber, digits_at, leading_digits}
use Rattle.em_io.specs.Feed.{Fed, Takes, rest}
use Rattle.em_io.specs.Look.{look_at}
use Rattle.em_io.specs.Shelf.{Stand}
use Rattle.em_io.proofs.Takes.{takes-nothing, takes-one, takes-then}

-- Digits taken, in steps.

-- nothing was taken yet
pub number_begins : (tells : Bool) (f : Fed) (a : Stand) → TakesNumber tells f a f a 0 0
number_begins tells f a = record {
  some = record { bytes = []; takes = takes-nothing tells f a; digits = tt; most = omega arith };
  spells = refl;
  size = refl;
  most = omega arith;
  bound = omega arith;
}

-- a look after digits were taken
pub number_looked : {tells : Bool} {f g h : Fed} {a b c : Stand} {value count : ℕ}
    → TakesNumber tells f a g b value count → Takes tells [] g b h c
    → TakesNumber tells f a h c value count
number_looked {tells} {f} {g} {h} {a} {b} {c} n look = record {
  some = record {
    bytes = n.some.bytes;
    takes = subst (λ bytes. Takes tells bytes f a h c) (append-nil n.some.bytes)
        (takes-then n.some.takes look);
    digits = n.some.digits;
    most = n.some.most;
  };
  spells = n.spells;
  size = n.size;
  most = n.most;
  bound = n.bound;
}

-- one digit more
pub number_push : {tells : Bool} {f g h : Fed} {a b : Stand} {value count : ℕ} (byte : ℕ)
    → TakesNumber tells f a g b value count → IsAsciiDigit byte → count < 20
    → g.ahead ≡ byte ∷ h.ahead → h.slot ≡ g.slot → h.place ≡ g.place + 1
    → TakesNumber tells f a h b (10 * value + (byte - 48)) (count + 1)
number_push {tells} {f} {g} {h} {a} {b} {value} {count} byte n digit few ahead slot place =
    let is : digit_value byte + 48 ≡ byte = digit_value_digit byte digit in
    let more = digits_value_push 10 n.some.bytes byte in
    record {
      some = record {
        bytes = n.some.bytes ++ byte ∷ [];
        takes = takes-then n.some.takes (takes-one tells b byte ahead slot place);
        digits = digits_push 10 n.some.bytes byte n.some.digits (omega (arith, digit));
        most = omega (arith, length-append n.some.bytes (byte ∷ []), n.size);
      };
      spells = omega (arith, more, n.spells);
      size = omega (arith, length-append n.some.bytes (byte ∷ []), n.size);
      most = omega arith;
      bound = omega (arith, pow-add 10 count 1, n.bound, digit);
    }

-- What is found, by what was taken and what stands next.

is_digit : (d : ℕ) → digit_value d < 10 → is_ascii_digit d ≡ true
is_digit d h = let range = digit_from_value d h in grind (arith, nat_tests)

-- the digits at the front of digits and what follows them
pub leading_append : (ds r : List ℕ) → AllDigits 10 ds
    → leading_digits (ds ++ r) ≡ ds ++ leading_digits r
leading_append [] r all = refl
leading_append (d ∷ ds) r all =
    take_while-cons is_ascii_digit d (ds ++ r)
    ∙ rw (is_digit d all.0) (ap (λ xs. d ∷ xs) (leading_append ds r all.1))

-- none stand before another byte
leading_other : (b : ℕ) (r : List ℕ) → is_ascii_digit b ≡ false → leading_digits (b ∷ r) ≡ []
leading_other b r e = take_while-cons is_ascii_digit b r ∙ rw e refl

leading_digit : (b : ℕ) (r : List ℕ) → is_ascii_digit b ≡ true
    → leading_digits (b ∷ r) ≡ b ∷ leading_digits r
leading_digit b r e = take_while-cons is_ascii_digit b r ∙ rw e refl

-- what is found at place p of a text of which n bytes are left, with k digits at their front
-- that spell v
abbrev found_of : ℕ → ℕ → ℕ → ℕ → Digits
found_of p k n v = cond (leb (2 ^ 50) (p + min k 20) && ltb (2 ^ 50 - p) n) TooLong
    (cond (eqb k 0) Nothing (cond (ltb 20 k) TooMany (Value v k)))

-- m digits stand before a byte that is too far
too_far_of : (p k n v m : ℕ) → m ≤ k → m ≤ 20 → m < n → 2 ^ 50 ≤ p + m
    → TooLong ≡ found_of p k n v
too_far_of p k n v m a b d e = grind (arith, nat_tests)

value_of : (p k n v : ℕ) → 0 < k → k ≤ 20 → p + min (k + 1) n ≤ 2 ^ 50
    → Value v k ≡ found_of p k n v
value_of p k n v a b d = grind (arith, nat_tests)

too_many_of : (p k n v : ℕ) → 20 < k → p + 20 < 2 ^ 50 → TooMany ≡ found_of p k n v
too_many_of p k n v a b = grind (arith, nat_tests)

-- the three answers of a look at a byte
far_is : (t d : Bool) (x : ℕ) → TooFar ≡ cond t TooFar (cond d (Digit x) Other) → t ≡ true
far_is true d x e = refl
far_is false true x e = cc
far_is false false x e = cc

other_is : (t d : Bool) (x : ℕ) → Other ≡ cond t TooFar (cond d (Digit x) Other)
    → (t ≡ false) × (d ≡ false)
other_is true d x e = cc
other_is false true x e = cc
other_is false false x e = (refl, refl)

digit_is : (t d : Bool) (x y : ℕ) → Digit y ≡ cond t TooFar (cond d (Digit x) Other)
    → (t ≡ false) × (d ≡ true)
digit_is true d x y e = cc
digit_is false true x y e = (refl, refl)
digit_is false false x y e = cc

-- the look is at a byte too far
found_far : (p q : ℕ) (ds r : List ℕ) → AllDigits 10 ds → length ds ≤ 20 → q ≡ p + length ds
    → TooFar ≡ look_at q r → TooLong ≡ digits_at p (ds ++ r)
found_far p q ds [] all few place e = cc
found_far p q ds (b ∷ r) all few place e =
    let far : leb (2 ^ 50) q ≡ true = far_is _ _ _ e in
    let high : 2 ^ 50 ≤ q = grind (arith, nat_tests) in
    let front = ap length (leading_append ds (b ∷ r) all) in
    let more = length-append ds (leading_digits (b ∷ r)) in
    let size = length-append ds (b ∷ r) in
    too_far_of p _ _ _ (length ds) (omega arith) few (omega arith) (omega arith)

-- the look is at another byte, or at the end
found_value : (p q : ℕ) (ds r : List ℕ) → AllDigits 10 ds → 0 < length ds → length ds ≤ 20
    → q ≡ p + length ds → q ≤ 2 ^ 50 → Other ≡ look_at q r
    → Value (digits_value 10 ds) (length ds) ≡ digits_at p (ds ++ r)
found_value p q ds [] all some few place limit e =
    let front : leading_digits (ds ++ []) ≡ ds = leading_append ds [] all ∙ append-nil ds in
    let size = length-append ds [] in
    rw (front, append-nil ds) (value_of p _ _ _ some few (omega arith))
found_value p q ds (b ∷ r) all some few place limit e =
    let found : (leb (2 ^ 50) q ≡ false) × (is_ascii_digit b ≡ false) = other_is _ _ _ e in
    let low : q < 2 ^ 50 = grind (arith, nat_tests) in
    let front : leading_digits (ds ++ b ∷ r) ≡ ds =
    leading_append ds (b ∷ r) all ∙ rw (leading_other b r found.1) (append-nil ds) in
    rw front (value_of p _ _ _ some few (omega arith))

-- the look is at a digit after 20 digits
found_many : (p q x : ℕ) (ds r : List ℕ) → AllDigits 10 ds → length ds ≡ 20
    → q ≡ p + length ds → Digit x ≡ look_at q r → TooMany ≡ digits_at p (ds ++ r)
found_many p q x ds [] all twenty place e = cc
found_many p q x ds (b ∷ r) all twenty place e =
    let found : (leb (2 ^ 50) q ≡ false) × (is_ascii_digit b ≡ true) = digit_is _ _ _ _ e in
    let low : q < 2 ^ 50 = grind (arith, nat_tests) in
    let front : leading_digits (ds ++ b ∷ r) ≡ ds ++ b ∷ leading_digits r =
    leading_append ds (b ∷ r) all ∙ rw (leading_digit b r found.1) refl in
    let size = ap length front in
    let more = length-append ds (b ∷ leading_digits r) in
    too_many_of p _ _ _ (omega arith) (omega arith)

-- a number is being taken, and the shelf tells what is left
module _ {tells : Bool} {f g : Fed} {a b : Stand} {value count : ℕ}
    (n : TakesNumber tells f a g b value count) (told : IsTrue tells) where
  text : digits_at f.place (n.some.bytes ++ rest g b) ≡ digits_at f.place (rest f a)
  text = ap (digits_at f.place) (sym (n.some.takes.left told))

  pub number_too_far : TooFar ≡ look_at g.place (rest g b)
      → TooLong ≡ digits_at f.place (rest f a)
  number_too_far e =
      found_far f.place g.place n.some.bytes _ n.some.digits n.some.most n.some.takes.place e ∙ text

  pub number_ends : 0 < count → g.place ≤ 2 ^ 50 → Other ≡ look_at g.place (rest g b)
      → Value value count ≡ digits_at f.place (rest f a)
  number_ends some limit e =
      let whole = found_value f.place g.place n.some.bytes _ n.some.digits
      (omega (arith, n.size)) n.some.most n.some.takes.place limit e in
      rw (n.spells, n.size) at whole ∙ text

  pub number_too_many : {byte : ℕ} → count ≡ 20 → Digit byte ≡ look_at g.place (rest g b)
      → TooMany ≡ digits_at f.place (rest f a)
  number_too_many {byte} twenty e =
      found_many f.place g.place byte n.some.bytes _ n.some.digits (omega (arith, n.size))
      n.some.takes.place e ∙ text
