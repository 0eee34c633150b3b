-- A bit of a record that is made 0, and rows that are filled.
use Rattle.std.proofs.Common.{◌≡◌, ◌≢◌, ℕ, zero, suc, ◌+◌, ◌*◌, ◌/◌, ◌%◌, ◌^◌, ◌<◌, ◌-◌, ◌==◌, List, length, get_or, set, get_or-set_same, get_or-set_other, length-set, refl, sym, ap, ◌∙◌, arith, ⊎_elim, bit_and, w64}
use Rattle.std.specs.Int.{bit_at, bit_not}
use Rattle.std.proofs.lemmas.Nat.Bits.{bit_at_clear_same, bit_at_clear_other, bit_at_ones}
use Rattle.em_record.specs.declared.record.Record.{Record}
use Rattle.em_record.proofs.OrderLaws.{which}
use Rattle.em_bits.specs.Bits.{Fills, FillsUpTo, bit_of, no_bits, put_word, word_at}

-- the word that was put
put_same : (r : Record) (j w : ℕ) → word_at (put_word r j w) j ≡ w
put_same r zero w = refl
put_same r (suc zero) w = refl
put_same r (suc (suc zero)) w = refl
put_same r (suc (suc (suc n))) w = refl

-- and the others
put_other : (r : Record) (i j w : ℕ) → i < 4 → j < 4 → i ≢ j → word_at (put_word r j w) i ≡ word_at r i
put_other r zero zero w a b n = absurd (n refl)
put_other r (suc zero) zero w a b n = refl
put_other r (suc (suc zero)) zero w a b n = refl
put_other r (suc (suc (suc i))) zero w a b n = refl
put_other r zero (suc zero) w a b n = refl
put_other r (suc zero) (suc zero) w a b n = absurd (n refl)
put_other r (suc (suc zero)) (suc zero) w a b n = refl
put_other r (suc (suc (suc i))) (suc zero) w a b n = refl
put_other r zero (suc (suc zero)) w a b n = refl
put_other r (suc zero) (suc (suc zero)) w a b n = refl
put_other r (suc (suc zero)) (suc (suc zero)) w a b n = absurd (n refl)
put_other r (suc (suc (suc i))) (suc (suc zero)) w a b n = refl
put_other r zero (suc (suc (suc j))) w a b n = refl
put_other r (suc zero) (suc (suc (suc j))) w a b n = refl
put_other r (suc (suc zero)) (suc (suc (suc j))) w a b n = refl
put_other r (suc (suc (suc i))) (suc (suc (suc j))) w a b n = absurd (n (omega (arith, a, b)))

-- a word of which a bit was cleared
abbrev pub cleared : ℕ → ℕ → ℕ
cleared m k = bit_and m (bit_not w64 (1 * 2 ^ k % 2 ^ 64))

-- the bit is 0
pub clears_same : (item r : Record) (at m : ℕ) → r ≡ put_word item (at / 64) (cleared m (at % 64))
    → bit_of r at ≡ 0
clears_same item r at m e =
    let low : at % 64 < 64 = omega arith in
    ap (λ (x : Record). bit_of x at) e
    ∙ ap (λ (w : ℕ). bit_at w (at % 64)) (put_same item (at / 64) (cleared m (at % 64)))
    ∙ bit_at_clear_same w64 m (at % 64) low

-- and no other changed
pub clears_other : (item r : Record) (at m : ℕ) → at < 256 → m ≡ word_at item (at / 64)
    → r ≡ put_word item (at / 64) (cleared m (at % 64))
    → (k : ℕ) → k < 256 → k ≢ at → bit_of r k ≡ bit_of item k
clears_other item r at m in' is e k f n =
    let low : at % 64 < 64 = omega arith in
    let new = cleared m (at % 64) in
    ap (λ (x : Record). bit_of x k) e
    ∙ ⊎_elim
    (λ (s : k / 64 ≡ at / 64).
    let apart : k % 64 ≢ at % 64 = λ d. n (omega (arith, s, d)) in
    ap (λ (j : ℕ). bit_at (word_at (put_word item (at / 64) new) j) (k % 64)) s
    ∙ ap (λ (w : ℕ). bit_at w (k % 64)) (put_same item (at / 64) new)
    ∙ bit_at_clear_other w64 m (at % 64) low (k % 64) (omega arith) apart
    ∙ ap (λ (w : ℕ). bit_at w (k % 64)) is
    ∙ ap (λ (j : ℕ). bit_at (word_at item j) (k % 64)) (sym s))
    (λ (o : k / 64 ≡ at / 64 → ⊥).
    ap (λ (w : ℕ). bit_at w (k % 64))
    (put_other item (k / 64) (at / 64) new (omega (arith, f)) (omega (arith, in')) o))
    (which (k / 64) (at / 64))

-- the record of 256 ones
abbrev pub all_ones : Record
all_ones = record {
  a = 18446744073709551615;
  b = 18446744073709551615;
  c = 18446744073709551615;
  d = 18446744073709551615;
}

-- each of its words
word_ones : (j : ℕ) → word_at all_ones j ≡ 2 ^ 64 - 1
word_ones zero = refl
word_ones (suc zero) = refl
word_ones (suc (suc zero)) = refl
word_ones (suc (suc (suc n))) = refl

-- each of its bits
ones_set : (k : ℕ) → bit_of all_ones k ≡ 1
ones_set k =
    ap (λ (w : ℕ). bit_at w (k % 64)) (word_ones (k / 64))
    ∙ bit_at_ones 64 (k % 64) (omega arith)

-- the first n records have all bits
pub record FillsTo (n : ℕ) (xs ys : List Record) : Type 0 where
  pub front : (j : ℕ) → j < n → get_or ys j no_bits ≡ all_ones
  pub long : length ys ≡ length xs

-- no record yet
pub fills_none : (xs : List Record) → FillsTo 0 xs xs
fills_none xs = record { front = λ j l. absurd (omega (arith, l)); long = refl }

-- and one more
pub fills_next : (n : ℕ) (xs ys : List Record) → n < length ys → FillsTo n xs ys
    → FillsTo (n + 1) xs (set ys n all_ones)
fills_next n xs ys within f = record {
  front = λ j l. ⊎_elim
      (λ (e : j ≡ n).
      ap (λ (i : ℕ). get_or (set ys n all_ones) i no_bits) e
      ∙ get_or-set_same ys n all_ones no_bits within)
      (λ (o : j ≡ n → ⊥).
      get_or-set_other ys n j all_ones no_bits o ∙ f.front j (omega (arith, l, o)))
      (which j n);
  long = length-set ys n all_ones ∙ f.long;
}

-- All were filled.
pub fills_all : (n : ℕ) (xs ys : List Record) → n ≡ length xs → FillsTo n xs ys → Fills xs ys
fills_all n xs ys e f =
    let long = f.long in
    record {
      ones = λ k l.
          ap (λ (n : ℕ). n == 1) (ap (λ (r : Record). bit_of r (k % 256))
          (f.front (k / 256) (omega (arith, l, e, long))) ∙ ones_set (k % 256));
      long = long;
    }

-- Those up to a bit were filled.
pub fills_front : (n last : ℕ) (xs ys : List Record) → n ≡ last / 256 + 1 → FillsTo n xs ys → FillsUpTo last xs ys
fills_front n last xs ys e f = record {
  ones = λ k l.
      ap (λ (n : ℕ). n == 1) (ap (λ (r : Record). bit_of r (k % 256))
      (f.front (k / 256) (omega (arith, l, e))) ∙ ones_set (k % 256));
  long = f.long;
}
