-- Words that end within the bytes that were read ahead.
use Rattle.std.proofs.Common.{◌≡◌, ℕ, ◌+◌, ◌-◌, ◌<◌, ◌≤◌, ◌==◌, ◌||◌, ◌≢◌, Bool, true, false, cond, List, [], ◌∷◌, ◌++◌, length, length-take, drop, drop-drop, slice_index_or, slice_range, Option, Some, None, Ok, take, refl, sym, ap, ◌∙◌, arith}
use Rattle.std.specs.Prelude.{IfSome}
use Rattle.std.proofs.lemmas.List.{length-append, take-append-drop}
use Rattle.std.proofs.lemmas.List.Folds.{drop_split}
use Rattle.em_lines.specs.Ahead.{BeginsFirst, BeginsNumber, BeginsOperand, BeginsWord}
use Rattle.em_lines.specs.CommandLine.{number_of, operand}
use Rattle.em_lines.specs.Stream.{after_line, after_word, parts_left, word_at}
use Rattle.em_lines.specs.declared.ahead.Spelled.{Spelled}
use Rattle.em_lines.proofs.LineLemmas.{after_line_cons, parts_left_cons}

append_step : (x : ℕ) (xs ys : List ℕ) (ends : Bool)
    → (length (word_at xs) < length xs → word_at (xs ++ ys) ≡ word_at xs)
    → length (cond ends [] (x ∷ word_at xs)) < length (x ∷ xs)
    → cond ends [] (x ∷ word_at (xs ++ ys)) ≡ cond ends [] (x ∷ word_at xs)
append_step x xs ys true ih h = refl
append_step x xs ys false ih h = ap (λ w. x ∷ w) (ih (omega (arith, h)))

-- a word that ends within these bytes is the same if more follow
pub word_at-append : (xs ys : List ℕ) → length (word_at xs) < length xs
    → word_at (xs ++ ys) ≡ word_at xs
word_at-append [] ys h = absurd (omega (arith, h))
word_at-append (x ∷ xs) ys h =
    append_step x xs ys (x == 32 || x == 10) (λ k. word_at-append xs ys k) h

drop_step : (x : ℕ) (xs : List ℕ) (ends : Bool) → after_word xs ≡ drop (length (word_at xs)) xs
    → cond ends (x ∷ xs) (after_word xs)
    ≡ drop (length (cond ends [] (x ∷ word_at xs))) (x ∷ xs)
drop_step x xs true ih = refl
drop_step x xs false ih = ih

-- what follows a word is what is left without it
pub after_word-drop : (xs : List ℕ) → after_word xs ≡ drop (length (word_at xs)) xs
after_word-drop [] = refl
after_word-drop (x ∷ xs) = drop_step x xs (x == 32 || x == 10) (after_word-drop xs)

-- a word ahead, and what follows it, whatever is read next
pub word_begins : {xs : List ℕ} {n : ℕ} (ys : List ℕ) → BeginsWord xs n
    → word_at (xs ++ ys) ≡ word_at xs
word_begins {xs} ys w = word_at-append xs ys (omega (arith, w.is, w.ended))

pub word_skipped : {xs : List ℕ} {n : ℕ} (ys : List ℕ) → BeginsWord xs n
    → drop n (xs ++ ys) ≡ after_word (xs ++ ys)
word_skipped {xs} {n} ys w =
    ap (λ k. drop k (xs ++ ys)) (sym w.is ∙ sym (ap length (word_begins ys w)))
    ∙ sym (after_word-drop (xs ++ ys))

no_newline : ◌≢◌ {A = ℕ} 32 10
no_newline e = absurd (omega (arith, e))

-- an operand ahead, whatever is read next
module _ {xs : List ℕ} {v k : ℕ} (o : BeginsOperand xs v k) (ys : List ℕ) where
  whole : xs ++ ys ≡ 32 ∷ (drop 1 xs ++ ys)
  whole = ap (λ (z : List ℕ). z ++ ys) o.space

  parts : parts_left (xs ++ ys) ≡ word_at (drop 1 xs ++ ys) ∷ parts_left (after_word (drop 1 xs ++ ys))
  parts = parts_left_cons (xs ++ ys) 32 (drop 1 xs ++ ys) whole no_newline

  pub operand_skipped : drop (1 + k) (xs ++ ys) ≡ after_word (drop 1 xs ++ ys)
  operand_skipped =
      sym (drop-drop k 1 (xs ++ ys)) ∙ ap (λ (z : List ℕ). drop k (drop 1 z)) whole
      ∙ word_skipped ys o.number.word

  pub operand_spelled : operand (parts_left (xs ++ ys)) ≡ Ok v
  operand_spelled = ap operand parts ∙ ap number_of (word_begins ys o.number.word) ∙ o.number.spells

  pub operand_parts : parts_left (drop (1 + k) (xs ++ ys)) ≡ drop 1 (parts_left (xs ++ ys))
  operand_parts = ap parts_left operand_skipped ∙ sym (ap (drop 1) parts)

  pub operand_line : after_line (drop (1 + k) (xs ++ ys)) ≡ after_line (xs ++ ys)
  operand_line = after_line_cons (xs ++ ys) 32 (drop 1 xs ++ ys) _ whole no_newline operand_skipped

-- a number that stands in a window after a space is an operand
pub operand_begins : (xs ys zs : List ℕ) (v k : ℕ) → xs ≡ 32 ∷ (ys ++ zs) → length ys ≤ 21
    → BeginsNumber ys v k → BeginsOperand xs v k
operand_begins xs ys zs v k e few n =
    let tail : drop 1 xs ≡ ys ++ zs = ap (drop 1) e in
    let same : word_at (drop 1 xs) ≡ word_at ys = ap word_at tail ∙ word_begins zs n.word in
    record {
      space = e ∙ ap (λ (z : List ℕ). 32 ∷ z) (sym tail);
      number = record {
        word = record {
          is = ap length same ∙ n.word.is;
          ended = omega (arith, n.word.ended, ap length tail, length-append ys zs);
        };
        spells = ap number_of same ∙ n.spells;
      };
      few = omega (arith, n.word.ended, few);
      ended = omega (arith, n.word.ended, ap length e, length-append ys zs);
    }

pub begins_space : (xs : List ℕ) (d : ℕ) → 0 < length xs → slice_index_or xs 0 d ≡ 32
    → xs ≡ 32 ∷ drop 1 xs
begins_space [] d some e = absurd (omega (arith, some))
begins_space (x ∷ xs) d some e = ap (λ (y : ℕ). y ∷ xs) e

-- the same of what is found in the window from the second byte on
pub operand_found : (xs : List ℕ) (m : ℕ) (r : Option Spelled) → xs ≡ 32 ∷ drop 1 xs → 1 ≤ m
    → m ≤ 22 → IfSome r (λ f. BeginsNumber (slice_range xs 1 m) f.value f.digits)
    → IfSome r (λ f. BeginsOperand xs f.value f.digits)
operand_found xs m (Some f) e low high n =
    operand_begins xs (slice_range xs 1 m) (drop m xs) f.value f.digits
    (e ∙ ap (λ (z : List ℕ). 32 ∷ z) (drop_split xs 1 m low))
    (omega (arith, high, length-take (m - 1) (drop 1 xs))) n
operand_found xs m None e low high n = tt

-- A number that begins a line, whatever is read next.
pub first_spelled : {xs : List ℕ} {v k : ℕ} → BeginsFirst xs v k → (ys : List ℕ)
    → number_of (word_at (xs ++ ys)) ≡ Ok v
first_spelled f ys = ap number_of (word_begins ys f.number.word) ∙ f.number.spells

pub first_skipped : {xs : List ℕ} {v k : ℕ} → BeginsFirst xs v k → (ys : List ℕ)
    → drop k (xs ++ ys) ≡ after_word (xs ++ ys)
first_skipped f ys = word_skipped ys f.number.word

-- a number that stands in a window is one of the whole
first_begins : (xs ys zs : List ℕ) (v k : ℕ) → xs ≡ ys ++ zs → length ys ≤ 21 → BeginsNumber ys v k
    → BeginsFirst xs v k
first_begins xs ys zs v k e few n =
    let same : word_at xs ≡ word_at ys = ap word_at e ∙ word_begins zs n.word in
    record {
      number = record {
        word = record {
          is = ap length same ∙ n.word.is;
          ended = omega (arith, n.word.ended, ap length e, length-append ys zs);
        };
        spells = ap number_of same ∙ n.spells;
      };
      few = omega (arith, n.word.ended, few);
    }

pub first_found : (xs : List ℕ) (m : ℕ) (r : Option Spelled) → m ≤ 21
    → IfSome r (λ f. BeginsNumber (take m xs) f.value f.digits)
    → IfSome r (λ f. BeginsFirst xs f.value f.digits)
first_found xs m (Some f) high n =
    first_begins xs (take m xs) (drop m xs) f.value f.digits (sym (take-append-drop m xs))
    (omega (arith, high, length-take m xs)) n
first_found xs m None high n = tt
