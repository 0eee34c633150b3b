-- The number of an operand of which the first digits were read.
use Rattle.std.proofs.Common.{◌≡◌, ℕ, ◌+◌, ◌-◌, ◌*◌, ◌<◌, ◌≤◌, Bool, true, false, cond, List, [], ◌∷◌, length, Result, Err, refl, sym, ap, ◌∙◌, arith, inl, inr, zero-add}
use Rattle.std.specs.Prelude.{◌==◌, ◌&&◌, nat_lt, nat_le, if◌then◌else◌}
use Rattle.std.specs.Char.{is_ascii_digit}
use Rattle.std.specs.Str.{all_ascii_digits}
use Rattle.std.proofs.lemmas.Grind.{common_steps}
use Rattle.std.proofs.lemmas.Bool.Decides.{nat_tests}
use Rattle.std.proofs.lemmas.Bool.{cases_lt, le-ltb, and_right, cond-false}
use Rattle.em_lines.specs.declared.text.TextKind.{TextKind}
use Rattle.em_lines.specs.declared.text.TextKind.TheVariants.{BadNumber, BadSeparator}
use Rattle.em_lines.specs.CommandLine.{number_of, digits_after, in_range}

-- the number of an operand, of which n digits with the value v were read and these bytes are left
abbrev pub number_rest : ℕ → ℕ → List ℕ → Result ℕ TextKind
number_rest v n [] = if n == 0 then Err BadSeparator else in_range v
number_rest v n (b ∷ bs) =
    if is_ascii_digit b && nat_lt n 20
    then number_rest (10 * v + (b - 48)) (n + 1) bs else Err BadNumber

-- the same by tests of all bytes that are left
abbrev number_whole : ℕ → ℕ → List ℕ → Result ℕ TextKind
number_whole v n bs =
    if all_ascii_digits bs && nat_le (n + length bs) 20
    then in_range (digits_after v bs) else Err BadNumber

-- one digit more, or a byte that is none
step : (v n b : ℕ) (bs : List ℕ) (d : Bool) → n ≤ 20
    → (cond (d && nat_lt n 20) (number_whole (10 * v + (b - 48)) (n + 1) bs) (Err BadNumber))
    ≡ (cond ((d && all_ascii_digits bs) && nat_le (n + length (b ∷ bs)) 20)
    (in_range (digits_after (10 * v + (b - 48)) bs)) (Err BadNumber))
step v n b bs false h = refl
step v n b bs true h = grind (arith, nat_tests, common_steps)

-- both readings agree after the first digit
pub number_rest-whole : (v n : ℕ) (bs : List ℕ) → 0 < n → n ≤ 20
    → number_rest v n bs ≡ number_whole v n bs
number_rest-whole v n [] h k = grind (arith, nat_tests, common_steps)
number_rest-whole v n (b ∷ bs) h k = elim (cases_lt n 20) [
  | inl lt ↦
      ap (λ r. cond (is_ascii_digit b && nat_lt n 20) r (Err BadNumber))
      (number_rest-whole (10 * v + (b - 48)) (n + 1) bs (omega arith) (omega arith))
      ∙ step v n b bs (is_ascii_digit b) k
  | inr ge ↦
      let e : (is_ascii_digit b && nat_lt n 20) ≡ false = and_right _ _ (le-ltb n 20 ge) in
      cond-false _ _ _ e ∙ sym (cond-false _ _ _ e) ∙ step v n b bs (is_ascii_digit b) k
]

-- the number of a whole operand is that of all its bytes, before any was read
pub number_begins : (bs : List ℕ) → number_of bs ≡ number_rest 0 0 bs
number_begins [] = refl
number_begins (b ∷ bs) = sym (
    ap (λ r. cond (is_ascii_digit b && nat_lt 0 20) r (Err BadNumber))
    (number_rest-whole (10 * 0 + (b - 48)) (0 + 1) bs (omega arith) (omega arith))
    ∙ step 0 0 b bs (is_ascii_digit b) (omega arith)
    ∙ ap (λ k. cond ((is_ascii_digit b && all_ascii_digits bs) && nat_le k 20)
    (in_range (digits_after (10 * 0 + (b - 48)) bs)) (Err BadNumber))
    (zero-add (length (b ∷ bs))))
