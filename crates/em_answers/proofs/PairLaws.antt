-- Pairs of stabs and intervals, one after another.
use Rattle.std.proofs.Common.{◌≡◌, ℕ, zero, suc, ◌+◌, ◌-◌, ◌<◌, List, [], ◌∷◌, ◌++◌, length, refl, ap, sym, ◌∙◌, arith, append_assoc}
use Rattle.std.specs.Prelude.{decimal}
use Rattle.std.proofs.lemmas.Bool.{cond-false, cond-true, eq-eqb, ne_eqb}
use Rattle.em_record.specs.declared.record.Record.{Record}
use Rattle.em_answers.specs.Answer.{further_words, numbers_line, stab_text}
use Rattle.em_answers.specs.Print.{groups_from, intervals_at, pairs_behind}

-- the first pair is of this stab
pub intervals_same : (stab : ℕ) (x : Record) (xs : List Record) → x.a ≡ stab
    → intervals_at stab (x ∷ xs) ≡ x.b ∷ intervals_at stab xs
intervals_same stab x xs e = cond-true _ _ _ (eq-eqb x.a stab e)

pub behind_same : (stab : ℕ) (x : Record) (xs : List Record) → x.a ≡ stab
    → pairs_behind stab (x ∷ xs) ≡ pairs_behind stab xs
behind_same stab x xs e = cond-true _ _ _ (eq-eqb x.a stab e)

-- the first pair is of another stab, or there is none
pub first_other : (stab : ℕ) (x : Record) (xs : List Record) → (x.a ≡ stab → ⊥)
    → intervals_at stab (x ∷ xs) ≡ []
first_other stab x xs n = cond-false _ _ _ (ne_eqb x.a stab n)

pub no_pair : (stab : ℕ) (xs : List Record) → length xs ≡ 0 → intervals_at stab xs ≡ []
no_pair stab [] e = refl
no_pair stab (x ∷ xs) e = absurd (omega arith)

-- the line of a stab is the first of those that are left
pub groups_next : (stab n : ℕ) (items : List Record) → 0 < n
    → stab_text (groups_from stab n items)
    ≡ numbers_line (intervals_at stab items)
    ++ stab_text (groups_from (stab + 1) (n - 1) (pairs_behind stab items))
groups_next stab zero items some = absurd (omega arith)
groups_next stab (suc n) items some =
    let e : suc n - 1 ≡ n = omega arith in
    ap (λ m. numbers_line (intervals_at stab items)
    ++ stab_text (groups_from (stab + 1) m (pairs_behind stab items))) (sym e)

-- what is to go after a pair of this stab was read
pub words_same : (stab : ℕ) (x : Record) (items xs : List Record) (front : List ℕ) → x.a ≡ stab
    → items ≡ x ∷ xs → front ++ further_words (intervals_at stab items)
    ≡ front ++ ((32 ∷ []) ++ (decimal x.b ++ further_words (intervals_at stab xs)))
words_same stab x items xs front e read =
    ap (λ l. front ++ further_words (intervals_at stab l)) read
    ∙ ap (λ l. front ++ further_words l) (intervals_same stab x xs e)

-- the line of a stab that has a pair
pub line_same : (stab : ℕ) (x : Record) (xs : List Record) → x.a ≡ stab
    → numbers_line (intervals_at stab (x ∷ xs))
    ≡ decimal x.b ++ (further_words (intervals_at stab xs) ++ 10 ∷ [])
line_same stab x xs e =
    ap numbers_line (intervals_same stab x xs e)
    ∙ append_assoc (decimal x.b) (further_words (intervals_at stab xs)) (10 ∷ [])
