-- The pairs of a base: their keys rise, and they are at most 2 ^ 40.
use Rattle.std.proofs.Common.{◌≡◌, ℕ, ◌+◌, ◌≤◌, ◌^◌, Bool, true, false, cond, List, [], ◌∷◌, length, Result, Ok, Err, sym, subst, ap, arith, Option, Some, None, inl, inr}
use Rattle.std.specs.Prelude.{IfOk, nat_lt}
use Rattle.std.specs.Map.{keys_of}
use Rattle.std.proofs.lemmas.Bool.{cases_lt, cond-true, le-ltb, lt-ltb}
use Rattle.em_model.specs.Ascending.{RisesFrom}
use Rattle.em_model.specs.Base.{KeysRise}
use Rattle.em_lines.specs.BaseLine.{ParsedBase, above, base_from, base_pairs, before_pairs, key_of, next_pair, numbered_pair, pair_of}
use Rattle.em_lines.specs.CommandLine.{◌>>=◌}
use Rattle.em_lines.specs.Lines.{lines_of}
use Rattle.em_lines.specs.declared.text.TextKind.{TextKind}
use Rattle.em_lines.specs.declared.text.TextKind.TheVariants.{TooLong, OutOfOrder}

-- Each key is above the one before.

-- the least key that may follow this one
abbrev pub least_key : Option ℕ → ℕ
least_key None = 0
least_key (Some last) = last + 1

above_is : (last : Option ℕ) (pair : ℕ × ℕ) → IfOk (above last pair) (λ (p : ℕ × ℕ). least_key last ≤ p.0)
above_is None pair = omega arith
above_is (Some last) pair = elim (cases_lt last pair.0) [
  | inl over ↦
      subst (λ (b : Bool). IfOk (cond b (Ok pair) (Err OutOfOrder)) (λ (p : ℕ × ℕ). last + 1 ≤ p.0))
      (sym (lt-ltb last pair.0 over)) (omega (arith, over))
  | inr under ↦
      subst (λ (b : Bool). IfOk (cond b (Ok pair) (Err OutOfOrder)) (λ (p : ℕ × ℕ). last + 1 ≤ p.0))
      (sym (le-ltb last pair.0 under)) tt
]

spelled_above : (last : Option ℕ) (r : Result (ℕ × ℕ) TextKind)
    → IfOk (r >>= above last) (λ (p : ℕ × ℕ). least_key last ≤ p.0)
spelled_above last (Ok pair) = above_is last pair
spelled_above last (Err fault) = tt

numbered_above : (late : Bool) (last : Option ℕ) (r : Result (ℕ × ℕ) TextKind)
    → IfOk r (λ (p : ℕ × ℕ). least_key last ≤ p.0)
    → IfOk (cond late (Err TooLong) r) (λ (p : ℕ × ℕ). least_key last ≤ p.0)
numbered_above true last r h = tt
numbered_above false last r h = h

rise_step : (number : ℕ) (last : Option ℕ) (r : Result (ℕ × ℕ) TextKind) (lines : List (List ℕ))
    → IfOk r (λ (p : ℕ × ℕ). least_key last ≤ p.0)
    → ((next : Option ℕ) → RisesFrom (least_key next) (keys_of (base_from (number + 1) next lines).pairs))
    → RisesFrom (least_key last) (keys_of (before_pairs number r (base_from (number + 1) (key_of r) lines)).pairs)
rise_step number last (Ok pair) lines h more = (h, more (Some pair.0))
rise_step number last (Err fault) lines h more = tt

rise_from : (number : ℕ) (last : Option ℕ) (lines : List (List ℕ))
    → RisesFrom (least_key last) (keys_of (base_from number last lines).pairs)
rise_from number last [] = tt
rise_from number last (line ∷ lines) =
    rise_step number last (numbered_pair number last line) lines
    (numbered_above (nat_lt (2 ^ 40) number) last (next_pair last line) (spelled_above last (pair_of line)))
    (λ (next : Option ℕ). rise_from (number + 1) next lines)

-- The keys of a whole base rise.
pub base_rises : (text : List ℕ) → KeysRise (base_pairs text)
base_rises text = rise_from 1 None (lines_of text)

-- No base has more than 2 ^ 40 pairs.

most_step : (number : ℕ) (r : Result (ℕ × ℕ) TextKind) (rest : ParsedBase) → number ≤ 2 ^ 40
    → length rest.pairs + (number + 1) ≤ 2 ^ 40 + 1
    → length (before_pairs number r rest).pairs + number ≤ 2 ^ 40 + 1
most_step number (Ok pair) rest early h = omega (arith, h)
most_step number (Err fault) rest early h = omega (arith, early)

most_late : (number : ℕ) (r : Result (ℕ × ℕ) TextKind) (rest : ParsedBase) → r ≡ Err TooLong
    → number ≤ 2 ^ 40 + 1 → length (before_pairs number r rest).pairs + number ≤ 2 ^ 40 + 1
most_late number r rest e few =
    omega (arith, few, ap (λ (x : Result (ℕ × ℕ) TextKind). length (before_pairs number x rest).pairs) e)

most_from : (number : ℕ) (last : Option ℕ) (lines : List (List ℕ)) → number ≤ 2 ^ 40 + 1
    → length (base_from number last lines).pairs + number ≤ 2 ^ 40 + 1
most_from number last [] few = omega (arith, few)
most_from number last (line ∷ lines) few =
    let r = numbered_pair number last line in
    elim (cases_lt (2 ^ 40) number) [
      | inl late ↦
          most_late number r (base_from (number + 1) (key_of r) lines)
          (cond-true _ _ _ (lt-ltb (2 ^ 40) number late)) few
      | inr early ↦
          most_step number r (base_from (number + 1) (key_of r) lines) early
          (most_from (number + 1) (key_of r) lines (omega (arith, early)))
    ]

pub base_most : (text : List ℕ) → length (base_pairs text) ≤ 2 ^ 40
base_most text =
    let most = most_from 1 None (lines_of text) (omega arith) in omega (arith, most)
