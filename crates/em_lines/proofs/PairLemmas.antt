-- The first line of what is left of a base, as a pair.
use Rattle.std.proofs.Common.{◌≡◌, ℕ, ◌+◌, ◌<◌, ◌≤◌, ◌^◌, List, [], ◌∷◌, length, Result, Ok, Err, refl, sym, ap, ◌∙◌, arith}
use Rattle.std.specs.Prelude.{Option, Some}
use Rattle.std.proofs.lemmas.Bool.{cond-false, cond-true, le-ltb, lt-ltb}
use Rattle.em_lines.specs.BaseLine.{ParsedBase, base_from, before_pairs, key_of, next_pair, numbered_pair, pair_of, pair_of_parts}
use Rattle.em_lines.specs.Lines.{lines_of, parts_of}
use Rattle.em_lines.specs.PairTaken.{PairTaken}
use Rattle.em_lines.specs.Stops.{IfFault, StopsBy}
use Rattle.em_lines.specs.Stream.{after_line, line_at}
use Rattle.em_lines.specs.declared.text.LineStop.{LineStop}
use Rattle.em_lines.specs.declared.text.LineStop.TheVariants as stop
use Rattle.em_lines.specs.declared.text.TextKind.{TextKind}
use Rattle.em_lines.specs.declared.text.TextKind.TheVariants.{TooLong}
use Rattle.em_lines.proofs.LineLemmas.{lines_of-line_at}

-- the pair of a line that has a byte is that of its parts
pub pair_of-some : (line : List ℕ) → 0 < length line → pair_of_parts (parts_of line) ≡ pair_of line
pair_of-some [] some = absurd (omega (arith, some))
pair_of-some (b ∷ bs) some = refl

-- what is parsed of lines, of which the first has this number and this result
abbrev parsed_with : ℕ → List (List ℕ) → Result (ℕ × ℕ) TextKind → ParsedBase
parsed_with n lines r = before_pairs n r (base_from (n + 1) (key_of r) lines)

pairs_next : (n : ℕ) (last : Option ℕ) (b : ℕ) (s bs : List ℕ) → s ≡ b ∷ bs
    → base_from n last (lines_of s)
    ≡ parsed_with n (lines_of (after_line s)) (numbered_pair n last (line_at s))
pairs_next n last b s bs e =
    ap (λ (t : List ℕ). base_from n last (lines_of t)) e
    ∙ ap (base_from n last) (lines_of-line_at b bs)
    ∙ ap (λ (t : List ℕ). parsed_with n (lines_of (after_line t)) (numbered_pair n last (line_at t))) (sym e)

-- what a line that isn't too many spells
early : (n : ℕ) (last : Option ℕ) (line : List ℕ) (r : Result (ℕ × ℕ) TextKind) → n ≤ 2 ^ 40
    → next_pair last line ≡ r → numbered_pair n last line ≡ r
early n last line r few spells =
    cond-false _ _ _ (le-ltb (2 ^ 40) n few) ∙ spells

-- a line that spells a pair
pub pair_taken : (n : ℕ) (last : Option ℕ) (b : ℕ) (s bs t : List ℕ) (pair : ℕ × ℕ) → s ≡ b ∷ bs
    → n ≤ 2 ^ 40 → next_pair last (line_at s) ≡ Ok pair → t ≡ after_line s
    → PairTaken n last s t pair
pair_taken n last b s bs t pair e few spells after = record {
  from = pairs_next n last b s bs e
      ∙ ap (parsed_with n (lines_of (after_line s))) (early n last (line_at s) (Ok pair) few spells)
      ∙ ap (λ (u : List ℕ). parsed_with n (lines_of u) (Ok pair)) (sym after);
  some = omega (arith, ap length e);
  after_is = after;
}

-- a line with a fault
pub pair_faulty : (n : ℕ) (last : Option ℕ) (b : ℕ) (s bs : List ℕ) (e : LineStop) → s ≡ b ∷ bs
    → n ≤ 2 ^ 40 → StopsBy e (next_pair last (line_at s))
    → IfFault e (λ f. base_from n last (lines_of s) ≡ record { pairs = []; fault = Some (f, n) })
pair_faulty n last b s bs (stop.Fault f) e few spells =
    pairs_next n last b s bs e
    ∙ ap (parsed_with n (lines_of (after_line s))) (early n last (line_at s) (Err f) few spells)
pair_faulty n last b s bs stop.Read e few spells = tt

-- a line past the last one that a base may have
pub pair_late : (n : ℕ) (last : Option ℕ) (b : ℕ) (s bs : List ℕ) → s ≡ b ∷ bs → 2 ^ 40 < n
    → base_from n last (lines_of s) ≡ record { pairs = []; fault = Some (TooLong, n) }
pair_late n last b s bs e many =
    pairs_next n last b s bs e
    ∙ ap (parsed_with n (lines_of (after_line s))) (cond-true _ _ _ (lt-ltb (2 ^ 40) n many))
