-- The numbers of a base have 64 bits.
use Rattle.std.proofs.Common.{ℕ, ◌+◌, ◌<◌, ◌^◌, Bool, true, false, cond, List, [], ◌∷◌, length, Result, Ok, Err, sym, subst, Option, Some, None, inl, inr}
use Rattle.std.specs.Prelude.{◌&&◌, All, IfOk, drop, nat_le, nat_lt}
use Rattle.std.specs.Str.{all_ascii_digits}
use Rattle.std.proofs.lemmas.Bool.{cases_lt, le-ltb, lt-ltb}
use Rattle.std.proofs.lemmas.List.Elements.{All-cons, All-nil}
use Rattle.em_lines.specs.BaseLine.{ParsedBase, above, base_from, base_pairs, before_pairs, key_of, next_pair, numbered_pair, pair_of, with_value}
use Rattle.em_lines.specs.CommandLine.{◌>>=◌, at_end, digits_after, in_range, number_of, operand}
use Rattle.em_lines.specs.Lines.{lines_of, parts_of}
use Rattle.em_lines.specs.PairTaken.{FitsWords}
use Rattle.em_lines.specs.declared.text.TextKind.{TextKind}
use Rattle.em_lines.specs.declared.text.TextKind.TheVariants.{BadNumber, OutOfOrder, TooLarge, TooLong}

-- a number of 64 bits
abbrev Small : ℕ → Type 0
Small n = n < 2 ^ 64

-- The number of an operand.

range_fits : (n : ℕ) → IfOk (in_range n) Small
range_fits n = elim (cases_lt n (2 ^ 64)) [
  | inl small ↦ subst (λ (b : Bool). IfOk (cond b (Ok n) (Err TooLarge)) Small) (sym (lt-ltb n (2 ^ 64) small)) small
  | inr large ↦ subst (λ (b : Bool). IfOk (cond b (Ok n) (Err TooLarge)) Small) (sym (le-ltb n (2 ^ 64) large)) tt
]

digits_fit : (digits : Bool) (n : ℕ) → IfOk (cond digits (in_range n) (Err BadNumber)) Small
digits_fit true n = range_fits n
digits_fit false n = tt

number_fits : (word : List ℕ) → IfOk (number_of word) Small
number_fits [] = tt
number_fits (b ∷ bs) =
    digits_fit (all_ascii_digits (b ∷ bs) && nat_le (length (b ∷ bs)) 20) (digits_after 0 (b ∷ bs))

operand_fits : (parts : List (List ℕ)) → IfOk (operand parts) Small
operand_fits [] = tt
operand_fits (part ∷ parts) = number_fits part

-- The pair of a line.

end_fits : (parts : List (List ℕ)) (pair : ℕ × ℕ) → FitsWords pair → IfOk (at_end parts pair) FitsWords
end_fits [] pair h = h
end_fits (part ∷ parts) pair h = tt

value_fits : (r : Result ℕ TextKind) (n : ℕ) (parts : List (List ℕ)) → Small n → IfOk r Small
    → IfOk (r >>= λ (x : ℕ). at_end parts (n, x)) FitsWords
value_fits (Ok x) n parts first h = end_fits parts (n, x) (record { key = first; value = h })
value_fits (Err fault) n parts first h = tt

key_fits : (r : Result ℕ TextKind) (parts : List (List ℕ)) → IfOk r Small
    → IfOk (r >>= λ (x : ℕ). with_value x parts) FitsWords
key_fits (Ok n) parts h = value_fits (operand parts) n (drop 1 parts) h (operand_fits parts)
key_fits (Err fault) parts h = tt

pair_fits : (line : List ℕ) → IfOk (pair_of line) FitsWords
pair_fits [] = tt
pair_fits (b ∷ bs) =
    key_fits (operand (parts_of (b ∷ bs))) (drop 1 (parts_of (b ∷ bs))) (operand_fits (parts_of (b ∷ bs)))

order_fits : (rises : Bool) (pair : ℕ × ℕ) → FitsWords pair → IfOk (cond rises (Ok pair) (Err OutOfOrder)) FitsWords
order_fits true pair h = h
order_fits false pair h = tt

next_fits : (last : Option ℕ) (r : Result (ℕ × ℕ) TextKind) → IfOk r FitsWords → IfOk (r >>= above last) FitsWords
next_fits None (Ok pair) h = h
next_fits (Some last) (Ok pair) h = order_fits (nat_lt last pair.0) pair h
next_fits last (Err fault) h = tt

numbered_fits : (late : Bool) (r : Result (ℕ × ℕ) TextKind) → IfOk r FitsWords
    → IfOk (cond late (Err TooLong) r) FitsWords
numbered_fits true r h = tt
numbered_fits false r h = h

-- All pairs.

fit_step : (number : ℕ) (r : Result (ℕ × ℕ) TextKind) (rest : ParsedBase) → IfOk r FitsWords
    → All FitsWords rest.pairs → All FitsWords (before_pairs number r rest).pairs
fit_step number (Ok pair) rest h all = All-cons FitsWords pair rest.pairs h all
fit_step number (Err fault) rest h all = All-nil FitsWords

fit_from : (number : ℕ) (last : Option ℕ) (lines : List (List ℕ)) → All FitsWords (base_from number last lines).pairs
fit_from number last [] = All-nil FitsWords
fit_from number last (line ∷ lines) =
    let r = numbered_pair number last line in
    fit_step number r (base_from (number + 1) (key_of r) lines)
    (numbered_fits (nat_lt (2 ^ 40) number) (next_pair last line) (next_fits last (pair_of line) (pair_fits line)))
    (fit_from (number + 1) (key_of r) lines)

-- So does each of a whole base.
pub base_fits : (text : List ℕ) → All FitsWords (base_pairs text)
base_fits text = fit_from 1 None (lines_of text)
