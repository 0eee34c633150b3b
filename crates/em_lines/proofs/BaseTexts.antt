-- The text of pairs whose keys rise is a base of these pairs.
use Rattle.std.proofs.Common.{◌≡◌, ℕ, ◌+◌, ◌-◌, ◌*◌, ◌<◌, ◌≤◌, ◌^◌, true, false, List, [], ◌∷◌, ◌++◌, length, Result, Ok, Err, refl, sym, ap, ◌∙◌, arith, append_assoc, Option, Some, None, decimal}
use Rattle.std.specs.Prelude.{◌==◌, ◌&&◌, All, nat_le, nat_lt}
use Rattle.std.specs.Map.{keys_of}
use Rattle.std.specs.Str.{all_ascii_digits}
use Rattle.std.proofs.lemmas.Bool.{and_from, cond-false, cond-true, le-leb, le-ltb, lt-ltb, ne_eqb}
use Rattle.std.proofs.lemmas.Fmt.{decimal_nonempty, digits_decimal, digits_value-decimal, length-decimal-le}
use Rattle.std.proofs.lemmas.List.{append-nil, length-append}
use Rattle.std.proofs.lemmas.List.Concat.{flat_map-cons}
use Rattle.std.proofs.lemmas.List.Elements.{All-head, All-tail}
use Rattle.std.proofs.lemmas.Str.Parse.{FoldsDigits, IsNumeralModel, numerals_by_fold, tells_all_ascii_digits}
use Rattle.em_model.specs.Ascending.{RisesFrom}
use Rattle.em_model.specs.Base.{KeysRise}
use Rattle.em_lines.specs.BaseLine.{ParsedBase, above, base_fault, base_from, base_pairs, before_pairs, key_of, next_pair, numbered_pair, pair_line, pair_of, pair_of_parts, pair_word, pairs_text, with_value}
use Rattle.em_lines.specs.CommandLine.{◌>>=◌, at_end, digits_after, in_range, number_of}
use Rattle.em_lines.specs.Lines.{before_lines, before_parts, lines_of, parts_of}
use Rattle.em_lines.specs.PairTaken.{FitsWords}
use Rattle.em_lines.specs.declared.text.TextKind.{TextKind}
use Rattle.em_lines.specs.declared.text.TextKind.TheVariants.{BadNumber, OutOfOrder, TooLarge, TooLong}
use Rattle.em_lines.proofs.BaseLaws.{least_key}
use Rattle.em_lines.proofs.PairLemmas.{pair_of-some}

-- Numbers in decimal.

folds_digits : FoldsDigits digits_after
folds_digits = record { empty = λ n. refl; more = λ n c cs k. same n c cs }
  where
    same : (n c : ℕ) (cs : List ℕ) → digits_after (10 * n + (c - 48)) cs ≡ digits_after (n * 10 + (c - 48)) cs
    same n c cs =
        let e : 10 * n + (c - 48) ≡ n * 10 + (c - 48) = omega arith in
        ap (λ (m : ℕ). digits_after m cs) e

own_digits : IsNumeralModel (λ (ds : List ℕ). all_ascii_digits ds ≡ true) (digits_after 0)
own_digits = numerals_by_fold (λ (ds : List ℕ). all_ascii_digits ds ≡ true) tells_all_ascii_digits digits_after folds_digits

number_of-digits : (ds : List ℕ) (n : ℕ) → 0 < length ds → all_ascii_digits ds ≡ true → length ds ≤ 20
    → digits_after 0 ds ≡ n → n < 2 ^ 64 → number_of ds ≡ Ok n
number_of-digits [] n some digits few value small = absurd (omega (arith, some))
number_of-digits (b ∷ bs) n some digits few value small =
    cond-true (all_ascii_digits (b ∷ bs) && nat_le (length (b ∷ bs)) 20) (in_range (digits_after 0 (b ∷ bs))) (Err BadNumber)
    (and_from (all_ascii_digits (b ∷ bs)) (nat_le (length (b ∷ bs)) 20) digits (le-leb (length (b ∷ bs)) 20 few))
    ∙ ap in_range value ∙ cond-true (nat_lt n (2 ^ 64)) (Ok n) (Err TooLarge) (lt-ltb n (2 ^ 64) small)

-- a number of 64 bits in decimal spells that number
pub number_of-decimal : (n : ℕ) → n < 2 ^ 64 → number_of (decimal n) ≡ Ok n
number_of-decimal n small =
    let few : length (decimal n) ≤ 20 = length-decimal-le 20 n (omega arith) (omega arith) small in
    number_of-digits (decimal n) n (decimal_nonempty n small) (digits_decimal own_digits n small) few
    (digits_value-decimal own_digits n small) small

-- Lines and parts of digits.

no_byte : (b k : ℕ) → 48 ≤ b → k < 48 → (b == k) ≡ false
no_byte b k h less = ne_eqb b k (λ e. omega (arith, e, h, less))

parts_digits : (ds : List ℕ) → all_ascii_digits ds ≡ true → parts_of ds ≡ ds ∷ []
parts_digits [] digits = refl
parts_digits (b ∷ bs) digits =
    let k = tells_all_ascii_digits.parts b bs digits in
    ap (before_parts b) (parts_digits bs k.1)
    ∙ cond-false (b == 32) ([] ∷ bs ∷ []) ((b ∷ bs) ∷ []) (no_byte b 32 k.0.0 (omega arith))

parts_front : (ds rest : List ℕ) → all_ascii_digits ds ≡ true → parts_of (ds ++ 32 ∷ rest) ≡ ds ∷ parts_of rest
parts_front [] rest digits = refl
parts_front (b ∷ bs) rest digits =
    let k = tells_all_ascii_digits.parts b bs digits in
    ap (before_parts b) (parts_front bs rest k.1)
    ∙ cond-false (b == 32) ([] ∷ bs ∷ parts_of rest) ((b ∷ bs) ∷ parts_of rest) (no_byte b 32 k.0.0 (omega arith))

lines_digits : (ds rest first : List ℕ) (lines : List (List ℕ)) → all_ascii_digits ds ≡ true
    → lines_of rest ≡ first ∷ lines → lines_of (ds ++ rest) ≡ (ds ++ first) ∷ lines
lines_digits [] rest first lines digits e = e
lines_digits (b ∷ bs) rest first lines digits e =
    let k = tells_all_ascii_digits.parts b bs digits in
    ap (before_lines b) (lines_digits bs rest first lines k.1 e)
    ∙ cond-false (b == 10) ([] ∷ (bs ++ first) ∷ lines) ((b ∷ (bs ++ first)) ∷ lines) (no_byte b 10 k.0.0 (omega arith))

-- two numbers with a space between and a newline after them are a line
line_front : (ds es rest : List ℕ) → all_ascii_digits ds ≡ true → all_ascii_digits es ≡ true
    → lines_of (((ds ++ 32 ∷ es) ++ 10 ∷ []) ++ rest) ≡ (ds ++ 32 ∷ es) ∷ lines_of rest
line_front ds es rest first second =
    let ended : lines_of (es ++ 10 ∷ rest) ≡ es ∷ lines_of rest =
    lines_digits es (10 ∷ rest) [] (lines_of rest) second refl
    ∙ ap (λ (line : List ℕ). line ∷ lines_of rest) (append-nil es) in
    ap lines_of (append_assoc (ds ++ 32 ∷ es) (10 ∷ []) rest ∙ append_assoc ds (32 ∷ es) (10 ∷ rest))
    ∙ lines_digits ds (32 ∷ (es ++ 10 ∷ rest)) (32 ∷ es) (lines_of rest) first (ap (before_lines 32) ended)

-- The line of a pair.

-- a key and a value of 64 bits in decimal, with a space between, spell the pair
pub pair_of-decimals : (key value : ℕ) → key < 2 ^ 64 → value < 2 ^ 64
    → pair_of (decimal key ++ 32 ∷ decimal value) ≡ Ok (key, value)
pair_of-decimals key value k v =
    let line = decimal key ++ 32 ∷ decimal value in
    let some : 0 < length line = omega (arith, length-append (decimal key) (32 ∷ decimal value)) in
    let parts : parts_of line ≡ decimal key ∷ decimal value ∷ [] =
    parts_front (decimal key) (decimal value) (digits_decimal own_digits key k)
    ∙ ap (λ (ps : List (List ℕ)). decimal key ∷ ps) (parts_digits (decimal value) (digits_decimal own_digits value v)) in
    sym (pair_of-some line some) ∙ ap pair_of_parts parts
    ∙ ap (λ (r : Result ℕ TextKind). r >>= λ (x : ℕ). with_value x (decimal value ∷ [])) (number_of-decimal key k)
    ∙ ap (λ (r : Result ℕ TextKind). r >>= λ (x : ℕ). at_end {A = ℕ × ℕ} [] (key, x)) (number_of-decimal value v)

-- the line of a pair spells the pair
pub pair_of-word : (pair : ℕ × ℕ) → FitsWords pair → pair_of (pair_word pair) ≡ Ok pair
pair_of-word pair fits = pair_of-decimals pair.0 pair.1 fits.key fits.value

-- Many lines.

above_least : (last : Option ℕ) (pair : ℕ × ℕ) → least_key last ≤ pair.0 → above last pair ≡ Ok pair
above_least None pair h = refl
above_least (Some last) pair h =
    cond-true (nat_lt last pair.0) (Ok pair) (Err OutOfOrder) (lt-ltb last pair.0 (omega (arith, h)))

numbered_word : (number : ℕ) (last : Option ℕ) (pair : ℕ × ℕ) → number ≤ 2 ^ 40 → FitsWords pair
    → least_key last ≤ pair.0 → numbered_pair number last (pair_word pair) ≡ Ok pair
numbered_word number last pair few fits least =
    cond-false (nat_lt (2 ^ 40) number) (Err TooLong) (next_pair last (pair_word pair))
    (le-ltb (2 ^ 40) number few)
    ∙ ap (λ (r : Result (ℕ × ℕ) TextKind). r >>= above last) (pair_of-word pair fits)
    ∙ above_least last pair least

text_from : (ps : List (ℕ × ℕ)) (number : ℕ) (last : Option ℕ) → RisesFrom (least_key last) (keys_of ps)
    → All FitsWords ps → number + length ps ≤ 2 ^ 40 + 1
    → base_from number last (lines_of (pairs_text ps)) ≡ record { pairs = ps; fault = None }
text_from [] number last rise fits few = refl
text_from (p ∷ ps) number last (first, rest) fits few =
    let fit : FitsWords p = All-head FitsWords p ps fits in
    let lines = lines_of (pairs_text ps) in
    let spelled : numbered_pair number last (pair_word p) ≡ Ok p =
    numbered_word number last p (omega (arith, few)) fit first in
    ap (λ (text : List ℕ). base_from number last (lines_of text)) (flat_map-cons pair_line p ps)
    ∙ ap (base_from number last)
    (line_front (decimal p.0) (decimal p.1) (pairs_text ps)
    (digits_decimal own_digits p.0 fit.key) (digits_decimal own_digits p.1 fit.value))
    ∙ ap (λ (r : Result (ℕ × ℕ) TextKind). before_pairs number r (base_from (number + 1) (key_of r) lines)) spelled
    ∙ ap (before_pairs number (Ok p))
    (text_from ps (number + 1) (Some p.0) rest (All-tail FitsWords p ps fits) (omega (arith, few)))

-- The text of at most 2 ^ 40 pairs of 64 bits whose keys rise is a base of these pairs,
pub base_pairs-text : (ps : List (ℕ × ℕ)) → KeysRise ps → All FitsWords ps → length ps ≤ 2 ^ 40
    → base_pairs (pairs_text ps) ≡ ps
base_pairs-text ps rise fits few =
    ap (λ (p : ParsedBase). p.pairs) (text_from ps 1 None rise fits (omega (arith, few)))

-- and has no fault.
pub base_fault-text : (ps : List (ℕ × ℕ)) → KeysRise ps → All FitsWords ps → length ps ≤ 2 ^ 40
    → base_fault (pairs_text ps) ≡ None
base_fault-text ps rise fits few =
    ap (λ (p : ParsedBase). p.fault) (text_from ps 1 None rise fits (omega (arith, few)))
