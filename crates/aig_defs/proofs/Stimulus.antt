-- The lines of a stimulus, one after another: what is read of the first one, and the rest. And how
-- many were begun.
use Rattle.std.proofs.Common.{◌≡◌, ◌+◌, ◌^◌, ◌<◌, ◌≤◌, Bool, true, false, cond, eqb, ltb, List, [], ◌∷◌, ◌++◌, ℕ, zero, suc, sym, ap, ◌∙◌, refl, arith, length, map, Some, All, append_assoc}
use Rattle.std.proofs.lemmas.Bool.{lt-ltb, ltb-true, false_from_ne_true}
use Rattle.std.proofs.lemmas.List.{length-append, length-map}
use Rattle.std.proofs.lemmas.List.Elements.{All-nil, All-cons}
use Rattle.aig_defs.specs.declared.fault.AigKind.{AigKind}
use Rattle.aig_defs.specs.declared.fault.AigKind.TheVariants.{StimLength, StimChar}
use Rattle.aig_defs.specs.Begun.{counts_after}
use Rattle.aig_defs.specs.Items.{Reading, Reads, Fails, end_at}
use Rattle.aig_defs.specs.Stimulus.{stimulus_bit_at, stimulus_bit, stimulus_end, stimulus_line, Stimulus, no_steps, line_then, stimulus_within, stimulus_from, stimulus_of, begun_within, begun_from, steps_begun, bit_byte, output_line, output_lines}
use Rattle.aig_defs.proofs.Begun.{after_rises, test_rises}
use Rattle.aig_defs.proofs.Items.{through, Piece, piece_byte, TakesPieces, TakesBytes, value_takes, takes_then, bytes_then, pieces_of, look_cases, end_takes, times_take}
use Rattle.aig_defs.proofs.Ranges.{GivesOnly, value_gives, gives_then, gives_after, times_gives}

-- a bit is a byte
bit_by : (low high line : Bool) (p byte : ℕ) (t : List ℕ) (a : Bool) (q : ℕ) (y : List ℕ)
    → p < 2 ^ 50
    → cond low (Reads false (p + 1) t) (cond high (Reads true (p + 1) t)
    (cond line (Fails StimLength p) (Fails StimChar p))) ≡ Reads a q y
    → Piece p (byte ∷ t) q y × (p < q)
bit_by true high line p byte t a q y low e =
    let place : p + 1 ≡ q = cc in
    let left : t ≡ y = cc in
    (rw (sym place, sym left) (piece_byte p byte t low), omega (arith, place))
bit_by false true line p byte t a q y low e =
    let place : p + 1 ≡ q = cc in
    let left : t ≡ y = cc in
    (rw (sym place, sym left) (piece_byte p byte t low), omega (arith, place))
bit_by false false true p byte t a q y low e = cc
bit_by false false false p byte t a q y low e = cc

pub bit_takes : TakesBytes stimulus_bit
bit_takes p x a q y e = look_cases (λ x. Piece p x q y × (p < q)) stimulus_bit_at p x a q y e
    (λ e. cc)
    (λ byte t low e.
    bit_by (eqb byte 48) (eqb byte 49) (eqb byte 10) p byte t a q y low e)

-- A line is a piece of the text,
pub line_takes : (inputs : ℕ) → TakesPieces (stimulus_line inputs)
line_takes inputs =
    takes_then (times_take inputs 0 (λ j. stimulus_bit) (λ j. pieces_of bit_takes)) (λ bits.
    takes_then (end_takes (λ byte. StimLength)) (λ a.
    value_takes bits))

end_byte : (one : Bool) (p : ℕ) (t : List ℕ) (a : Unit {0}) (q : ℕ) (y : List ℕ)
    → cond one (Reads tt (p + 1) t) (Fails StimLength p) ≡ Reads a q y → p < q
end_byte true p t a q y e = let place : p + 1 ≡ q = cc in omega (arith, place)
end_byte false p t a q y e = cc

end_some : (p : ℕ) (x : List ℕ) (a : Unit {0}) (q : ℕ) (y : List ℕ) → (x ≡ [] → ⊥)
    → stimulus_end p x ≡ Reads a q y → p < q
end_some p x a q y some e = look_cases (λ x. (x ≡ [] → ⊥) → p < q) (end_at (λ byte. StimLength))
    p x a q y e
    (λ e none. absurd (none refl))
    (λ byte t low e none. end_byte (eqb byte 10) p t a q y e) some

-- and it has a byte if something is left.
pub line_some : (inputs p : ℕ) (x : List ℕ) (bits : List Bool) (q : ℕ) (y : List ℕ)
    → (x ≡ [] → ⊥) → stimulus_line inputs p x ≡ Reads bits q y → p < q
line_some zero p x bits q y some e =
    let t = through (stimulus_end p x) (λ (a : Unit {0}). Reads []) bits q y e in
    let place : t.place ≡ q = same_place t.place q t.left y bits t.after in
    let less = end_some p x t.value t.place t.left some t.first in
    omega (arith, place, less)
  where
    same_place : (p q : ℕ) (x y : List ℕ) (bits : List Bool)
        → ◌≡◌ {A = Reading (List Bool)} (Reads [] p x) (Reads bits q y) → p ≡ q
    same_place p q x y bits e = cc
line_some (suc n) p x bits q y some e =
    (bytes_then (bytes_then bit_takes (λ first.
    takes_then (times_take n 1 (λ j. stimulus_bit) (λ j. pieces_of bit_takes)) (λ rest.
    value_takes (first ∷ rest)))) (λ bits.
    takes_then (end_takes (λ byte. StimLength)) (λ a. value_takes bits)) p x bits q y e).1

-- It has a bit for each input.
abbrev HasWidth : ℕ → List Bool → Type 0
HasWidth inputs bits = length bits ≡ inputs

line_gives : (inputs : ℕ) → GivesOnly (HasWidth inputs) (stimulus_line inputs)
line_gives inputs =
    gives_then (times_gives (λ bit. Unit {0}) inputs 0 (λ j. stimulus_bit)
    (λ j over under p x a q y e. tt)) (λ bits h.
    gives_after stimulus_end (λ a. value_gives (HasWidth inputs) bits h.count))

pub line_width : (inputs p : ℕ) (x : List ℕ) (bits : List Bool) (q : ℕ) (y : List ℕ)
    → stimulus_line inputs p x ≡ Reads bits q y → length bits ≡ inputs
line_width inputs p x bits q y e = line_gives inputs p x bits q y e

-- what is left after a line is shorter
line_shorter : (inputs p byte : ℕ) (x : List ℕ) (bits : List Bool) (q : ℕ) (y : List ℕ)
    → stimulus_line inputs p (byte ∷ x) ≡ Reads bits q y → length y ≤ length x
line_shorter inputs p byte x bits q y e =
    let m = line_takes inputs p (byte ∷ x) bits q y e in
    let some : byte ∷ x ≡ [] → ⊥ = λ none. cc in
    let less = line_some inputs p (byte ∷ x) bits q y some e in
    let whole = ap length m.text in
    omega (arith, m.place, less, whole, length-append m.bytes y)

-- as many lines as bytes are left are enough
then_same : (r : Reading (List Bool)) (f g : ℕ → List ℕ → Stimulus)
    → ((bits : List Bool) (q : ℕ) (y : List ℕ) → r ≡ Reads bits q y → f q y ≡ g q y)
    → line_then r f ≡ line_then r g
then_same (Reads bits q y) f g h =
    ap (λ (s : Stimulus). record { steps = bits ∷ s.steps; fault = s.fault }) (h bits q y refl)
then_same (Fails kind place) f g h = refl

within_same : (m n inputs p : ℕ) (x : List ℕ) → length x ≤ m → length x ≤ n
    → stimulus_within m inputs p x ≡ stimulus_within n inputs p x
within_same zero zero inputs p x a b = refl
within_same zero (suc n) inputs p [] a b = refl
within_same zero (suc n) inputs p (byte ∷ x) a b = absurd (omega (arith, a))
within_same (suc m) zero inputs p [] a b = refl
within_same (suc m) zero inputs p (byte ∷ x) a b = absurd (omega (arith, b))
within_same (suc m) (suc n) inputs p [] a b = refl
within_same (suc m) (suc n) inputs p (byte ∷ x) a b =
    then_same (stimulus_line inputs p (byte ∷ x)) (stimulus_within m inputs)
    (stimulus_within n inputs) (λ bits q y e.
    let less = line_shorter inputs p byte x bits q y e in
    within_same m n inputs q y (omega (arith, a, less)) (omega (arith, b, less)))

from_line : (inputs p byte : ℕ) (x : List ℕ)
    → stimulus_from inputs p (byte ∷ x)
    ≡ line_then (stimulus_line inputs p (byte ∷ x)) (stimulus_from inputs)
from_line inputs p byte x =
    then_same (stimulus_line inputs p (byte ∷ x)) (stimulus_within (length x) inputs)
    (stimulus_from inputs) (λ bits q y e.
    within_same (length x) (length y) inputs q y (line_shorter inputs p byte x bits q y e)
    (omega arith))

-- If nothing is left there is no line.
pub stimulus_none : (inputs p : ℕ) → stimulus_from inputs p [] ≡ no_steps
stimulus_none inputs p = refl

-- A line that is read comes before the lines after it.
pub stimulus_read : (inputs p : ℕ) (x : List ℕ) (bits : List Bool) (q : ℕ) (y : List ℕ)
    → (x ≡ [] → ⊥) → stimulus_line inputs p x ≡ Reads bits q y
    → stimulus_from inputs p x
    ≡ record {
      steps = bits ∷ (stimulus_from inputs q y).steps;
      fault = (stimulus_from inputs q y).fault;
    }
stimulus_read inputs p [] bits q y some e = absurd (some refl)
stimulus_read inputs p (byte ∷ x) bits q y some e =
    from_line inputs p byte x ∙ ap (λ r. line_then r (stimulus_from inputs)) e

-- No line comes after a fault.
pub stimulus_stops : (inputs p : ℕ) (x : List ℕ) (kind : AigKind) (place : ℕ) → (x ≡ [] → ⊥)
    → stimulus_line inputs p x ≡ Fails kind place
    → stimulus_from inputs p x ≡ record { steps = []; fault = Some (kind, place) }
stimulus_stops inputs p [] kind place some e = absurd (some refl)
stimulus_stops inputs p (byte ∷ x) kind place some e =
    from_line inputs p byte x ∙ ap (λ r. line_then r (stimulus_from inputs)) e

-- Each step has a bit for each input.
then_widths : (inputs p : ℕ) (x : List ℕ) (r : Reading (List Bool)) (f : ℕ → List ℕ → Stimulus)
    → stimulus_line inputs p x ≡ r
    → ((q : ℕ) (y : List ℕ) → All (HasWidth inputs) (f q y).steps)
    → All (HasWidth inputs) (line_then r f).steps
then_widths inputs p x (Reads bits q y) f e h =
    All-cons (HasWidth inputs) bits (f q y).steps (line_width inputs p x bits q y e) (h q y)
then_widths inputs p x (Fails kind place) f e h = All-nil (HasWidth inputs)

within_widths : (n inputs p : ℕ) (x : List ℕ)
    → All (HasWidth inputs) (stimulus_within n inputs p x).steps
within_widths zero inputs p x = All-nil (HasWidth inputs)
within_widths (suc n) inputs p [] = All-nil (HasWidth inputs)
within_widths (suc n) inputs p (byte ∷ x) =
    then_widths inputs p (byte ∷ x) _ (stimulus_within n inputs) refl
    (λ q y. within_widths n inputs q y)

pub steps_have_widths : (inputs : ℕ) (x : List ℕ)
    → All (λ bits. length bits ≡ inputs) (stimulus_of inputs x).steps
steps_have_widths inputs x = within_widths (length x) inputs 0 x

-- the same of the lines that were begun
begun_same_after : (r : Reading (List Bool)) (f g : List Bool → ℕ → List ℕ → ℕ)
    → ((bits : List Bool) (q : ℕ) (y : List ℕ) → r ≡ Reads bits q y → f bits q y ≡ g bits q y)
    → counts_after r f ≡ counts_after r g
begun_same_after (Reads bits q y) f g h = h bits q y refl
begun_same_after (Fails kind place) f g h = refl

begun_same : (m n inputs given p : ℕ) (x : List ℕ) → length x ≤ m → length x ≤ n
    → begun_within m inputs given p x ≡ begun_within n inputs given p x
begun_same zero zero inputs given p x a b = refl
begun_same zero (suc n) inputs given p [] a b = refl
begun_same zero (suc n) inputs given p (byte ∷ x) a b = absurd (omega (arith, a))
begun_same (suc m) zero inputs given p [] a b = refl
begun_same (suc m) zero inputs given p (byte ∷ x) a b = absurd (omega (arith, b))
begun_same (suc m) (suc n) inputs given p [] a b = refl
begun_same (suc m) (suc n) inputs given p (byte ∷ x) a b =
    ap (λ k. cond (ltb p given) (1 + k) 0)
    (begun_same_after (stimulus_line inputs p (byte ∷ x)) (λ _. begun_within m inputs given)
    (λ _. begun_within n inputs given) (λ bits q y e.
    let less = line_shorter inputs p byte x bits q y e in
    begun_same m n inputs given q y (omega (arith, a, less)) (omega (arith, b, less))))

begun_line : (inputs given p byte : ℕ) (x : List ℕ)
    → begun_from inputs given p (byte ∷ x)
    ≡ cond (ltb p given) (1 + counts_after (stimulus_line inputs p (byte ∷ x))
    (λ _. begun_from inputs given)) 0
begun_line inputs given p byte x =
    ap (λ k. cond (ltb p given) (1 + k) 0)
    (begun_same_after (stimulus_line inputs p (byte ∷ x))
    (λ _. begun_within (length x) inputs given)
    (λ _. begun_from inputs given) (λ bits q y e.
    begun_same (length x) (length y) inputs given q y
    (line_shorter inputs p byte x bits q y e) (omega arith)))

-- If nothing is left no line was begun.
pub begun_none : (inputs given p : ℕ) → begun_from inputs given p [] ≡ 0
begun_none inputs given p = refl

-- A line that is read was begun, and so were lines after it.
pub begun_read : (inputs given p : ℕ) (x : List ℕ) (bits : List Bool) (q : ℕ) (y : List ℕ)
    → (x ≡ [] → ⊥) → p < given → stimulus_line inputs p x ≡ Reads bits q y
    → begun_from inputs given p x ≡ 1 + begun_from inputs given q y
begun_read inputs given p [] bits q y some low e = absurd (some refl)
begun_read inputs given p (byte ∷ x) bits q y some low e =
    begun_line inputs given p byte x
    ∙ ap (λ t. cond t (1 + counts_after (stimulus_line inputs p (byte ∷ x))
    (λ _. begun_from inputs given)) 0) (lt-ltb p given low)
    ∙ ap (λ r. 1 + counts_after r (λ _. begun_from inputs given)) e

-- A faulty line was begun, and no line after it.
pub begun_stops : (inputs given p : ℕ) (x : List ℕ) (kind : AigKind) (place : ℕ)
    → (x ≡ [] → ⊥) → p < given → stimulus_line inputs p x ≡ Fails kind place
    → begun_from inputs given p x ≡ 1
begun_stops inputs given p [] kind place some low e = absurd (some refl)
begun_stops inputs given p (byte ∷ x) kind place some low e =
    begun_line inputs given p byte x
    ∙ ap (λ t. cond t (1 + counts_after (stimulus_line inputs p (byte ∷ x))
    (λ _. begun_from inputs given)) 0) (lt-ltb p given low)
    ∙ ap (λ r. 1 + counts_after r (λ _. begun_from inputs given)) e

-- A line whose first byte wasn't given wasn't begun.
pub begun_late : (inputs given p : ℕ) (x : List ℕ) → given ≤ p → begun_from inputs given p x ≡ 0
begun_late inputs given p [] late = refl
begun_late inputs given p (byte ∷ x) late =
    let off = false_from_ne_true (ltb p given)
    (λ t. let less = ltb-true p given t in omega (arith, less, late)) in
    ap (λ t. cond t (1 + counts_after (stimulus_line inputs p (byte ∷ x))
    (λ _. begun_within (length x) inputs given)) 0) off

-- No fewer lines were begun if more was given.
within_rises : (n inputs given more p : ℕ) (x : List ℕ) → given ≤ more
    → begun_within n inputs given p x ≤ begun_within n inputs more p x
within_rises zero inputs given more p x h = omega arith
within_rises (suc n) inputs given more p [] h = omega arith
within_rises (suc n) inputs given more p (byte ∷ x) h =
    let rest = after_rises (stimulus_line inputs p (byte ∷ x)) (λ _. begun_within n inputs given)
    (λ _. begun_within n inputs more)
    (λ bits q y. within_rises n inputs given more q y h) in
    test_rises (ltb p given) (ltb p more) _ _
    (λ low. lt-ltb p more (omega (arith, ltb-true p given low, h))) (omega (arith, rest))

pub begun_from_rises : (inputs given more p : ℕ) (x : List ℕ) → given ≤ more
    → begun_from inputs given p x ≤ begun_from inputs more p x
begun_from_rises inputs given more p x h = within_rises (length x) inputs given more p x h

pub steps_begun_rises : (inputs given more : ℕ) (x : List ℕ) → given ≤ more
    → steps_begun inputs given x ≤ steps_begun inputs more x
steps_begun_rises inputs given more x h = begun_from_rises inputs given more 0 x h

-- the lines of outputs
pub output_line_count : (bits : List Bool) → length (output_line bits) ≡ length bits + 1
output_line_count bits =
    length-append (map bit_byte bits) (10 ∷ [])
    ∙ ap (λ n. n + 1) (length-map bits bit_byte)

pub output_lines_append : (xs ys : List (List Bool))
    → output_lines (xs ++ ys) ≡ output_lines xs ++ output_lines ys
output_lines_append [] ys = refl
output_lines_append (bits ∷ xs) ys =
    ap (λ t. output_line bits ++ t) (output_lines_append xs ys)
    ∙ sym (append_assoc (output_line bits) (output_lines xs)
    (output_lines ys))
