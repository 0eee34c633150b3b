-- Reading a base pair by pair: what was read, and how it is counted.
use Rattle.std.proofs.Common.{◌≡◌, ℕ, ◌+◌, ◌-◌, ◌≤◌, List, [], ◌∷◌, ◌++◌, length, sym, subst, ap, refl, ◌∙◌, arith, append_assoc, zero-add, Option, Some, None}
use Rattle.std.proofs.lemmas.List.{append-nil, length-append}
use Rattle.std.proofs.Math.Nat.{add_assoc}
use Rattle.em_io.specs.declared.shelf.Slot.{Slot}
use Rattle.em_io.specs.Feed.{Fed, rest}
use Rattle.em_io.specs.Shelf.{Stand}
use Rattle.em_lines.specs.BaseLine.{ParsedBase, base_fault, base_from, base_pairs}
use Rattle.em_lines.specs.Lines.{lines_of}
use Rattle.em_lines.specs.PairTaken.{PairTaken}
use Rattle.em_lines.specs.RunSize.{lines_given, pairs_taken}
use Rattle.em_lines.specs.Stream.{after_line}
use Rattle.em_lines.specs.declared.text.TextKind.{TextKind}
use Rattle.em_lines.proofs.ReadLaws.{after_line_shorter, within_grows, within_more}

-- These pairs were read of a base, of which the last has this key, and this is left of it.
pub record PairsRead (text left : List ℕ) (read : List (ℕ × ℕ)) (last : Option ℕ) : Type 0 where
  pub shorter : length left ≤ length text
  pub pairs : base_pairs text ≡ read ++ (base_from (length read + 1) last (lines_of left)).pairs
  pub fault : base_fault text ≡ (base_from (length read + 1) last (lines_of left)).fault
  pub within : (e : ℕ)
      → lines_given (length text - length left + e) text ≡ length read + lines_given e left

-- before the first line
pub none_read : (text : List ℕ) → PairsRead text text [] None
none_read text = record {
  shorter = omega arith;
  pairs = refl;
  fault = refl;
  within = λ e.
      let n : length text - length text + e ≡ e = omega arith in
      ap (λ (g : ℕ). lines_given g text) n ∙ sym (zero-add (lines_given e text));
}

-- one pair more
pub one_read : (text left after : List ℕ) (read : List (ℕ × ℕ)) (last : Option ℕ) (pair : ℕ × ℕ)
    → PairsRead text left read last → PairTaken (length read + 1) last left after pair
    → PairsRead text after (read ++ pair ∷ []) (Some pair.0)
one_read text [] after read last pair h taken = absurd (omega (arith, taken.some))
one_read text (b ∷ bs) after read last pair h taken =
    let s = after_line_shorter (b ∷ bs) in
    let a : length after ≡ length (after_line (b ∷ bs)) = ap length taken.after_is in
    let more : length read + 1 ≡ length (read ++ pair ∷ []) = omega (arith, length-append read (pair ∷ [])) in
    let behind = base_from (length read + 1 + 1) (Some pair.0) (lines_of after) in
    record {
      shorter = omega (arith, h.shorter, s, a);
      pairs = h.pairs ∙ ap (λ (p : ParsedBase). read ++ p.pairs) taken.from
          ∙ sym (append_assoc read (pair ∷ []) behind.pairs)
          ∙ ap (λ (n : ℕ). (read ++ pair ∷ []) ++ (base_from (n + 1) (Some pair.0) (lines_of after)).pairs) more;
      fault = h.fault ∙ ap (λ (p : ParsedBase). p.fault) taken.from
          ∙ ap (λ (n : ℕ). (base_from (n + 1) (Some pair.0) (lines_of after)).fault) more;
      within = λ e.
          let n : length text - length after + e
          ≡ length text - length (b ∷ bs)
          + (length (b ∷ bs) - length (after_line (b ∷ bs)) + e) =
          omega (arith, h.shorter, s, a) in
          let m = within_more b (b ∷ bs) bs e refl in
          ap (λ (g : ℕ). lines_given g text) n
          ∙ h.within (length (b ∷ bs) - length (after_line (b ∷ bs)) + e)
          ∙ ap (λ (x : ℕ). length read + x) m ∙ sym (add_assoc (length read) 1 _)
          ∙ ap (λ (t : List ℕ). length read + 1 + lines_given e t) (sym taken.after_is)
          ∙ ap (λ (x : ℕ). x + lines_given e after) more;
    }

-- At the base's end these are all its pairs, and it has no fault.
pub all_read : (text left : List ℕ) (read : List (ℕ × ℕ)) (last : Option ℕ) → PairsRead text left read last
    → left ≡ [] → (base_pairs text ≡ read) × (base_fault text ≡ None)
all_read text left read last h e = (
  h.pairs ∙ ap (λ (s : List ℕ). read ++ (base_from (length read + 1) last (lines_of s)).pairs) e ∙ append-nil read,
  h.fault ∙ ap (λ (s : List ℕ). (base_from (length read + 1) last (lines_of s)).fault) e,
)

-- At a faulty line these are the pairs before its fault, which is the base's.
pub read_stopped : (text left : List ℕ) (read : List (ℕ × ℕ)) (last : Option ℕ) (fault : TextKind) (number : ℕ)
    → PairsRead text left read last
    → base_from (length read + 1) last (lines_of left) ≡ record { pairs = []; fault = Some (fault, number) }
    → (base_pairs text ≡ read) × (base_fault text ≡ Some (fault, number))
read_stopped text left read last fault number h e = (
  h.pairs ∙ ap (λ (p : ParsedBase). read ++ p.pairs) e ∙ append-nil read,
  h.fault ∙ ap (λ (p : ParsedBase). p.fault) e,
)

-- The pairs that were read are no more than those taken, where the run stopped further on in the base.
pub read_within : (text before ahead left : List ℕ) (read : List (ℕ × ℕ)) (last : Option ℕ)
    → PairsRead text before read last → length (ahead ++ left) ≤ length before
    → length read ≤ pairs_taken text left
read_within text before ahead left read last h le =
    let e : lines_given (length text - length before + 0) text ≡ length read + lines_given 0 before = h.within 0 in
    let g = within_grows text (length text - length before + 0)
    (length text - length left) (omega (arith, h.shorter, length-append ahead left)) in
    let all = ap (λ (ps : List (ℕ × ℕ)). length ps) h.pairs in
    let sum = length-append read (base_from (length read + 1) last (lines_of before)).pairs in
    omega (arith, e, g, all, sum)

-- the same of a feed that stands further on in the base
pub read_left : (text before : List ℕ) (feed : Fed) (stand : Stand) (slot : Slot) (read : List (ℕ × ℕ))
    (last : Option ℕ) → PairsRead text before read last → feed.slot ≡ slot
    → length (rest feed stand) ≤ length before → length read ≤ pairs_taken text (stand.slot slot).left
read_left text before feed stand slot read last h same le =
    subst (λ (s : Slot). length read ≤ pairs_taken text (stand.slot s).left) same
    (read_within text before feed.ahead (stand.slot feed.slot).left read last h le)
