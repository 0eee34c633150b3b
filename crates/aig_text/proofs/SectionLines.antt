-- The lines of a section, one after another.
use Rattle.std.proofs.Common.{◌≡◌, ◌+◌, ◌-◌, ◌*◌, ◌<◌, ◌≤◌, Bool, true, false, cond, List, ℕ, suc, refl, sym, ap, ◌∙◌, subst, arith, Ok, Err}
use Rattle.std.proofs.lemmas.Bool.{le-leb, lt-ltb}
use Rattle.std.proofs.lemmas.List.{length-append}
use Rattle.std.specs.Prelude.{nat_le, nat_lt}
use Rattle.aig_defs.specs.declared.circuit.Header.{Header}
use Rattle.aig_defs.specs.declared.form.Form.{Form}
use Rattle.aig_defs.specs.declared.form.Form.TheVariants.{Ascii, Binary}
use Rattle.aig_defs.specs.Begun.{counts_after, items_begun}
use Rattle.aig_defs.specs.Items.{Reads}
use Rattle.aig_defs.proofs.Items.{TakesBytes, bytes_then, value_takes}
use Rattle.aig_defs.proofs.Order.{ascii_input_takes, latch_row_takes, output_row_takes, gate_row_takes}
use Rattle.aig_text.specs.Listing.{Listing, no_records, appended, record_count, HasCounts}
use Rattle.aig_text.specs.Moment.{Moment, CanFill, Fills, FillsSome, ReadsInto, place_in, read_at}
use Rattle.aig_text.specs.Sections.{of_input, of_latch, of_output, of_gate, section_line, section_lines, has_bytes, line_begun, line_size, lines_begun, lines_size, share, weight, HasLines}
use Rattle.aig_text.specs.Source.{left}
use Rattle.aig_text.specs.declared.section.Section.{Section}
use Rattle.aig_text.specs.declared.section.Section.TheVariants.{Inputs, Latches, Columns, Gates}
use Rattle.aig_text.specs.declared.stop.AigStop.{AigStop}
use Rattle.aig_text.proofs.Drafts.{drafted_is}
use Rattle.aig_text.proofs.Fillings.{Splits, can_fill, fills_none, fills_next, fills_stops, fills_all}
use Rattle.aig_text.proofs.SectionRows.{no_rows, rows_more}
use Rattle.aig_text.proofs.Steadies.{advances_then}

-- Each line has a byte or more,
pub line_takes : (form : Form) (section : Section) (h : Header) (i : ℕ)
    → has_bytes form section ≡ true → TakesBytes (section_line form section h i)
line_takes (Ascii u) Inputs h i b =
    bytes_then (ascii_input_takes u h i) (λ v. value_takes (of_input i v))
line_takes (Binary u) Inputs h i b = cc
line_takes form Latches h i b =
    bytes_then (latch_row_takes form h i) (λ v. value_takes (of_latch i v))
line_takes form Columns h i b = bytes_then (output_row_takes h i) (λ v. value_takes (of_output i v))
line_takes form Gates h i b = bytes_then (gate_row_takes form h i) (λ v. value_takes (of_gate i v))

-- or none.
line_still : (form : Form) (section : Section) (h : Header) (i : ℕ) → has_bytes form section ≡ false
    → (p : ℕ) (x : List ℕ) (a : Listing) (q : ℕ) (y : List ℕ)
    → section_line form section h i p x ≡ Reads a q y → p ≡ q
line_still (Ascii u) Inputs h i b p x a q y e = cc
line_still (Binary u) Inputs h i b p x a q y e = cc
line_still form Latches h i b p x a q y e = cc
line_still form Columns h i b p x a q y e = cc
line_still form Gates h i b p x a q y e = cc

no_line_counts : (section : Section) → HasCounts no_records ((share section).defs * 0)
    ((share section).gates * 0) ((share section).uses * 0) ((share section).resets * 0)
no_line_counts Inputs = record { defs = refl; gates = refl; uses = refl; resets = refl }
no_line_counts Latches = record { defs = refl; gates = refl; uses = refl; resets = refl }
no_line_counts Columns = record { defs = refl; gates = refl; uses = refl; resets = refl }
no_line_counts Gates = record { defs = refl; gates = refl; uses = refl; resets = refl }

-- no line gives no record,
pub no_lines : (section : Section) (h : Header) → HasLines section h 0 0 no_records
no_lines section h = record { counts = no_line_counts section; rows = no_rows section h 0 }

pub counts_appended : {a b : Listing} {d g u r d2 g2 u2 r2 d3 g3 u3 r3 : ℕ}
    → HasCounts a d g u r → HasCounts b d2 g2 u2 r2 → d + d2 ≡ d3 → g + g2 ≡ g3 → u + u2 ≡ u3
    → r + r2 ≡ r3 → HasCounts (appended a b) d3 g3 u3 r3
counts_appended {a} {b} h k x y z w = record {
  defs = omega (arith, length-append a.defs b.defs, h.defs, k.defs);
  gates = omega (arith, length-append a.gates b.gates, h.gates, k.gates);
  uses = omega (arith, length-append a.uses b.uses, h.uses, k.uses);
  resets = omega (arith, length-append a.resets b.resets, h.resets, k.resets);
}

-- and one line more gives its records.
abbrev LineCounts : Section → ℕ → Listing → Type 0
LineCounts section n a =
    HasCounts a ((share section).defs * n) ((share section).gates * n) ((share section).uses * n)
    ((share section).resets * n)

counts_more : (section : Section) (i : ℕ) (a b : Listing) → LineCounts section i a
    → LineCounts section 1 b → LineCounts section (i + 1) (appended a b)
counts_more Inputs i a b h k = counts_appended h k (omega arith) (omega arith) (omega arith)
    (omega arith)
counts_more Latches i a b h k = counts_appended h k (omega arith) (omega arith) (omega arith)
    (omega arith)
counts_more Columns i a b h k = counts_appended h k (omega arith) (omega arith) (omega arith)
    (omega arith)
counts_more Gates i a b h k = counts_appended h k (omega arith) (omega arith) (omega arith)
    (omega arith)

pub lines_more : (section : Section) (h : Header) (i : ℕ) (a b : Listing)
    → HasLines section h 0 i a → HasLines section h i 1 b
    → HasLines section h 0 (i + 1) (appended a b)
lines_more section h i a b x y = record {
  counts = counts_more section i a b x.counts y.counts;
  rows = rows_more section h i a b x.rows y.rows;
}

-- n lines give the records that they count for
lines_weigh : (section : Section) (n : ℕ) (a : Listing) → LineCounts section n a
    → record_count a ≡ weight section * n
lines_weigh Inputs n a h = omega (arith, h.defs, h.gates, h.uses, h.resets)
lines_weigh Latches n a h = omega (arith, h.defs, h.gates, h.uses, h.resets)
lines_weigh Columns n a h = omega (arith, h.defs, h.gates, h.uses, h.resets)
lines_weigh Gates n a h = omega (arith, h.defs, h.gates, h.uses, h.resets)

-- and that are three at most for a line
weight_most : (section : Section) (i : ℕ) → weight section * i ≤ 3 * i
weight_most Inputs i = omega arith
weight_most Latches i = omega arith
weight_most Columns i = omega arith
weight_most Gates i = omega arith

-- a line counts no more than it and those after it
least_by : (test : Bool) (w more : ℕ) → cond test w 0 ≤ w * cond test (1 + more) 0
least_by true w more = grind arith
least_by false w more = omega arith

least_none : (test : Bool) (w k : ℕ) → cond test w 0 ≤ w * cond test (suc k) 0
least_none true w k = grind arith
least_none false w k = omega arith

none_begun : (test : Bool) (w : ℕ) → w * cond test 0 0 ≡ 0
none_begun true w = omega arith
none_begun false w = omega arith

-- What is to be read of lines is one line, and then the others.
module _ (form : Form) (section : Section) (h : Header) (m : Moment) where
  -- the size of lines, by whether they have bytes
  abbrev sized : Bool → ℕ → ℕ → ℕ → ℕ → List ℕ → ℕ
  sized bytes n i given p x =
      weight section * lines_begun bytes given n i (section_line form section h) p x

  abbrev line_sized : Bool → ℕ → ℕ → List ℕ → ℕ
  line_sized bytes given p x = cond (line_begun bytes given p) (weight section) 0

  split_by : (bytes : Bool) → has_bytes form section ≡ bytes → (k i : ℕ)
      → Splits (section_lines form section h (suc k) i) (sized bytes (suc k) i)
      (section_line form section h i) (line_sized bytes) (section_lines form section h k (i + 1))
      (sized bytes k (i + 1)) m
  split_by true b k i = record {
    reads = refl;
    least = λ given. least_by (nat_lt (place_in m) given) (weight section)
        (counts_after (section_line form section h i (place_in m) (left m.text))
        (λ _. items_begun given k (i + 1) (section_line form section h)));
    counted = λ x q y e given far.
        let t = (line_takes form section h i b (place_in m) (left m.text) x q y e).1 in
        let begun : nat_lt (place_in m) given ≡ true = lt-ltb (place_in m) given
        (omega (arith, t)) in
        ap (λ test. weight section * cond test
        (1 + counts_after (section_line form section h i (place_in m) (left m.text))
        (λ _. items_begun given k (i + 1) (section_line form section h))) 0) begun
        ∙ ap (λ r. weight section *
        (1 + counts_after r (λ _. items_begun given k (i + 1) (section_line form section h)))) e
        ∙ grind arith
        ∙ ap (λ test. cond test (weight section) 0 + weight section * items_begun given k (i + 1)
        (section_line form section h) q y) (sym begun);
  }
  split_by false b k i = record {
    reads = refl;
    least = λ given. least_none (nat_le (place_in m) given) (weight section) k;
    counted = λ x q y e given far.
        let still = line_still form section h i b (place_in m) (left m.text) x q y e in
        let here : nat_le (place_in m) given ≡ true = le-leb (place_in m) given
        (omega (arith, still)) in
        let there : nat_le q given ≡ true = le-leb q given far in
        ap (λ test. weight section * cond test (suc k) 0) here
        ∙ grind arith
        ∙ ap (λ test. cond test (weight section) 0 + weight section * k) (sym here)
        ∙ ap (λ test. cond (nat_le (place_in m) given) (weight section) 0
        + weight section * cond test k 0) (sym there);
  }

  split_suc : (k i : ℕ) → Splits (section_lines form section h (suc k) i)
      (lines_size form section h (suc k) i)
      (section_line form section h i) (line_size form section)
      (section_lines form section h k (i + 1)) (lines_size form section h k (i + 1)) m
  split_suc k i = split_by (has_bytes form section) refl k i

  pub lines_split : (n i : ℕ) → i < n → Splits (section_lines form section h (n - i) i)
      (lines_size form section h (n - i) i)
      (section_line form section h i) (line_size form section)
      (section_lines form section h (n - (i + 1)) (i + 1))
      (lines_size form section h (n - (i + 1)) (i + 1)) m
  lines_split n i low =
      let step : suc (n - (i + 1)) ≡ n - i = omega arith in
      subst (λ k. Splits (section_lines form section h k i) (lines_size form section h k i)
      (section_line form section h i) (line_size form section)
      (section_lines form section h (n - (i + 1)) (i + 1))
      (lines_size form section h (n - (i + 1)) (i + 1))
      m) step (split_suc (n - (i + 1)) i)

  -- No line is left.
  pub lines_end : (n i : ℕ) → n ≤ i → read_at (section_lines form section h (n - i) i) m
      ≡ Reads no_records (place_in m) (left m.text)
  lines_end n i low =
      let none : n - i ≡ 0 = omega arith in
      ap (λ k. read_at (section_lines form section h k i) m) none

  end_by : (bytes : Bool) (i given : ℕ) → sized bytes 0 i given (place_in m) (left m.text) ≡ 0
  end_by true i given = omega arith
  end_by false i given = none_begun (nat_le (place_in m) given) (weight section)

  pub lines_size_end : (n i given : ℕ) → n ≤ i
      → lines_size form section h (n - i) i given (place_in m) (left m.text) ≡ 0
  lines_size_end n i given low =
      let none : n - i ≡ 0 = omega arith in
      ap (λ k. lines_size form section h k i given (place_in m) (left m.text)) none
      ∙ end_by (has_bytes form section) i given

-- Nothing of a section was read yet.
pub lines_begin : {tells : Bool} {k : ℕ} {m : Moment} (form : Form) (section : Section) (h : Header)
    (n : ℕ)
    → CanFill k m
    → FillsSome tells (section_lines form section h n 0) (lines_size form section h n 0)
    (section_lines form section h (n - 0) 0)
    (lines_size form section h (n - 0) 0) (HasLines section h 0 0) m m
lines_begin {tells} {k} {m} form section h n can =
    let all : n ≡ n - 0 = omega arith in
    subst (λ j. FillsSome tells (section_lines form section h n 0) (lines_size form section h n 0)
    (section_lines form section h j 0)
    (lines_size form section h j 0) (HasLines section h 0 0) m m) all
    (fills_none (section_lines form section h n 0) (lines_size form section h n 0) (HasLines section h 0 0)
    can (no_lines section h))

-- Some lines of it were read.
module _ {tells : Bool} {old mid : Moment} (form : Form) (section : Section) (h : Header)
    (n i : ℕ)
    (s : FillsSome tells (section_lines form section h n 0) (lines_size form section h n 0)
    (section_lines form section h (n - i) i)
    (lines_size form section h (n - i) i) (HasLines section h 0 i) old mid) where
  -- The next one can be read,
  pub lines_can : i < n → CanFill (3 * n) old → CanFill 3 mid
  lines_can low can = can_fill can s.advances s.adds
      (omega (arith, lines_weigh section i s.lists s.like.counts, weight_most section i))

  -- was read,
  pub lines_next : {now : Moment} {u : Unit {0}} → i < n
      → ReadsInto tells (section_line form section h i) (line_size form section) (HasLines section h i 1) mid
      now (Ok u)
      → FillsSome tells (section_lines form section h n 0) (lines_size form section h n 0)
      (section_lines form section h (n - (i + 1)) (i + 1))
      (lines_size form section h (n - (i + 1)) (i + 1)) (HasLines section h 0 (i + 1)) old now
  lines_next low r = fills_next s (HasLines section h 0 (i + 1)) (lines_split form section h mid n i low)
      r.advances r.fills (lines_more section h i s.lists r.fills.lists s.like r.fills.like)

  -- or stopped;
  pub lines_stop : {now : Moment} {k : ℕ} {e : AigStop} → i < n → CanFill k old
      → ReadsInto tells (section_line form section h i) (line_size form section) (HasLines section h i 1) mid
      now (Err e)
      → ReadsInto tells (section_lines form section h n 0) (lines_size form section h n 0)
      (HasLines section h 0 n) old now (Err e)
  lines_stop low can r = record {
    advances = advances_then s.advances r.advances;
    frames = r.frames;
    fills = fills_stops s (lines_split form section h mid n i low) can.draft r.advances.steady.forward
        r.fills;
  }

  -- or there is none.
  pub lines_done : {k : ℕ} → n ≤ i → i ≤ n → CanFill k old
      → ReadsInto tells (section_lines form section h n 0) (lines_size form section h n 0)
      (HasLines section h 0 n) old mid (Ok tt)
  lines_done low high can =
      let all : i ≡ n = omega arith in
      let f = fills_all s (lines_end form section h mid n i low)
      (λ given. lines_size_end form section h mid n i given low) in
      record {
        advances = s.advances;
        frames = (drafted_is can.draft s.adds.drafted).frames;
        fills = subst (λ j. Fills tells (section_lines form section h n 0) (lines_size form section h n 0)
            (HasLines section h 0 j) old mid) all f;
      }
