-- The sections of a circuit's text, one after another.
use Rattle.std.proofs.Common.{◌≡◌, ◌+◌, ◌*◌, ◌^◌, ◌<◌, ◌≤◌, Bool, List, [], ◌∷◌, ◌++◌, ℕ, zero, suc, length, take, drop, get_or, refl, sym, ap, ◌∙◌, subst, arith, Result, Ok, Err, add-one, drop-cons}
use Rattle.std.specs.Prelude.{sum_by}
use Rattle.std.proofs.lemmas.List.Sums.{sum_by-append}
use Rattle.std.proofs.Math.Seq.{take-suc}
use Rattle.aig_defs.specs.declared.circuit.Header.{Header}
use Rattle.aig_defs.specs.declared.form.Form.{Form}
use Rattle.aig_defs.specs.Begun.{counts_after}
use Rattle.aig_defs.specs.Circuit.{IsHeader}
use Rattle.aig_defs.specs.Items.{Reads, and_then}
use Rattle.aig_defs.specs.Tail.{tail}
use Rattle.aig_text.specs.Listing.{Listing, no_records, appended, record_count}
use Rattle.aig_text.specs.Moment.{Moment, CanFill, FillsSome, ReadsInto, place_in, onto}
use Rattle.aig_text.specs.Reads.{ReadsItem}
use Rattle.aig_text.specs.Sections.{section_lines, lines_size, lines_in, order, listed, listed_size, share, HasAllRows, HasSections, HasLines}
use Rattle.aig_text.specs.Source.{Source, left}
use Rattle.aig_text.specs.declared.section.Section.{Section}
use Rattle.aig_text.specs.declared.section.Section.TheVariants.{Inputs}
use Rattle.aig_text.specs.declared.stop.AigStop.{AigStop}
use Rattle.aig_text.proofs.Drafts.{drafted_is}
use Rattle.aig_text.proofs.Fillings.{Splits, can_fill, fills_none, fills_next, fills_stops, appended_none, stops_as, stops_then}
use Rattle.aig_text.proofs.Lines.{unread}
use Rattle.aig_text.proofs.SectionRows.{section_more}
use Rattle.aig_text.proofs.SectionLines.{counts_appended}
use Rattle.aig_text.proofs.Steadies.{advances_then}

-- What is to be read of sections is one section, and then the others.
sections_split : (form : Form) (section : Section) (rest : List Section) (h : Header) (m : Moment)
    → Splits (listed form (section ∷ rest) h) (listed_size form (section ∷ rest) h)
    (section_lines form section h (lines_in section h) 0)
    (lines_size form section h (lines_in section h) 0) (listed form rest h) (listed_size form rest h) m
sections_split form section rest h m = record {
  reads = refl;
  least = λ given. omega arith;
  counted = λ x q y e given far.
      ap (λ r. lines_size form section h (lines_in section h) 0 given (place_in m) (left m.text)
      + counts_after r (λ _. listed_size form rest h given)) e;
}

taken_more : (i : ℕ) (all : List Section) (d : Section) → i < length all
    → take (i + 1) all ≡ take i all ++ get_or all i d ∷ []
taken_more i all d low = ap (λ k. take k all) (add-one i) ∙ take-suc all i d low

-- Sections that were read give the records of all their lines.
total_more : (f : Section → ℕ) (i : ℕ) (all : List Section) (d : Section) → i < length all
    → sum_by f (take (i + 1) all) ≡ sum_by f (take i all) + f (get_or all i d)
total_more f i all d low =
    ap (sum_by f) (taken_more i all d low)
    ∙ omega (arith, sum_by-append f (take i all) (get_or all i d ∷ []))

listed_more : (all : List Section) (h : Header) (i : ℕ) (d : Section) (a b : Listing)
    → i < length all
    → HasSections (take i all) h a → HasLines (get_or all i d) h 0 (lines_in (get_or all i d) h) b
    → HasSections (take (i + 1) all) h (appended a b)
listed_more all h i d a b low x y = record {
  counts = counts_appended x.counts y.counts
      (sym (total_more (λ s. (share s).defs * lines_in s h) i all d low))
      (sym (total_more (λ s. (share s).gates * lines_in s h) i all d low))
      (sym (total_more (λ s. (share s).uses * lines_in s h) i all d low))
      (sym (total_more (λ s. (share s).resets * lines_in s h) i all d low));
  rows = subst (λ sections. HasAllRows sections h (appended a b)) (sym (taken_more i all d low))
      (section_more (take i all) (get_or all i d) h a b x.rows y.rows);
}

-- Nothing of the sections was read yet.
pub sections_begin : {tells : Bool} {k : ℕ} {m : Moment} (form : Form) (h : Header)
    → CanFill k m
    → FillsSome tells (listed form order h) (listed_size form order h) (listed form (drop 0 order) h)
    (listed_size form (drop 0 order) h)
    (HasSections (take 0 order) h) m m
sections_begin form h can = fills_none (listed form order h) (listed_size form order h) (HasSections [] h) can
    (record { counts = record { defs = refl; gates = refl; uses = refl; resets = refl }; rows = refl })

room_by : (i : ℕ) (h : Header) (a : Listing) → i < 4 → IsHeader h → HasSections (take i order) h a
    → record_count a + 3 * lines_in (get_or order i Inputs) h ≤ 2 ^ 44
room_by zero h a low k l =
    omega (arith, l.counts.defs, l.counts.gates, l.counts.uses, l.counts.resets)
room_by (suc zero) h a low k l =
    omega (arith, l.counts.defs, l.counts.gates, l.counts.uses, l.counts.resets)
room_by (suc (suc zero)) h a low k l =
    omega (arith, l.counts.defs, l.counts.gates, l.counts.uses, l.counts.resets)
room_by (suc (suc (suc zero))) h a low k l =
    omega (arith, l.counts.defs, l.counts.gates, l.counts.uses, l.counts.resets)
room_by (suc (suc (suc (suc i)))) h a low k l = absurd (omega arith)

-- All sections were read, and then the tail.
end_by : {tells : Bool} {old mid : Moment} {text : Source} {k : ℕ} (form : Form) (h : Header)
    (r : Result (Unit {0}) AigStop)
    → FillsSome tells (listed form order h) (listed_size form order h) (listed form [] h) (listed_size form [] h)
    (HasSections order h) old mid
    → CanFill k old → ReadsItem tells (tail h) mid.text text r
    → ReadsInto tells (listed form order h) (listed_size form order h) (HasSections order h) old
    (record mid { text = text }) r
end_by {tells} {old} {mid} {text} form h (Ok u) s can t = record {
  advances = advances_then s.advances t.advances;
  frames = (drafted_is can.draft s.adds.drafted).frames;
  fills = record {
    lists = s.lists;
    like = s.like;
    adds = record { drafted = s.adds.drafted };
    reads = λ z. s.reads z ∙ ap (λ r. and_then (and_then r (λ _. Reads no_records)) (onto s.lists))
        (t.gives z)
        ∙ ap (λ l. Reads l text.feed.place (left text)) (appended_none s.lists);
    counted = λ z given far. omega
        (arith, s.counted z given (omega (arith, t.advances.steady.forward)));
  };
}
end_by {tells} {old} {mid} {text} form h (Err e) s can t = record {
  advances = advances_then s.advances t.advances;
  frames = (drafted_is can.draft s.adds.drafted).frames;
  fills = record {
    most = record_count s.lists;
    stops = unread text s.lists e s.adds s.advances.later t.cause;
    reads = λ z. stops_as e _ _ (s.reads z)
        (stops_then e _ (onto s.lists) (stops_then e _ _ (t.gives z)));
    counted = λ z given far. omega
        (arith, s.counted z given (omega (arith, t.advances.steady.forward)));
  };
}

-- Some sections were read.
module _ {tells : Bool} {old mid : Moment} (form : Form) (h : Header) (i : ℕ)
    (s : FillsSome tells (listed form order h) (listed_size form order h) (listed form (drop i order) h)
    (listed_size form (drop i order) h)
    (HasSections (take i order) h) old mid) where
  -- The next one can be read,
  pub sections_can : i < 4 → IsHeader h → CanFill (2 ^ 44) old
      → CanFill (3 * lines_in (get_or order i Inputs) h) mid
  sections_can low k can = can_fill can s.advances s.adds (room_by i h s.lists low k s.like)

  next_split : i < 4 → Splits (listed form (drop i order) h) (listed_size form (drop i order) h)
      (section_lines form (get_or order i Inputs) h (lines_in (get_or order i Inputs) h) 0)
      (lines_size form (get_or order i Inputs) h (lines_in (get_or order i Inputs) h) 0)
      (listed form (drop (i + 1) order) h) (listed_size form (drop (i + 1) order) h) mid
  next_split low =
      let section = get_or order i Inputs in
      let here : section ∷ drop (i + 1) order ≡ drop i order =
      ap (λ k. section ∷ drop k order) (add-one i) ∙ sym (drop-cons order i Inputs low) in
      subst (λ all. Splits (listed form all h) (listed_size form all h)
      (section_lines form section h (lines_in section h) 0)
      (lines_size form section h (lines_in section h) 0) (listed form (drop (i + 1) order) h)
      (listed_size form (drop (i + 1) order) h) mid)
      here (sections_split form section (drop (i + 1) order) h mid)

  -- was read,
  pub sections_next : {now : Moment} {u : Unit {0}} → i < 4
      → ReadsInto tells (section_lines form (get_or order i Inputs) h
      (lines_in (get_or order i Inputs) h) 0)
      (lines_size form (get_or order i Inputs) h (lines_in (get_or order i Inputs) h) 0)
      (HasLines (get_or order i Inputs) h 0 (lines_in (get_or order i Inputs) h)) mid now (Ok u)
      → FillsSome tells (listed form order h) (listed_size form order h) (listed form (drop (i + 1) order) h)
      (listed_size form (drop (i + 1) order) h) (HasSections (take (i + 1) order) h) old now
  sections_next low r = fills_next s (HasSections (take (i + 1) order) h) (next_split low)
      r.advances r.fills
      (listed_more order h i Inputs s.lists r.fills.lists low s.like r.fills.like)

  -- or stopped.
  pub sections_stop : {now : Moment} {k : ℕ} {e : AigStop} → i < 4 → CanFill k old
      → ReadsInto tells (section_lines form (get_or order i Inputs) h
      (lines_in (get_or order i Inputs) h) 0)
      (lines_size form (get_or order i Inputs) h (lines_in (get_or order i Inputs) h) 0)
      (HasLines (get_or order i Inputs) h 0 (lines_in (get_or order i Inputs) h)) mid now (Err e)
      → ReadsInto tells (listed form order h) (listed_size form order h) (HasSections order h) old now (Err e)
  sections_stop low can r = record {
    advances = advances_then s.advances r.advances;
    frames = r.frames;
    fills = fills_stops s (next_split low) can.draft r.advances.steady.forward r.fills;
  }

  -- All were read, and then the tail.
  pub sections_end : {text : Source} {k : ℕ} (r : Result (Unit {0}) AigStop) → 4 ≤ i → i ≤ 4
      → CanFill k old
      → ReadsItem tells (tail h) mid.text text r
      → ReadsInto tells (listed form order h) (listed_size form order h) (HasSections order h) old
      (record mid { text = text }) r
  sections_end r low high can t =
      let all : i ≡ 4 = omega arith in
      end_by form h r (subst (λ j. FillsSome tells (listed form order h) (listed_size form order h)
      (listed form (drop j order) h)
      (listed_size form (drop j order) h) (HasSections (take j order) h) old mid) all s) can t
