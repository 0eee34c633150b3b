-- What the sections list is what stands for the circuit that they spell.
use Rattle.std.proofs.Common.{append_assoc, ◌≡◌, ◌≤◌, ◌+◌, ◌*◌, Option, cond, List, [], ◌∷◌, ◌++◌, ℕ, zero, suc, refl, sym, ap, ◌∙◌, arith}
use Rattle.std.specs.Prelude.{nat_lt}
use Rattle.std.proofs.lemmas.List.{append-nil}
use Rattle.aig_defs.specs.declared.circuit.Gate.{Gate}
use Rattle.aig_defs.specs.declared.circuit.Header.{Header}
use Rattle.aig_defs.specs.declared.circuit.Latch.{Latch}
use Rattle.aig_defs.specs.declared.form.Form.{Form}
use Rattle.aig_defs.specs.declared.form.Form.TheVariants.{Ascii, Binary}
use Rattle.aig_defs.specs.Begun.{counts_after, inputs_size, items_begun, section_size, sections_size}
use Rattle.aig_defs.specs.Chains.{numbered, input_def, latch_def, gate_def, gate_record, latch_use, output_use, reset_record}
use Rattle.aig_defs.specs.Circuit.{Circuit, columns}
use Rattle.aig_defs.specs.Items.{Reading, Reads, Fails, Item, and_then, times}
use Rattle.aig_defs.specs.Order.{input_row, latch_row, output_row, gate_row, sections}
use Rattle.aig_defs.specs.Tail.{tail}
use Rattle.aig_text.specs.Listing.{Listing, no_records, appended, listing_of}
use Rattle.aig_text.specs.Moment.{onto}
use Rattle.aig_text.specs.Sections.{of_input, of_latch, of_output, of_gate, section_line, section_lines, lines_in, order, listed, listed_size, lines_size, weight}
use Rattle.aig_text.specs.declared.section.Section.{Section}
use Rattle.aig_text.specs.declared.section.Section.TheVariants.{Inputs, Latches, Columns, Gates}
use Rattle.aig_text.proofs.Fillings.{appended_none, onto_none, onto_onto}
use Rattle.std.proofs.Math.Nat.{mul-le-mul_right, mul_assoc}

and_then_is : {A B : Type 0} (r : Reading A) (f g : A → Item B)
    → ((a : A) (p : ℕ) (x : List ℕ) → f a p x ≡ g a p x)
    → and_then r f ≡ and_then r g
and_then_is (Reads a p x) f g h = h a p x
and_then_is (Fails kind place) f g h = refl

and_then_twice : {A B C : Type 0} (r : Reading A) (f : A → Item B) (g : B → Item C)
    → and_then (and_then r f) g ≡ and_then r (λ a p x. and_then (f a p x) g)
and_then_twice (Reads a p x) f g = refl
and_then_twice (Fails kind place) f g = refl

after_is : {A B : Type 0} (r : Reading A) (f : A → B) (m n : ℕ → List ℕ → ℕ)
    → ((p : ℕ) (x : List ℕ) → m p x ≡ n p x)
    → counts_after (and_then r (λ a. Reads (f a))) (λ _. m) ≡ counts_after r (λ _. n)
after_is (Reads a p x) f m n h = h p x
after_is (Fails kind place) f m n h = refl

-- The lines of a section, whose values are listed one by one.
module _ {A : Type 0} (form : Form) (section : Section) (h : Header) (item : ℕ → Item A) (one : ℕ → A → Listing)
    (all : ℕ → List A → Listing)
    (line_is : (i p : ℕ) (x : List ℕ) → section_line form section h i p x ≡ and_then (item i p x)
    (λ v. Reads (one i v)))
    (none : (i : ℕ) → all i [] ≡ no_records)
    (more : (i : ℕ) (v : A) (vs : List A) → all i (v ∷ vs) ≡ appended (one i v) (all (i + 1) vs))
  where
    appended_after : (i : ℕ) (v : A) (r : Reading (List A))
        → and_then (and_then r (λ vs. Reads (all (i + 1) vs)))
        (λ rest. Reads (appended (one i v) rest))
        ≡ and_then (and_then r (λ vs. Reads (v ∷ vs))) (λ vs. Reads (all i vs))
    appended_after i v (Reads vs p x) = ap (λ l. Reads l p x) (sym (more i v vs))
    appended_after i v (Fails kind place) = refl

    pub lines_are : (n i p : ℕ) (x : List ℕ)
        → section_lines form section h n i p x ≡ and_then (times n i item p x) (λ vs. Reads (all i vs))
    lines_are zero i p x = ap (λ l. Reads l p x) (sym (none i))
    lines_are (suc n) i p x =
        ap (λ r. and_then r (λ first q y. and_then (section_lines form section h n (i + 1) q y)
        (λ rest. Reads (appended first rest)))) (line_is i p x)
        ∙ and_then_twice (item i p x) (λ v. Reads (one i v)) _
        ∙ and_then_is (item i p x) _
        (λ v q y. and_then (and_then (times n (i + 1) item q y) (λ vs. Reads (v ∷ vs)))
        (λ vs. Reads (all i vs)))
        (λ v q y. ap (λ r. and_then r (λ rest. Reads (appended (one i v) rest)))
        (lines_are n (i + 1) q y)
        ∙ appended_after i v (times n (i + 1) item q y))
        ∙ sym (and_then_twice (item i p x) (λ v q y. and_then (times n (i + 1) item q y)
        (λ vs. Reads (v ∷ vs))) (λ vs. Reads (all i vs)))

    pub begun_is : (given n i p : ℕ) (x : List ℕ)
        → items_begun given n i (section_line form section h) p x ≡ items_begun given n i item p x
    begun_is given zero i p x = refl
    begun_is given (suc n) i p x = ap (λ k. cond (nat_lt p given) (1 + k) 0)
        (ap (λ r. counts_after r (λ _. items_begun given n (i + 1) (section_line form section h)))
        (line_is i p x)
        ∙ after_is (item i p x) (one i) _ _ (begun_is given n (i + 1)))

    -- its size, with that of what comes after it
    pub size_is : (given n : ℕ) (m k : ℕ → List ℕ → ℕ) → ((p : ℕ) (x : List ℕ) → m p x ≡ k p x)
        → (p : ℕ) (x : List ℕ)
        → weight section * items_begun given n 0 (section_line form section h) p x + counts_after
        (section_lines form section h n 0 p x) (λ _. m)
        ≡ section_size given (weight section) n item k p x
    size_is given n m k e p x =
        ap (λ j. weight section * j + counts_after (section_lines form section h n 0 p x) (λ _. m))
        (begun_is given n 0 p x)
        ∙ ap (λ j. weight section * items_begun given n 0 item p x + j)
        (ap (λ r. counts_after r (λ _. m)) (lines_are n 0 p x)
        ∙ after_is (times n 0 item p x) (all 0) m k e)

    -- and what it and the sections after it list
    pub section_listed : (rest : List Section) (acc : Listing) (next : List A → Item Circuit)
        → ((vs : List A) (q : ℕ) (y : List ℕ)
        → and_then (listed form rest h q y) (onto (appended acc (all 0 vs)))
        ≡ and_then (next vs q y) (λ c. Reads (listing_of c))) → (p : ℕ) (x : List ℕ)
        → and_then (listed form (section ∷ rest) h p x) (onto acc)
        ≡ and_then (and_then (times (lines_in section h) 0 item p x) next) (λ c. Reads (listing_of c))
    section_listed rest acc next e p x =
        let n = lines_in section h in
        let deep : Listing → Item Listing = λ a q y. and_then (and_then (listed form rest h q y) (onto a))
        (onto acc) in
        and_then_twice (section_lines form section h n 0 p x) (λ a q y. and_then (listed form rest h q y)
        (onto a)) (onto acc)
        ∙ ap (λ r. and_then r deep) (lines_are n 0 p x)
        ∙ and_then_twice (times n 0 item p x) (λ vs. Reads (all 0 vs)) deep
        ∙ and_then_is (times n 0 item p x) (λ vs q y. deep (all 0 vs) q y)
        (λ vs q y. and_then (next vs q y) (λ c. Reads (listing_of c)))
        (λ vs q y. onto_onto acc (all 0 vs) (listed form rest h q y) ∙ e vs q y)
        ∙ sym (and_then_twice (times n 0 item p x) next (λ c. Reads (listing_of c)))

-- what the lines of each section list
abbrev pub all_inputs : ℕ → List ℕ → Listing
all_inputs i vs = record {
  defs = numbered input_def i vs;
  gates = [];
  uses = [];
  resets = [];
}

abbrev pub all_latches : ℕ → List Latch → Listing
all_latches i vs = record {
  defs = numbered latch_def i vs;
  gates = [];
  uses = numbered latch_use i vs;
  resets = numbered reset_record i vs;
}

abbrev pub all_outputs : ℕ → List ℕ → Listing
all_outputs i vs = record {
  defs = [];
  gates = [];
  uses = numbered output_use i vs;
  resets = [];
}

abbrev pub all_gates : ℕ → List Gate → Listing
all_gates i vs = record {
  defs = numbered gate_def i vs;
  gates = numbered gate_record i vs;
  uses = [];
  resets = [];
}

-- inputs without bytes are read where they stand
free_counts : (u : Option ℕ) (h : Header) (m : ℕ → List ℕ → ℕ) (n i p : ℕ) (x : List ℕ)
    → counts_after (times n i (input_row (Binary u) h) p x) (λ _. m) ≡ m p x
free_counts u h m zero i p x = refl
free_counts u h m (suc n) i p x =
    after_is (times n (i + 1) (input_row (Binary u) h) p x) (λ vs. 2 * (i + 1) ∷ vs) m m
    (λ p x. refl)
    ∙ free_counts u h m n (i + 1) p x

-- The size of the inputs, with that of what comes after them.
inputs_size_is : (form : Form) (h : Header) (given : ℕ) (m k : ℕ → List ℕ → ℕ)
    → ((p : ℕ) (x : List ℕ) → m p x ≡ k p x) → (p : ℕ) (x : List ℕ)
    → lines_size form Inputs h h.inputs 0 given p x
    + counts_after (section_lines form Inputs h h.inputs 0 p x) (λ _. m)
    ≡ inputs_size form given h k p x
inputs_size_is (Ascii u) h given m k e p x =
    size_is (Ascii u) Inputs h (input_row (Ascii u) h) of_input all_inputs (λ i p x. refl) (λ i. refl)
    (λ i v vs. refl) given h.inputs m k e p x
inputs_size_is (Binary u) h given m k e p x =
    ap (λ r. lines_size (Binary u) Inputs h h.inputs 0 given p x + counts_after r (λ _. m))
    (lines_are (Binary u) Inputs h (input_row (Binary u) h) of_input all_inputs (λ i p x. refl) (λ i. refl)
    (λ i v vs. refl) h.inputs 0 p x)
    ∙ ap (λ j. lines_size (Binary u) Inputs h h.inputs 0 given p x + j)
    (after_is (times h.inputs 0 (input_row (Binary u) h) p x) (all_inputs 0) m k e
    ∙ free_counts u h k h.inputs 0 p x)
    ∙ omega arith

-- Sizes of a section if a line weighs at most twice as much, and so does what comes after it.
after_twice : {A : Type 0} (r : Reading A) (m k : ℕ → List ℕ → ℕ)
    → ((p : ℕ) (x : List ℕ) → m p x ≤ 2 * k p x)
    → counts_after r (λ _. m) ≤ 2 * counts_after r (λ _. k)
after_twice (Reads a p x) m k h = h p x
after_twice (Fails kind place) m k h = omega arith

section_twice : {A : Type 0} (given w v n : ℕ) (item : ℕ → Item A) (m k : ℕ → List ℕ → ℕ)
    → w ≤ 2 * v → ((p : ℕ) (x : List ℕ) → m p x ≤ 2 * k p x) → (p : ℕ) (x : List ℕ)
    → section_size given w n item m p x ≤ 2 * section_size given v n item k p x
section_twice given w v n item m k few h p x =
    let begun = items_begun given n 0 item p x in
    let more : w * begun ≤ 2 * v * begun = mul-le-mul_right {m = w} {n = 2 * v} begun few in
    let same : 2 * v * begun ≡ 2 * (v * begun) = mul_assoc 2 v begun in
    omega (arith, more, same, after_twice (times n 0 item p x) m k h)

inputs_twice : (form : Form) (given : ℕ) (h : Header) (m k : ℕ → List ℕ → ℕ)
    → ((p : ℕ) (x : List ℕ) → m p x ≤ 2 * k p x) → (p : ℕ) (x : List ℕ)
    → inputs_size form given h m p x ≤ 2 * inputs_size form given h k p x
inputs_twice (Ascii u) given h m k e p x =
    section_twice given 1 1 h.inputs (input_row (Ascii u) h) m k (omega arith) e p x
inputs_twice (Binary u) given h m k e p x = omega (arith, e p x)

module _ (form : Form) (h : Header) where
  tail_listed : (acc : Listing) (c : Circuit) → acc ≡ listing_of c → (r : Reading (Unit {0}))
      → and_then (and_then r (λ _. Reads no_records)) (onto acc) ≡ and_then
      (and_then r (λ _. Reads c)) (λ c. Reads (listing_of c))
  tail_listed acc c e (Reads u p x) = ap (λ l. Reads l p x) (appended_none acc ∙ e)
  tail_listed acc c e (Fails kind place) = refl

  -- The sections list what stands for the circuit,
  pub listed_is : (p : ℕ) (x : List ℕ) → listed form order h p x ≡ and_then (sections form h p x)
      (λ c. Reads (listing_of c))
  listed_is p x = onto_none (listed form order h p x)
      ∙ section_listed form Inputs h (input_row form h) of_input all_inputs (λ i p x. refl) (λ i. refl)
      (λ i v vs. refl)
      (Latches ∷ Columns ∷ Gates ∷ []) no_records _ (λ inputs.
      section_listed form Latches h (latch_row form h) of_latch all_latches (λ i p x. refl) (λ i. refl)
      (λ i v vs. refl)
      (Columns ∷ Gates ∷ []) (all_inputs 0 inputs) _ (λ latches.
      section_listed form Columns h (output_row h) of_output all_outputs (λ i p x. refl) (λ i. refl)
      (λ i v vs. refl)
      (Gates ∷ []) (appended (all_inputs 0 inputs) (all_latches 0 latches)) _ (λ outputs.
      section_listed form Gates h (gate_row form h) of_gate all_gates (λ i p x. refl) (λ i. refl)
      (λ i v vs. refl)
      [] (appended (appended (all_inputs 0 inputs) (all_latches 0 latches)) (all_outputs 0 outputs))
      _ (λ gates q y.
      tail_listed _ (record {
        header = h;
        inputs = inputs;
        latches = latches;
        columns = outputs;
        gates = gates;
      })
      (rw (
        append-nil (numbered input_def 0 inputs ++ numbered latch_def 0 latches),
        append_assoc (numbered input_def 0 inputs) (numbered latch_def 0 latches)
            (numbered gate_def 0 gates),
        append-nil (numbered latch_use 0 latches ++ numbered output_use 0 outputs),
        append-nil (numbered reset_record 0 latches ++ []),
        append-nil (numbered reset_record 0 latches),
      ) refl) (tail h q y))))) p x

  -- the size of what was written: three records of a latch
  abbrev gates_written : ℕ → ℕ → List ℕ → ℕ
  gates_written given = section_size given 2 h.gates (gate_row form h) (λ p x. 0)

  abbrev columns_written : ℕ → ℕ → List ℕ → ℕ
  columns_written given = section_size given 1 (columns h) (output_row h) (gates_written given)

  abbrev latches_written : ℕ → ℕ → List ℕ → ℕ
  latches_written given = section_size given 3 h.latches (latch_row form h) (columns_written given)

  written_is : (given p : ℕ) (x : List ℕ) → listed_size form order h given p x
      ≡ inputs_size form given h (latches_written given) p x
  written_is given =
      inputs_size_is form h given _ _
      (size_is form Latches h (latch_row form h) of_latch all_latches (λ i p x. refl) (λ i. refl)
      (λ i v vs. refl) given h.latches _ _
      (size_is form Columns h (output_row h) of_output all_outputs (λ i p x. refl) (λ i. refl)
      (λ i v vs. refl) given (columns h) _ _
      (size_is form Gates h (gate_row form h) of_gate all_gates (λ i p x. refl) (λ i. refl)
      (λ i v vs. refl) given h.gates _ _
      (λ p x. refl))))

  -- and are at most twice as many records as its size says.
  pub listed_most : (given p : ℕ) (x : List ℕ) → listed_size form order h given p x
      ≤ 2 * sections_size form given h p x
  listed_most given p x =
      let latches = section_twice given 3 2 h.latches (latch_row form h) (columns_written given)
      (columns_written given) (omega arith) (λ p x. omega arith) in
      omega (arith, written_is given p x, inputs_twice form given h _ _ latches p x)
