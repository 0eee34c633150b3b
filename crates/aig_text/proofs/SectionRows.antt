-- The lines of sections by what they spell, and the circuit that they are of.
use Rattle.std.proofs.Common.{◌≡◌, ◌+◌, ◌*◌, ◌%◌, ◌≤◌, Bool, true, false, cond, ltb, eqb, ◌||◌, List, [], ◌∷◌, ◌++◌, ℕ, sym, ap, ap₂, ◌∙◌, refl, arith, length, Some, None, subst}
use Rattle.std.proofs.lemmas.Bool.{ltb-false, eqb-false, or_parts}
use Rattle.std.proofs.lemmas.List.{append-nil, length-append}
use Rattle.std.proofs.lemmas.List.Elements.{All-nil, All-cons, All-append}
use Rattle.aig_defs.specs.declared.circuit.Gate.{Gate}
use Rattle.aig_defs.specs.declared.circuit.Header.{Header}
use Rattle.aig_defs.specs.declared.circuit.Latch.{Latch}
use Rattle.aig_defs.specs.declared.fault.AigKind.TheVariants.{LiteralRange, OddDefinition}
use Rattle.aig_defs.specs.declared.form.Limit.TheVariants.{Defining, Used}
use Rattle.aig_defs.specs.Chains.{numbered, gate_def, gate_record, output_use, reset_record, bit}
use Rattle.aig_defs.specs.Circuit.{Circuit, IsCircuit, IsDefining, IsGate, IsHeader, IsLatch, IsUsed}
use Rattle.aig_defs.specs.Items.{number_fault}
use mir.Val.{bool_byte}
use Rattle.em_space.specs.Rig.{RigState}
use Rattle.aig_text.specs.Draft.{Drafted}
use Rattle.aig_text.specs.declared.draft.Draft.{Draft}
use Rattle.aig_text.specs.Listing.{HasCounts, Listing, no_records, appended, listing_of}
use Rattle.aig_text.specs.Sections.{HasAllRows, HasLines, HasRows, IsRow, Row, lines_in, of_row, of_rows, order, share}
use Rattle.aig_text.specs.declared.section.Section.{Section}
use Rattle.aig_text.specs.declared.section.Section.TheVariants.{Inputs, Latches, Columns, Gates}
use Rattle.aig_text.proofs.Fillings.{appended_assoc, appended_none}
use Rattle.aig_text.proofs.Listings.{all_inputs, all_latches, all_outputs, all_gates}

-- The range of a number that its limit allows.
used_by : (over : Bool) (max v : ℕ) → ltb (2 * max + 1) v ≡ over
    → cond over (Some LiteralRange) None ≡ None → v ≤ 2 * max + 1
used_by true max v t e = cc
used_by false max v t e = ltb-false _ _ t

defining_by : (over bad : Bool) (h : Header) (v : ℕ) → ltb (2 * h.max + 1) v ≡ over
    → (eqb v 0 || eqb (v % 2) 1) ≡ bad
    → cond over (Some LiteralRange) (cond bad (Some OddDefinition) None) ≡ None → IsDefining h v
defining_by true bad h v t u e = cc
defining_by false true h v t u e = cc
defining_by false false h v t u e =
    let parts : (eqb v 0 ≡ false) × (eqb (v % 2) 1 ≡ false) = or_parts _ _ u in
    let some = eqb-false v 0 parts.0 in
    let odd = eqb-false (v % 2) 1 parts.1 in
    let even : v % 2 ≡ 0 = omega (arith, odd) in
    record { low = omega (arith, some, even); high = ltb-false _ _ t; even = even }

pub used_within : (h : Header) (v : ℕ) → number_fault (Used h.max) v ≡ None → IsUsed h v
used_within h v e = used_by _ h.max v refl e

pub defining_within : (h : Header) (v : ℕ) → number_fault (Defining h.max) v ≡ None → IsDefining h v
defining_within h v e = defining_by _ _ h v refl refl e

pub latch_within : (h : Header) (latch : Latch) → number_fault (Defining h.max) latch.current ≡ None
    → number_fault (Used h.max) latch.next ≡ None → IsLatch h latch
latch_within h latch c n = record {
  current = defining_within h latch.current c;
  next = used_within h latch.next n;
}

pub gate_within : (h : Header) (gate : Gate) → number_fault (Defining h.max) gate.lhs ≡ None
    → number_fault (Used h.max) gate.rhs0 ≡ None → number_fault (Used h.max) gate.rhs1 ≡ None
    → IsGate h gate
gate_within h gate l r0 r1 = record {
  lhs = defining_within h gate.lhs l;
  rhs0 = used_within h gate.rhs0 r0;
  rhs1 = used_within h gate.rhs1 r1;
}

-- the record of a reset, whose bit was written as a number
pub bit_number : (b : Bool) → bool_byte b ≡ bit b
bit_number true = refl
bit_number false = refl

pub reset_drafted : {s t : RigState} {d e : Draft} (i : ℕ) (latch : Latch) (n : ℕ)
    → n ≡ bit latch.reset
    → Drafted s t d e [] [] [] (record { a = i; b = 0; c = n; d = 0 } ∷ [])
    → Drafted s t d e [] [] [] (reset_record i latch ∷ [])
reset_drafted {s} {t} {d} {e} i latch n is h = subst
    (λ m. Drafted s t d e [] [] [] (record { a = i; b = 0; c = m; d = 0 } ∷ [])) is h

pub ruleset ranges = (latch_within)

-- No line was read,
pub no_rows : (section : Section) (h : Header) (i : ℕ) → HasRows section h i 0 no_records
no_rows section h i = record {
  rows = [];
  in_range = All-nil (IsRow section h);
  count_is = refl;
  lists = refl;
}

-- one line was read,
one_counts : (section : Section) (i : ℕ) (row : Row section)
    → HasCounts (of_row section i row) ((share section).defs * 1) ((share section).gates * 1)
    ((share section).uses * 1) ((share section).resets * 1)
one_counts Inputs i row = record { defs = refl; gates = refl; uses = refl; resets = refl }
one_counts Latches i row = record { defs = refl; gates = refl; uses = refl; resets = refl }
one_counts Columns i row = record { defs = refl; gates = refl; uses = refl; resets = refl }
one_counts Gates i row = record { defs = refl; gates = refl; uses = refl; resets = refl }

pub one_row : (section : Section) (h : Header) (i : ℕ) (row : Row section) → IsRow section h row
    → HasLines section h i 1 (of_row section i row)
one_row section h i row is = record {
  counts = one_counts section i row;
  rows = record {
    rows = row ∷ [];
    in_range = All-cons (IsRow section h) row [] is (All-nil (IsRow section h));
    count_is = refl;
    lists = sym (appended_none (of_row section i row));
  };
}

rows_append : (section : Section) (i : ℕ) (xs ys : List (Row section))
    → of_rows section i (xs ++ ys)
    ≡ appended (of_rows section i xs) (of_rows section (i + length xs) ys)
rows_append section i [] ys =
    let here : i ≡ i + 0 = omega arith in
    ap (λ k. of_rows section k ys) here
rows_append section i (x ∷ xs) ys =
    let place : i + 1 + length xs ≡ i + length (x ∷ xs) = omega arith in
    ap (appended (of_row section i x)) (rows_append section (i + 1) xs ys)
    ∙ sym (appended_assoc (of_row section i x) (of_rows section (i + 1) xs)
    (of_rows section (i + 1 + length xs) ys))
    ∙ ap (λ k. appended (of_rows section i (x ∷ xs)) (of_rows section k ys)) place

-- or one more.
pub rows_more : (section : Section) (h : Header) (i : ℕ) (a b : Listing) → HasRows section h 0 i a
    → HasRows section h i 1 b → HasRows section h 0 (i + 1) (appended a b)
rows_more section h i a b x y =
    let here : i ≡ 0 + length x.rows = omega (arith, x.count_is) in
    record {
      rows = x.rows ++ y.rows;
      in_range = All-append (IsRow section h) x.rows y.rows x.in_range y.in_range;
      count_is = omega (arith, length-append x.rows y.rows, x.count_is, y.count_is);
      lists = ap₂ appended x.lists y.lists
          ∙ ap (λ k. appended (of_rows section 0 x.rows) (of_rows section k y.rows)) here
          ∙ sym (rows_append section 0 x.rows y.rows);
    }

-- One section more was read.
pub section_more : (sections : List Section) (section : Section) (h : Header) (a b : Listing)
    → HasAllRows sections h a → HasRows section h 0 (lines_in section h) b
    → HasAllRows (sections ++ section ∷ []) h (appended a b)
section_more [] section h a b x y = record {
  first = b;
  rest = no_records;
  lists = ap (λ l. appended l b) x ∙ sym (appended_none b);
  first_is = y;
  rest_is = refl;
}
section_more (one ∷ sections) section h a b x y = record {
  first = x.first;
  rest = appended x.rest b;
  lists = ap (λ l. appended l b) x.lists ∙ appended_assoc x.first x.rest b;
  first_is = x.first_is;
  rest_is = section_more sections section h x.rest b x.rest_is y;
}

-- the lines of each section list what stands for them
inputs_are : (i : ℕ) (vs : List ℕ) → of_rows Inputs i vs ≡ all_inputs i vs
inputs_are i [] = refl
inputs_are i (v ∷ vs) = ap (appended (of_row Inputs i v)) (inputs_are (i + 1) vs)

latches_are : (i : ℕ) (vs : List Latch) → of_rows Latches i vs ≡ all_latches i vs
latches_are i [] = refl
latches_are i (v ∷ vs) = ap (appended (of_row Latches i v)) (latches_are (i + 1) vs)

outputs_are : (i : ℕ) (vs : List ℕ) → of_rows Columns i vs ≡ all_outputs i vs
outputs_are i [] = refl
outputs_are i (v ∷ vs) = ap (appended (of_row Columns i v)) (outputs_are (i + 1) vs)

gates_are : (i : ℕ) (vs : List Gate) → of_rows Gates i vs ≡ all_gates i vs
gates_are i [] = refl
gates_are i (v ∷ vs) = ap (appended (of_row Gates i v)) (gates_are (i + 1) vs)

all_are : (c : Circuit)
    → appended (all_inputs 0 c.inputs) (appended (all_latches 0 c.latches)
    (appended (all_outputs 0 c.columns) (appended (all_gates 0 c.gates) no_records)))
    ≡ listing_of c
all_are c = rw (
  append-nil (numbered gate_def 0 c.gates),
  append-nil (numbered gate_record 0 c.gates),
  append-nil (numbered output_use 0 c.columns),
  append-nil (numbered reset_record 0 c.latches),
) refl

-- The circuit of all lines.
pub record ListedRows (h : Header) (a : Listing) : Type 0 where
  pub circuit : Circuit
  pub header : circuit.header ≡ h
  pub is : IsCircuit circuit
  pub lists : listing_of circuit ≡ a

pub listed_rows : (h : Header) (a : Listing) → IsHeader h → HasAllRows order h a → ListedRows h a
listed_rows h a is x =
    let i = x.first_is in
    let l = x.rest_is.first_is in
    let o = x.rest_is.rest_is.first_is in
    let g = x.rest_is.rest_is.rest_is.first_is in
    let c : Circuit = record {
      header = h;
      inputs = i.rows;
      latches = l.rows;
      columns = o.rows;
      gates = g.rows;
    } in
    let gates = x.rest_is.rest_is.rest_is.lists
    ∙ ap₂ appended (g.lists ∙ gates_are 0 g.rows) x.rest_is.rest_is.rest_is.rest_is in
    let outputs = x.rest_is.rest_is.lists ∙ ap₂ appended (o.lists ∙ outputs_are 0 o.rows) gates in
    let latches = x.rest_is.lists ∙ ap₂ appended (l.lists ∙ latches_are 0 l.rows) outputs in
    let inputs = x.lists ∙ ap₂ appended (i.lists ∙ inputs_are 0 i.rows) latches in
    record {
      circuit = c;
      header = refl;
      is = record {
        header = is;
        lengths = record {
          inputs = i.count_is;
          latches = l.count_is;
          columns = o.count_is;
          gates = g.count_is;
        };
        inputs = i.in_range;
        latches = l.in_range;
        columns = o.in_range;
        gates = g.in_range;
      };
      lists = sym (inputs ∙ all_are c);
    }
