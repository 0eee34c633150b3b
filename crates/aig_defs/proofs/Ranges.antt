-- A circuit that a text spells has the header's lengths, and its literals are in their ranges.
use Rattle.std.proofs.Common.{◌≡◌, ◌+◌, ◌-◌, ◌*◌, ◌%◌, ◌^◌, ◌<◌, ◌≤◌, Bool, true, false, cond, ltb, eqb, ◌||◌, List, [], ◌∷◌, ℕ, zero, suc, sym, ap, ◌∙◌, refl, subst, arith, length, Option, Some, None, All}
use Rattle.std.proofs.lemmas.Bool.{leb-true, ltb-false, eqb-true, eqb-false, or_parts}
use Rattle.std.proofs.lemmas.List.Elements.{All-nil, All-cons}
use Rattle.aig_defs.specs.declared.fault.AigKind.{AigKind}
use Rattle.aig_defs.specs.declared.fault.AigKind.TheVariants.{TooLarge, LiteralRange, OddDefinition}
use Rattle.aig_defs.specs.declared.circuit.Header.{Header}
use Rattle.aig_defs.specs.declared.circuit.Latch.{Latch}
use Rattle.aig_defs.specs.declared.circuit.Gate.{Gate}
use Rattle.aig_defs.specs.declared.form.Form.{Form}
use Rattle.aig_defs.specs.declared.form.Form.TheVariants.{Ascii, Binary}
use Rattle.aig_defs.specs.declared.form.Limit.{Limit}
use Rattle.aig_defs.specs.declared.form.Limit.TheVariants.{Count, Defining, Used}
use Rattle.aig_defs.specs.Circuit.{Circuit, IsHeader, IsDefining, IsUsed, IsLatch, IsGate, IsCircuit, columns}
use Rattle.aig_defs.specs.Items.{Reads, Item, fails, ◌>>=◌, times, space, line_end, goes_on, if_more, number, delta}
use Rattle.aig_defs.specs.Order.{header_number, first_numbers, with_further, justice, constraints, bads, further, latch_end, counts_fit, header_line, literal_line, latch_line, next_line, gate_line, gate_deltas, input_row, latch_row, output_row, gate_row, sections, after_magic, Spells}
use Rattle.aig_defs.specs.Tail.{tail}
use Rattle.aig_defs.proofs.Items.{through, number_reads}
use Rattle.aig_defs.proofs.Order.{circuit_of, sections_read, text_reads}

-- this holds of each value that the item reads
abbrev pub GivesOnly : {A : Type 0} → (A → Type 0) → Item A → Type 0
GivesOnly {A} P item = (p : ℕ) (x : List ℕ) (a : A) (q : ℕ) (y : List ℕ) → item p x ≡ Reads a q y
    → P a

pub value_gives : {A : Type 0} (P : A → Type 0) (v : A) → P v → GivesOnly P (Reads v)
value_gives P v h p x a q y e = let same : v ≡ a = cc in subst P same h

-- an item of whose values Q holds, and the next one, of whose values P holds
pub gives_then : {A B : Type 0} {Q : A → Type 0} {P : B → Type 0} {item : Item A}
    {next : A → Item B} → GivesOnly Q item → ((a : A) → Q a → GivesOnly P (next a))
    → GivesOnly P (item >>= next)
gives_then {A} {B} {Q} {P} {item} {next} f g p x b q y e =
    let t = through (item p x) next b q y e in
    g t.value (f p x t.value t.place t.left t.first) t.place t.left b q y t.after

-- any item, and the next one, of whose values P holds
pub gives_after : {A B : Type 0} {P : B → Type 0} (item : Item A) {next : A → Item B}
    → ((a : A) → GivesOnly P (next a)) → GivesOnly P (item >>= next)
gives_after {A} {B} {P} item {next} g p x b q y e =
    let t = through (item p x) next b q y e in g t.value t.place t.left b q y t.after

-- what is known of a value with no fault
used_by : (over : Bool) (max v : ℕ) → ltb (2 * max + 1) v ≡ over
    → cond over (Some LiteralRange) None ≡ None → v ≤ 2 * max + 1
used_by true max v t e = cc
used_by false max v t e = ltb-false _ _ t

-- a number that isn't odd is even
even_by : (v : ℕ) → eqb (v % 2) 1 ≡ false → v % 2 ≡ 0
even_by v t = let odd = eqb-false (v % 2) 1 t in omega (arith, odd)

defining_by : (over bad : Bool) (h : Header) (v : ℕ) → ltb (2 * h.max + 1) v ≡ over
    → (eqb v 0 || eqb (v % 2) 1) ≡ bad
    → cond over (Some LiteralRange) (cond bad (Some OddDefinition) None) ≡ None → IsDefining h v
defining_by true bad h v t u e = cc
defining_by false true h v t u e = cc
defining_by false false h v t u e =
    let parts : (eqb v 0 ≡ false) × (eqb (v % 2) 1 ≡ false) = or_parts _ _ u in
    let some = eqb-false v 0 parts.0 in
    let even = even_by v parts.1 in
    record { low = omega (arith, some, even); high = ltb-false _ _ t; even = even }

count_by : (over : Bool) (v : ℕ) → ltb (2 ^ 40) v ≡ over → cond over (Some TooLarge) None ≡ None
    → v ≤ 2 ^ 40
count_by true v t e = cc
count_by false v t e = ltb-false _ _ t

pub used_gives : (h : Header) → GivesOnly (IsUsed h) (number (Used h.max))
used_gives h p x v q y e = used_by _ h.max v refl (number_reads (Used h.max) p x v q y e).sound

pub defining_gives : (h : Header) → GivesOnly (IsDefining h) (number (Defining h.max))
defining_gives h p x v q y e =
    defining_by _ _ h v refl refl (number_reads (Defining h.max) p x v q y e).sound

count_gives : GivesOnly (λ v. v ≤ 2 ^ 40) (number Count)
count_gives p x v q y e = count_by _ v refl (number_reads Count p x v q y e).sound

-- the header
header_number_gives : GivesOnly (λ v. v ≤ 2 ^ 40) header_number
header_number_gives = gives_after space (λ _. count_gives)

-- B and C are at most 2^40
record FewFurther (f : ℕ × ℕ) : Type 0 where
  bads : f.0 ≤ 2 ^ 40
  constraints : f.1 ≤ 2 ^ 40

if_more_gives : {A : Type 0} (P : A → Type 0) (end : A) {rest : Item A} → P end → GivesOnly P rest
    → (on : Bool) → GivesOnly P (if_more end rest on)
if_more_gives P end h f true p x a q y e = f p x a q y e
if_more_gives P end h f false p x a q y e = value_gives P end h p x a q y e

constraints_give : (b : ℕ) → b ≤ 2 ^ 40 → GivesOnly FewFurther (constraints b)
constraints_give b hb =
    gives_then count_gives (λ c hc.
    gives_after goes_on (λ on.
    gives_after (if_more tt justice on) (λ _.
    value_gives FewFurther (b, c) (record { bads = hb; constraints = hc }))))

bads_give : GivesOnly FewFurther bads
bads_give =
    gives_then count_gives (λ b hb.
    gives_after goes_on
    (if_more_gives FewFurther (b, 0) (record { bads = hb; constraints = omega arith })
    (constraints_give b hb)))

further_gives : GivesOnly FewFurther further
further_gives =
    gives_after goes_on
    (if_more_gives FewFurther (0, 0) (record { bads = omega arith; constraints = omega arith })
    bads_give)

-- a header that was read in this form
pub record FitsForm (form : Form) (h : Header) : Type 0 where
  pub header : IsHeader h
  pub counts : counts_fit form h ≡ true

fit_enough : (form : Form) (h : Header) → counts_fit form h ≡ true
    → h.inputs + h.latches + h.gates ≤ h.max
fit_enough (Ascii u) h e = leb-true _ _ e
fit_enough (Binary u) h e = let same = eqb-true _ _ e in omega (arith, same)

-- the further numbers don't count there
fit_further : (form : Form) (h : Header) (f : ℕ × ℕ) → counts_fit form h ≡ true
    → counts_fit form (with_further h f) ≡ true
fit_further (Ascii u) h f e = e
fit_further (Binary u) h f e = e

counted_by : (fit : Bool) (form : Form) (h : Header) (kind : AigKind) (place : ℕ)
    → counts_fit form h ≡ fit
    → GivesOnly (λ k. (h ≡ k) × (counts_fit form h ≡ true)) (cond fit (Reads h) (fails kind place))
counted_by true form h kind place t p x k q y e = (cc, t)
counted_by false form h kind place t p x k q y e = cc

header_is : (form : Form) (m i l o a : ℕ) → m ≤ 2 ^ 40 → i ≤ 2 ^ 40 → l ≤ 2 ^ 40 → o ≤ 2 ^ 40
    → a ≤ 2 ^ 40
    → (h : Header) → h ≡ first_numbers m i l o a → counts_fit form h ≡ true → (f : ℕ × ℕ)
    → FewFurther f → FitsForm form (with_further h f)
header_is form m i l o a hm hi hl ho ha h e t f few = record {
  header = record {
    max = rw e hm;
    inputs = rw e hi;
    latches = rw e hl;
    outputs = rw e ho;
    gates = rw e ha;
    bads = few.bads;
    constraints = few.constraints;
    enough = fit_enough form h t;
  };
  counts = fit_further form h f t;
}

counts_as : (form : Form) (h k : Header) → h ≡ k → counts_fit form h ≡ true
    → counts_fit form k ≡ true
counts_as form h k same e = ap (counts_fit form) (sym same) ∙ e

pub header_gives : (form : Form) → GivesOnly (FitsForm form) (header_line form)
header_gives form =
    gives_then header_number_gives (λ m hm.
    gives_then header_number_gives (λ i hi.
    gives_then header_number_gives (λ l hl.
    gives_then header_number_gives (λ o ho.
    gives_then header_number_gives (λ a ha.
    gives_then (counted_by _ form _ _ _ refl) (λ h is.
    gives_then further_gives (λ f few.
    value_gives (FitsForm form) (with_further h f)
    (header_is form m i l o a hm hi hl ho ha h (sym is.0) (counts_as form _ h is.0 is.1) f few))))))))

-- the lines of the ASCII form
literal_line_gives : (P : ℕ → Type 0) (limit : Limit) → GivesOnly P (number limit)
    → GivesOnly P (literal_line limit)
literal_line_gives P limit f = gives_then f (λ v h. gives_after line_end (λ _. value_gives P v h))

latch_line_gives : (u : Option ℕ) (h : Header) → GivesOnly (IsLatch h) (latch_line u h)
latch_line_gives u h =
    gives_then (defining_gives h) (λ current hc.
    gives_after space (λ _.
    gives_then (used_gives h) (λ next hn.
    gives_after (latch_end u current) (λ reset.
    value_gives (IsLatch h) _ (record { current = hc; next = hn })))))

gate_line_gives : (h : Header) → GivesOnly (IsGate h) (gate_line h)
gate_line_gives h =
    gives_then (defining_gives h) (λ lhs hl.
    gives_after space (λ _.
    gives_then (used_gives h) (λ rhs0 h0.
    gives_after space (λ _.
    gives_then (used_gives h) (λ rhs1 h1.
    gives_after line_end (λ _.
    value_gives (IsGate h) _ (record { lhs = hl; rhs0 = h0; rhs1 = h1 })))))))

-- the rows of the binary form: a variable up to M, and operands that aren't above it
numbered_defines : (h : Header) (v : ℕ) → 1 ≤ v → v ≤ h.max → IsDefining h (2 * v)
numbered_defines h v some most =
    record { low = omega arith; high = omega arith; even = omega arith }

next_line_gives : (u : Option ℕ) (h : Header) (j : ℕ) → h.inputs + 1 + j ≤ h.max
    → GivesOnly (IsLatch h) (next_line u h j)
next_line_gives u h j low =
    let own = numbered_defines h (h.inputs + 1 + j) (omega arith) low in
    gives_then (used_gives h) (λ next hn.
    gives_after (latch_end u (2 * (h.inputs + 1 + j))) (λ reset.
    value_gives (IsLatch h) _ (record { current = own; next = hn })))

gate_deltas_give : (h : Header) (i : ℕ) → h.inputs + h.latches + 1 + i ≤ h.max
    → GivesOnly (IsGate h) (gate_deltas h i)
gate_deltas_give h i low =
    let own = numbered_defines h (h.inputs + h.latches + 1 + i) (omega arith) low in
    let lhs = 2 * (h.inputs + h.latches + 1 + i) in
    gives_after (delta 1 lhs) (λ delta0.
    gives_after (delta 0 (lhs - delta0)) (λ delta1.
    value_gives (IsGate h) _ (record { lhs = own; rhs0 = omega arith; rhs1 = omega arith })))

-- the rows of sections
pub input_row_gives : (form : Form) (h : Header) (i : ℕ) → FitsForm form h → i < h.inputs
    → GivesOnly (IsDefining h) (input_row form h i)
input_row_gives (Ascii u) h i fits low = literal_line_gives (IsDefining h) (Defining h.max)
    (defining_gives h)
input_row_gives (Binary u) h i fits low =
    let same = eqb-true _ _ fits.counts in
    value_gives (IsDefining h) (2 * (i + 1))
    (numbered_defines h (i + 1) (omega arith) (omega (arith, same)))

pub latch_row_gives : (form : Form) (h : Header) (j : ℕ) → FitsForm form h → j < h.latches
    → GivesOnly (IsLatch h) (latch_row form h j)
latch_row_gives (Ascii u) h j fits low = latch_line_gives u h
latch_row_gives (Binary u) h j fits low =
    let same = eqb-true _ _ fits.counts in next_line_gives u h j (omega (arith, same))

pub output_row_gives : (h : Header) (j : ℕ) → GivesOnly (IsUsed h) (output_row h j)
output_row_gives h j = literal_line_gives (IsUsed h) (Used h.max) (used_gives h)

pub gate_row_gives : (form : Form) (h : Header) (i : ℕ) → FitsForm form h → i < h.gates
    → GivesOnly (IsGate h) (gate_row form h i)
gate_row_gives (Ascii u) h i fits low = gate_line_gives h
gate_row_gives (Binary u) h i fits low =
    let same = eqb-true _ _ fits.counts in gate_deltas_give h i (omega (arith, same))

-- items side by side: as many values as items, and what holds of each
pub record ManyHold {A : Type 0} (P : A → Type 0) (n : ℕ) (values : List A) : Type 0 where
  pub count : length values ≡ n
  pub all : All P values

pub times_gives : {A : Type 0} (P : A → Type 0) (n i : ℕ) (item : ℕ → Item A)
    → ((j : ℕ) → i ≤ j → j < i + n → GivesOnly P (item j))
    → GivesOnly (ManyHold P n) (times n i item)
times_gives P zero i item f =
    value_gives (ManyHold P 0) [] (record { count = refl; all = All-nil P })
times_gives P (suc n) i item f =
    let later = times_gives P n (i + 1) item (λ j over under. f j (omega arith) (omega arith)) in
    gives_then (f i (omega arith) (omega arith)) (λ first h.
    gives_then later (λ rest k.
    value_gives (ManyHold P (suc n)) (first ∷ rest)
    (record { count = ap suc k.count; all = All-cons P first rest h k.all })))

inputs_give : (form : Form) (h : Header) → FitsForm form h
    → GivesOnly (ManyHold (IsDefining h) h.inputs) (times h.inputs 0 (input_row form h))
inputs_give form h fits = times_gives (IsDefining h) h.inputs 0 (input_row form h)
    (λ i over under. input_row_gives form h i fits (omega arith))

latches_give : (form : Form) (h : Header) → FitsForm form h
    → GivesOnly (ManyHold (IsLatch h) h.latches) (times h.latches 0 (latch_row form h))
latches_give form h fits = times_gives (IsLatch h) h.latches 0 (latch_row form h)
    (λ j over under. latch_row_gives form h j fits (omega arith))

outputs_give : (h : Header)
    → GivesOnly (ManyHold (IsUsed h) (columns h)) (times (columns h) 0 (output_row h))
outputs_give h = times_gives (IsUsed h) (columns h) 0 (output_row h)
    (λ j over under. output_row_gives h j)

gates_give : (form : Form) (h : Header) → FitsForm form h
    → GivesOnly (ManyHold (IsGate h) h.gates) (times h.gates 0 (gate_row form h))
gates_give form h fits = times_gives (IsGate h) h.gates 0 (gate_row form h)
    (λ i over under. gate_row_gives form h i fits (omega arith))

-- the circuit
circuit_is : (form : Form) (h : Header) (is : List ℕ) (ls : List Latch) (os : List ℕ)
    (gs : List Gate)
    → FitsForm form h → ManyHold (IsDefining h) h.inputs is → ManyHold (IsLatch h) h.latches ls
    → ManyHold (IsUsed h) (columns h) os → ManyHold (IsGate h) h.gates gs
    → IsCircuit (circuit_of h is ls os gs)
circuit_is form h is ls os gs fits hi hl ho hg = record {
  header = fits.header;
  lengths = record { inputs = hi.count; latches = hl.count; columns = ho.count; gates = hg.count };
  inputs = hi.all;
  latches = hl.all;
  columns = ho.all;
  gates = hg.all;
}

pub sections_give : (form : Form) (h : Header) → FitsForm form h
    → GivesOnly IsCircuit (sections form h)
sections_give form h fits =
    gives_then (inputs_give form h fits) (λ is hi.
    gives_then (latches_give form h fits) (λ ls hl.
    gives_then (outputs_give h) (λ os ho.
    gives_then (gates_give form h fits) (λ gs hg.
    gives_after (tail h) (λ _.
    value_gives IsCircuit (circuit_of h is ls os gs)
    (circuit_is form h is ls os gs fits hi hl ho hg))))))

pub after_magic_gives : (form : Form) → GivesOnly IsCircuit (after_magic form)
after_magic_gives form = gives_then (header_gives form) (sections_give form)

-- The counts of a circuit that a text spells fit its form.
pub spelled_fits : (u : Option ℕ) (form : Form) (x : List ℕ) (c : Circuit) → Spells u form x c
    → counts_fit form c.header ≡ true
spelled_fits u form x c s =
    let t = text_reads u x form c (length x) [] s.reads in
    let h = through (header_line form t.place t.left) (sections form) c (length x) [] t.circuit in
    let r = sections_read form h.value h.place h.left c (length x) [] h.after in
    let fits = header_gives form t.place t.left h.value h.place h.left h.first in
    counts_as form h.value c.header r.header fits.counts

-- A circuit that a text spells is one.
pub spelled_is : (u : Option ℕ) (form : Form) (x : List ℕ) (c : Circuit) → Spells u form x c
    → IsCircuit c
spelled_is u form x c s =
    let t = text_reads u x form c (length x) [] s.reads in
    after_magic_gives form t.place t.left c (length x) [] t.circuit
