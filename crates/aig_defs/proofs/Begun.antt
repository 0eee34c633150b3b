-- The size of what was read: at most that of the header, that of the circuit if a text that spells
-- it was given whole, and no less if more was given.
use Rattle.std.proofs.Common.{◌≡◌, ◌+◌, ◌*◌, ◌<◌, ◌≤◌, Bool, true, false, cond, leb, ltb, Option, List, [], ℕ, zero, suc, min, ap, ◌∙◌, refl, arith, length}
use Rattle.std.proofs.lemmas.Bool.{lt-ltb, ltb-true, le-leb, leb-true}
use Rattle.aig_defs.specs.declared.circuit.Header.{Header}
use Rattle.aig_defs.specs.declared.form.Form.{Form}
use Rattle.aig_defs.specs.declared.form.Form.TheVariants.{Ascii, Binary}
use Rattle.aig_defs.specs.Circuit.{Circuit, columns}
use Rattle.aig_defs.specs.Items.{Reading, Reads, Fails, Item, times}
use Rattle.aig_defs.specs.Order.{magic, header_line, input_row, latch_row, output_row, gate_row, sections, Spells}
use Rattle.aig_defs.specs.Begun.{counts_after, items_begun, section_size, inputs_size, sections_size, size_read, text_size, circuit_size}
use Rattle.aig_defs.proofs.Items.{through, TakesBytes, pieces_of, times_take}
use Rattle.aig_defs.proofs.Order.{ascii_input_takes, latch_row_takes, output_row_takes, gate_row_takes, latches_take, outputs_take, gates_take, ReadsSections, sections_read, text_reads}
use Rattle.aig_defs.proofs.Tail.{tail_takes}

-- no more items were begun than there are
after_most : {A : Type 0} (r : Reading A) (more : A → ℕ → List ℕ → ℕ) (most : ℕ)
    → ((a : A) (p : ℕ) (x : List ℕ) → more a p x ≤ most) → counts_after r more ≤ most
after_most (Reads a p x) more most f = f a p x
after_most (Fails kind place) more most f = omega arith

begun_by : (test : Bool) (k n : ℕ) → k ≤ n → cond test (1 + k) 0 ≤ suc n
begun_by true k n h = omega arith
begun_by false k n h = omega arith

pub begun_most : {A : Type 0} (given n i : ℕ) (item : ℕ → Item A) (p : ℕ) (x : List ℕ)
    → items_begun given n i item p x ≤ n
begun_most given zero i item p x = omega arith
begun_most given (suc n) i item p x = begun_by _ _ n
    (after_most (item i p x) (λ _. items_begun given n (i + 1) item) n
    (λ a q y. begun_most given n (i + 1) item q y))

section_most : {A : Type 0} (given weight n : ℕ) (item : ℕ → Item A) (after : ℕ → List ℕ → ℕ)
    (most : ℕ)
    → ((p : ℕ) (x : List ℕ) → after p x ≤ most) → (p : ℕ) (x : List ℕ)
    → section_size given weight n item after p x ≤ weight * n + most
section_most given weight n item after most f p x =
    let begun = begun_most given n 0 item p x in
    let rest = after_most (times n 0 item p x) (λ _. after) most (λ a q y. f q y) in
    grind (arith, begun, rest)

-- the sections from the gates, the outputs and the latches on
abbrev gates_size : Form → ℕ → Header → ℕ → List ℕ → ℕ
gates_size form given h = section_size given 2 h.gates (gate_row form h) (λ p x. 0)

abbrev outputs_size : Form → ℕ → Header → ℕ → List ℕ → ℕ
outputs_size form given h =
    section_size given 1 (columns h) (output_row h) (gates_size form given h)

abbrev later_size : Form → ℕ → Header → ℕ → List ℕ → ℕ
later_size form given h =
    section_size given 2 h.latches (latch_row form h) (outputs_size form given h)

later_most : (form : Form) (given : ℕ) (h : Header) (p : ℕ) (x : List ℕ)
    → later_size form given h p x ≤ 2 * h.latches + (1 * columns h + (2 * h.gates + 0))
later_most form given h =
    section_most given 2 h.latches (latch_row form h) _ (1 * columns h + (2 * h.gates + 0))
    (section_most given 1 (columns h) (output_row h) _ (2 * h.gates + 0)
    (section_most given 2 h.gates (gate_row form h) (λ p x. 0) 0 (λ p x. omega arith)))

given_most : (test : Bool) (n : ℕ) → cond test n 0 ≤ n
given_most true n = omega arith
given_most false n = omega arith

pub sections_most : (form : Form) (given : ℕ) (h : Header) (p : ℕ) (x : List ℕ)
    → sections_size form given h p x ≤ circuit_size h
sections_most (Ascii u) given h p x =
    let inputs = section_most given 1 h.inputs (input_row (Ascii u) h) (later_size (Ascii u) given h)
    (2 * h.latches + (1 * columns h + (2 * h.gates + 0))) (later_most (Ascii u) given h) p x in
    omega (arith, inputs)
sections_most (Binary u) given h p x =
    omega (arith, later_most (Binary u) given h p x, given_most (leb p given) h.inputs)

-- an item that was begun and read, and those after it
pub begun_then : {A : Type 0} (given n i : ℕ) (item : ℕ → Item A) (p q : ℕ) (x y : List ℕ) (a : A)
    → p < given → item i p x ≡ Reads a q y
    → items_begun given (suc n) i item p x ≡ suc (items_begun given n (i + 1) item q y)
begun_then {A} given n i item p q x y a low e =
    let after = λ (r : Reading A). counts_after r (λ _. items_begun given n (i + 1) item) in
    ap (λ test. cond test (1 + after (item i p x)) 0) (lt-ltb p given low)
    ∙ ap (λ r. 1 + after r) e ∙ omega arith

-- Of items that were all read, each with a byte or more, all were begun.
pub begun_all : {A : Type 0} (given n i : ℕ) (item : ℕ → Item A) → ((i : ℕ) → TakesBytes (item i))
    → (p : ℕ) (x : List ℕ) (values : List A) (q : ℕ) (y : List ℕ)
    → times n i item p x ≡ Reads values q y → q ≤ given → items_begun given n i item p x ≡ n
begun_all given zero i item f p x values q y e low = refl
begun_all given (suc n) i item f p x values q y e low =
    let t = through (item i p x) _ values q y e in
    let first = f i p x t.value t.place t.left t.first in
    let u = through (times n (i + 1) item t.place t.left) _ values q y t.after in
    let take = times_take n (i + 1) item (λ j. pieces_of (f j)) in
    let rest = take t.place t.left u.value u.place u.left u.first in
    let end : u.place ≡ q = cc (u.after) in
    let here : p < given = omega (arith, first.1, rest.place, end) in
    let there : u.place ≤ given = omega (arith, end) in
    begun_then given n i item p t.place x t.left t.value here t.first
    ∙ ap suc (begun_all given n (i + 1) item f t.place t.left u.value u.place u.left u.first there)

section_all : {A : Type 0} (given weight n : ℕ) (item : ℕ → Item A) (after : ℕ → List ℕ → ℕ)
    → ((i : ℕ) → TakesBytes (item i))
    → (p : ℕ) (x : List ℕ) (values : List A) (q : ℕ) (y : List ℕ)
    → times n 0 item p x ≡ Reads values q y → q ≤ given
    → section_size given weight n item after p x ≡ weight * n + after q y
section_all given weight n item after f p x values q y e low =
    ap (λ k. weight * k + counts_after (times n 0 item p x) (λ _. after))
    (begun_all given n 0 item f p x values q y e low)
    ∙ ap (λ r. weight * n + counts_after r (λ _. after)) e

-- the inputs of the binary form take no byte
free_inputs : (u : Option ℕ) (h : Header) (n i p : ℕ) (x : List ℕ) (values : List ℕ) (q : ℕ) (y : List ℕ)
    → times n i (input_row (Binary u) h) p x ≡ Reads values q y → (p ≡ q) × (x ≡ y)
free_inputs u h zero i p x values q y e = (cc, cc)
free_inputs u h (suc n) i p x values q y e =
    let t = through (times n (i + 1) (input_row (Binary u) h) p x) _ values q y e in
    let rest = free_inputs u h n (i + 1) p x t.value t.place t.left t.first in
    let place : t.place ≡ q = cc (t.after) in
    let left : t.left ≡ y = cc (t.after) in
    (rest.0 ∙ place, rest.1 ∙ left)

inputs_all : (form : Form) (given : ℕ) (h : Header) (after : ℕ → List ℕ → ℕ)
    (p : ℕ) (x : List ℕ) (values : List ℕ) (q : ℕ) (y : List ℕ)
    → times h.inputs 0 (input_row form h) p x ≡ Reads values q y → q ≤ given
    → inputs_size form given h after p x ≡ h.inputs + after q y
inputs_all (Ascii u) given h after p x values q y e low =
    section_all given 1 h.inputs (input_row (Ascii u) h) after (ascii_input_takes u h) p x values q y e
    low ∙ omega arith
inputs_all (Binary u) given h after p x values q y e low =
    let still = free_inputs u h h.inputs 0 p x values q y e in
    ap (λ p. cond (leb p given) h.inputs 0 + after p x) still.0
    ∙ ap (λ x. cond (leb q given) h.inputs 0 + after q x) still.1
    ∙ ap (λ test. cond test h.inputs 0 + after q y) (le-leb q given low)

-- Of sections that were all read, all was begun.
pub sections_all : (form : Form) (given : ℕ) (h : Header) (p : ℕ) (x : List ℕ) (c : Circuit)
    (q : ℕ) (y : List ℕ) → ReadsSections form h p x c q y → q ≤ given
    → sections_size form given h p x ≡ circuit_size h
sections_all form given h p x c q y r low =
    let latches = latches_take form h r.after_inputs r.left_inputs c.latches r.after_latches
    r.left_latches r.latches in
    let outputs = outputs_take h r.after_latches r.left_latches c.columns r.after_outputs
    r.left_outputs r.columns in
    let gates = gates_take form h r.after_outputs r.left_outputs c.gates r.after_gates
    r.left_gates r.gates in
    let end = tail_takes h r.after_gates r.left_gates tt q y r.tail in
    let four : r.after_gates ≤ given = omega (arith, end.place, low) in
    let three : r.after_outputs ≤ given = omega (arith, gates.place, four) in
    let two : r.after_latches ≤ given = omega (arith, outputs.place, three) in
    let one : r.after_inputs ≤ given = omega (arith, latches.place, two) in
    let of_gates = section_all given 2 h.gates (gate_row form h) (λ p x. 0) (gate_row_takes form h)
    r.after_outputs r.left_outputs c.gates r.after_gates r.left_gates r.gates four in
    let of_outputs = section_all given 1 (columns h) (output_row h) (gates_size form given h)
    (output_row_takes h) r.after_latches r.left_latches c.columns r.after_outputs r.left_outputs
    r.columns three in
    let of_latches = section_all given 2 h.latches (latch_row form h) (outputs_size form given h)
    (latch_row_takes form h) r.after_inputs r.left_inputs c.latches r.after_latches r.left_latches
    r.latches two in
    inputs_all form given h (later_size form given h) p x c.inputs r.after_inputs r.left_inputs
    r.inputs one
    ∙ omega (arith, of_latches, of_outputs, of_gates)

-- If more was given, no less was begun.
pub after_rises : {A : Type 0} (r : Reading A) (f g : A → ℕ → List ℕ → ℕ)
    → ((a : A) (p : ℕ) (x : List ℕ) → f a p x ≤ g a p x)
    → counts_after r f ≤ counts_after r g
after_rises (Reads a p x) f g h = h a p x
after_rises (Fails kind place) f g h = omega arith

pub test_rises : (t u : Bool) (m n : ℕ) → (t ≡ true → u ≡ true) → m ≤ n → cond t m 0 ≤ cond u n 0
test_rises true true m n f h = h
test_rises true false m n f h = cc (f refl)
test_rises false u m n f h = omega arith

pub begun_rises : {A : Type 0} (given more n i : ℕ) (item : ℕ → Item A) → given ≤ more
    → (p : ℕ) (x : List ℕ)
    → items_begun given n i item p x ≤ items_begun more n i item p x
begun_rises given more zero i item h p x = omega arith
begun_rises given more (suc n) i item h p x =
    let rest = after_rises (item i p x) (λ _. items_begun given n (i + 1) item)
    (λ _. items_begun more n (i + 1) item)
    (λ a q y. begun_rises given more n (i + 1) item h q y) in
    test_rises (ltb p given) (ltb p more) _ _
    (λ low. lt-ltb p more (omega (arith, ltb-true p given low))) (omega (arith, rest))

section_rises : {A : Type 0} (given more weight n : ℕ) (item : ℕ → Item A) (f g : ℕ → List ℕ → ℕ)
    → given ≤ more
    → ((p : ℕ) (x : List ℕ) → f p x ≤ g p x) → (p : ℕ) (x : List ℕ)
    → section_size given weight n item f p x ≤ section_size more weight n item g p x
section_rises given more weight n item f g h k p x =
    let begun = begun_rises given more n 0 item h p x in
    let rest = after_rises (times n 0 item p x) (λ _. f) (λ _. g) (λ a q y. k q y) in
    grind (arith, begun, rest)

later_rises : (form : Form) (given more : ℕ) (h : Header) → given ≤ more → (p : ℕ) (x : List ℕ)
    → later_size form given h p x ≤ later_size form more h p x
later_rises form given more h low =
    section_rises given more 2 h.latches (latch_row form h) _ _ low
    (section_rises given more 1 (columns h) (output_row h) _ _ low
    (section_rises given more 2 h.gates (gate_row form h) _ _ low (λ p x. omega arith)))

sections_rise : (form : Form) (given more : ℕ) (h : Header) → given ≤ more → (p : ℕ) (x : List ℕ)
    → sections_size form given h p x ≤ sections_size form more h p x
sections_rise (Ascii u) given more h low p x =
    section_rises given more 1 h.inputs (input_row (Ascii u) h) _ _ low
    (later_rises (Ascii u) given more h low) p x
sections_rise (Binary u) given more h low p x =
    let inputs = test_rises (leb p given) (leb p more) h.inputs h.inputs
    (λ t. le-leb p more (omega (arith, leb-true p given t))) (omega arith) in
    omega (arith, inputs, later_rises (Binary u) given more h low p x)

pub size_rises : (form : Form) (given more : ℕ) → given ≤ more → (p : ℕ) (x : List ℕ)
    → size_read form given p x ≤ size_read form more p x
size_rises form given more low p x =
    after_rises (header_line form p x) (sections_size form given) (sections_size form more)
    (λ h. sections_rise form given more h low)

-- More bytes than the text has change nothing.
pub text_size_whole : (u : Option ℕ) (given : ℕ) (x : List ℕ) → length x ≤ given
    → text_size u given x ≡ text_size u (length x) x
text_size_whole u given x low =
    let same : min given (length x) ≡ min (length x) (length x) = omega (arith, low) in
    ap (λ k. counts_after (magic u 0 x) (λ form. size_read form k)) same

pub text_size_rises : (u : Option ℕ) (given more : ℕ) (x : List ℕ) → given ≤ more
    → text_size u given x ≤ text_size u more x
text_size_rises u given more x low =
    let least : min given (length x) ≤ min more (length x) = omega (arith, low) in
    after_rises (magic u 0 x) (λ form. size_read form (min given (length x)))
    (λ form. size_read form (min more (length x)))
    (λ form p y. size_rises form (min given (length x)) (min more (length x)) least p y)

-- A text that spells a circuit has the circuit's size, once all of it was given.
pub spelled_size : (u : Option ℕ) (form : Form) (x : List ℕ) (c : Circuit) (given : ℕ)
    → Spells u form x c → length x ≤ given
    → text_size u given x ≡ circuit_size c.header
spelled_size u form x c given s low =
    let t = text_reads u x form c (length x) [] s.reads in
    let h = through (header_line form t.place t.left) (sections form) c (length x) [] t.circuit in
    let r = sections_read form h.value h.place h.left c (length x) [] h.after in
    let all : length x ≤ min given (length x) = omega (arith, low) in
    ap (λ r. counts_after r (λ form. size_read form (min given (length x)))) t.magic
    ∙ ap (λ r. counts_after r (sections_size form (min given (length x)))) h.first
    ∙ sections_all form (min given (length x)) h.value h.place h.left c (length x) [] r all
    ∙ ap circuit_size r.header

-- What was read is at most E of the header that was read.
pub size_most : (form : Form) (given : ℕ) (p : ℕ) (x : List ℕ) (h : Header) (q : ℕ) (y : List ℕ)
    → header_line form p x ≡ Reads h q y → size_read form given p x ≤ circuit_size h
size_most form given p x h q y e =
    let same = ap (λ r. counts_after r (sections_size form given)) e in
    omega (arith, same, sections_most form given h q y)

-- The same of a whole text: its magic and its header were read.
pub text_size_most : (u : Option ℕ) (given : ℕ) (x : List ℕ) (form : Form) (p : ℕ) (y : List ℕ) (h : Header)
    (q : ℕ) (z : List ℕ)
    → magic u 0 x ≡ Reads form p y → header_line form p y ≡ Reads h q z
    → text_size u given x ≤ circuit_size h
text_size_most u given x form p y h q z m e =
    let same = ap (λ r. counts_after r (λ form. size_read form (min given (length x)))) m in
    omega (arith, same, size_most form (min given (length x)) p y h q z e)
