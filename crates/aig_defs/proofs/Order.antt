-- Each row of the order takes pieces of the text, and a whole text that was read ends there.
use Rattle.std.proofs.Common.{◌≡◌, ◌+◌, ◌-◌, ◌*◌, Bool, true, false, cond, eqb, Option, List, ◌∷◌, ◌<◌, ◌^◌, [], ℕ, sym, ap, ◌∙◌, refl, arith, length, ◌++◌, drop}
use Rattle.std.specs.Prelude.{codes, nat_eq, is_some}
use Rattle.std.specs.List.{starts_with}
use Rattle.std.proofs.lemmas.Slice.Eq.{starts_is}
use Rattle.std.proofs.lemmas.Bool.Decides.{Decides-eqb}
use Rattle.aig_defs.specs.declared.fault.AigKind.{AigKind}
use Rattle.aig_defs.specs.declared.fault.AigKind.TheVariants.{BadMagic, BadSeparator, Extension}
use Rattle.aig_defs.specs.declared.circuit.Header.{Header}
use Rattle.aig_defs.specs.declared.circuit.Latch.{Latch}
use Rattle.aig_defs.specs.declared.circuit.Gate.{Gate}
use Rattle.aig_defs.specs.declared.form.Form.{Form}
use Rattle.aig_defs.specs.declared.form.Form.TheVariants.{Ascii, Binary}
use Rattle.aig_defs.specs.declared.form.Limit.{Limit}
use Rattle.aig_defs.specs.declared.form.Limit.TheVariants.{Count, Defining, Used, NoJustice, NoFairness, Reset}
use Rattle.aig_defs.specs.Circuit.{Circuit, columns}
use Rattle.aig_defs.specs.Items.{Reading, Reads, Fails, Item, fails, and_then, ◌>>=◌, ◌>>◌, take_byte, times, line_end, last_end, goes_on_at, goes_on, if_more, number, delta}
use Rattle.aig_defs.specs.Order.{magic, header_number, with_further, fairness, justice, constraints, bads, further, header_line, literal_line, starts, reset, latch_end, latch_line, next_line, gate_line, gate_deltas, input_row, latch_row, output_row, gate_row, sections, after_magic, circuit_text}
use Rattle.aig_defs.specs.Tail.{tail}
use Rattle.aig_defs.proofs.Items.{through, Piece, TakesPieces, TakesBytes, look_cases, piece_byte, pieces_of, bytes_then, piece_then, piece_as, value_takes, takes_then, space_takes, end_takes, number_takes, delta_reads, times_take}
use Rattle.aig_defs.proofs.Tail.{tail_takes, tail_ends}

-- the header
pub header_number_takes : TakesPieces header_number
header_number_takes = takes_then space_takes (λ _. pieces_of (number_takes Count))

pub counted_takes : (fit : Bool) (h : Header) (kind : AigKind) (place : ℕ)
    → TakesPieces (cond fit (Reads h) (fails kind place))
counted_takes true h kind place p x a q y e = value_takes h p x a q y e
counted_takes false h kind place p x a q y e = cc

pub last_end_takes : TakesPieces last_end
last_end_takes = end_takes (λ byte. cond (nat_eq byte 32) Extension BadSeparator)

pub line_end_takes : TakesPieces line_end
line_end_takes = end_takes (λ _. BadSeparator)

-- whether a line goes on, and its rest if it does
goes_on_by : (ends on : Bool) (p byte : ℕ) (x : List ℕ) (a : Bool) (q : ℕ) (y : List ℕ)
    → p < 2 ^ 50
    → cond ends ((take_byte >> Reads false) p (byte ∷ x))
    (cond on ((take_byte >> Reads true) p (byte ∷ x)) (Fails BadSeparator p)) ≡ Reads a q y
    → Piece p (byte ∷ x) q y
goes_on_by true on p byte x a q y low e =
    piece_then (piece_byte p byte x low) (value_takes false (p + 1) x a q y e)
goes_on_by false true p byte x a q y low e =
    piece_then (piece_byte p byte x low) (value_takes true (p + 1) x a q y e)
goes_on_by false false p byte x a q y low e = cc

pub goes_on_takes : TakesPieces goes_on
goes_on_takes p x a q y e = look_cases (λ x. Piece p x q y) goes_on_at p x a q y e
    (λ e. value_takes false p [] a q y e)
    (λ byte t low e. goes_on_by (eqb byte 10) (eqb byte 32) p byte t a q y low e)

pub if_more_takes : {A : Type 0} (end : A) {rest : Item A} → TakesPieces rest → (on : Bool)
    → TakesPieces (if_more end rest on)
if_more_takes end f true p x a q y e = f p x a q y e
if_more_takes end f false p x a q y e = value_takes end p x a q y e

-- the header's further numbers
fairness_takes : TakesPieces fairness
fairness_takes = takes_then (pieces_of (number_takes NoFairness)) (λ _. last_end_takes)

pub justice_takes : TakesPieces justice
justice_takes =
    takes_then (takes_then (pieces_of (number_takes NoJustice)) (λ _. goes_on_takes))
    (if_more_takes tt fairness_takes)

constraints_take : (b : ℕ) → TakesPieces (constraints b)
constraints_take b =
    takes_then (pieces_of (number_takes Count)) (λ c.
    takes_then goes_on_takes (λ on.
    takes_then (if_more_takes tt justice_takes on) (λ _. value_takes (b, c))))

bads_take : TakesPieces bads
bads_take =
    takes_then (pieces_of (number_takes Count)) (λ b.
    takes_then goes_on_takes (if_more_takes (b, 0) (constraints_take b)))

pub further_takes : TakesPieces further
further_takes = takes_then goes_on_takes (if_more_takes (0, 0) bads_take)

pub header_takes : (form : Form) → TakesPieces (header_line form)
header_takes form =
    takes_then header_number_takes (λ m.
    takes_then header_number_takes (λ i.
    takes_then header_number_takes (λ l.
    takes_then header_number_takes (λ o.
    takes_then header_number_takes (λ a.
    takes_then (counted_takes _ _ _ _) (λ h.
    takes_then further_takes (λ f. value_takes (with_further h f))))))))

-- the lines of the ASCII form
pub literal_line_takes : (limit : Limit) → TakesBytes (literal_line limit)
literal_line_takes limit =
    bytes_then (number_takes limit) (λ literal.
    takes_then line_end_takes (λ _. value_takes literal))

pub used_takes : (h : Header) → TakesPieces (number (Used h.max))
used_takes h = pieces_of (number_takes (Used h.max))

-- a latch's reset and the end of its line
reset_takes : (u : Option ℕ) (own : ℕ) → TakesPieces (reset u own)
reset_takes u own =
    takes_then (pieces_of (number_takes (Reset own (is_some u)))) (λ value.
    takes_then last_end_takes (λ _. value_takes (starts u own value)))

pub latch_end_takes : (u : Option ℕ) (own : ℕ) → TakesPieces (latch_end u own)
latch_end_takes u own = takes_then goes_on_takes (if_more_takes false (reset_takes u own))

pub latch_line_takes : (u : Option ℕ) (h : Header) → TakesBytes (latch_line u h)
latch_line_takes u h =
    bytes_then (number_takes (Defining h.max)) (λ current.
    takes_then space_takes (λ _.
    takes_then (used_takes h) (λ next.
    takes_then (latch_end_takes u current) (λ reset.
    value_takes (record { current = current; next = next; reset = reset })))))

pub gate_line_takes : (h : Header) → TakesBytes (gate_line h)
gate_line_takes h =
    bytes_then (number_takes (Defining h.max)) (λ lhs.
    takes_then space_takes (λ _.
    takes_then (used_takes h) (λ rhs0.
    takes_then space_takes (λ _.
    takes_then (used_takes h) (λ rhs1.
    takes_then line_end_takes (λ _.
    value_takes (record { lhs = lhs; rhs0 = rhs0; rhs1 = rhs1 })))))))

-- the rows of the binary form
next_line_takes : (u : Option ℕ) (h : Header) (j : ℕ) → TakesBytes (next_line u h j)
next_line_takes u h j =
    let own = 2 * (h.inputs + 1 + j) in
    bytes_then (number_takes (Used h.max)) (λ next.
    takes_then (latch_end_takes u own) (λ reset.
    value_takes (record { current = own; next = next; reset = reset })))

pub delta_takes : (low high : ℕ) → TakesBytes (delta low high)
delta_takes low high p x v q y e = let d = delta_reads low high p x v q y e in (d.piece, d.some)

gate_deltas_take : (h : Header) (i : ℕ) → TakesBytes (gate_deltas h i)
gate_deltas_take h i =
    let lhs = 2 * (h.inputs + h.latches + 1 + i) in
    bytes_then (delta_takes 1 lhs) (λ delta0.
    takes_then (pieces_of (delta_takes 0 (lhs - delta0))) (λ delta1.
    value_takes (record { lhs = lhs; rhs0 = lhs - delta0; rhs1 = lhs - delta0 - delta1 })))

-- the rows of sections: each takes bytes, but for an input of the binary form, which takes none
pub ascii_input_takes : (u : Option ℕ) (h : Header) (i : ℕ) → TakesBytes (input_row (Ascii u) h i)
ascii_input_takes u h i = literal_line_takes (Defining h.max)

pub input_row_takes : (form : Form) (h : Header) (i : ℕ) → TakesPieces (input_row form h i)
input_row_takes (Ascii u) h i = pieces_of (ascii_input_takes u h i)
input_row_takes (Binary u) h i = value_takes (2 * (i + 1))

pub latch_row_takes : (form : Form) (h : Header) (j : ℕ) → TakesBytes (latch_row form h j)
latch_row_takes (Ascii u) h j = latch_line_takes u h
latch_row_takes (Binary u) h j = next_line_takes u h j

pub output_row_takes : (h : Header) (j : ℕ) → TakesBytes (output_row h j)
output_row_takes h j = literal_line_takes (Used h.max)

pub gate_row_takes : (form : Form) (h : Header) (i : ℕ) → TakesBytes (gate_row form h i)
gate_row_takes (Ascii u) h i = gate_line_takes h
gate_row_takes (Binary u) h i = gate_deltas_take h i

-- the sections
pub inputs_take : (form : Form) (h : Header) → TakesPieces (times h.inputs 0 (input_row form h))
inputs_take form h = times_take h.inputs 0 _ (input_row_takes form h)

pub latches_take : (form : Form) (h : Header) → TakesPieces (times h.latches 0 (latch_row form h))
latches_take form h = times_take h.latches 0 _ (λ j. pieces_of (latch_row_takes form h j))

pub outputs_take : (h : Header) → TakesPieces (times (columns h) 0 (output_row h))
outputs_take h = times_take (columns h) 0 _ (λ j. pieces_of (output_row_takes h j))

pub gates_take : (form : Form) (h : Header) → TakesPieces (times h.gates 0 (gate_row form h))
gates_take form h = times_take h.gates 0 _ (λ i. pieces_of (gate_row_takes form h i))

-- the circuit of these sections
abbrev pub circuit_of : Header → List ℕ → List Latch → List ℕ → List Gate → Circuit
circuit_of h is ls os gs =
    record { header = h; inputs = is; latches = ls; columns = os; gates = gs }

pub sections_take : (form : Form) (h : Header) → TakesPieces (sections form h)
sections_take form h =
    takes_then (inputs_take form h) (λ inputs.
    takes_then (latches_take form h) (λ latches.
    takes_then (outputs_take h) (λ outputs.
    takes_then (gates_take form h) (λ gates.
    takes_then (tail_takes h) (λ _. value_takes (circuit_of h inputs latches outputs gates))))))

pub after_magic_takes : (form : Form) → TakesPieces (after_magic form)
after_magic_takes form = takes_then (header_takes form) (sections_take form)

-- the magic is three bytes
three_bytes : (x bytes : List ℕ) → x ≡ bytes ++ drop 3 x → length bytes ≡ 3 → Piece 0 x 3 (drop 3 x)
three_bytes x bytes text three = record {
  bytes = bytes;
  text = text;
  place = omega (arith, three);
  within = λ low. omega arith;
}

magic_by : (u : Option ℕ) (ascii binary : Bool) (x : List ℕ) (form : Form) (q : ℕ) (y : List ℕ)
    → starts_with nat_eq x (codes "aag") ≡ ascii → starts_with nat_eq x (codes "aig") ≡ binary
    → cond ascii (Reads (Ascii u) (0 + 3) (drop 3 x))
    (cond binary (Reads (Binary u) (0 + 3) (drop 3 x)) (Fails BadMagic 0)) ≡ Reads form q y
    → Piece 0 x q y
magic_by u true binary x form q y a b e =
    let place : 3 ≡ q = cc in
    let left : drop 3 x ≡ y = cc in
    let is = starts_is Decides-eqb x (codes "aag") true (sym a) in
    piece_as (three_bytes x (codes "aag") (is.0 refl) refl) place left
magic_by u false true x form q y a b e =
    let place : 3 ≡ q = cc in
    let left : drop 3 x ≡ y = cc in
    let is = starts_is Decides-eqb x (codes "aig") true (sym b) in
    piece_as (three_bytes x (codes "aig") (is.0 refl) refl) place left
magic_by u false false x form q y a b e = cc

pub magic_piece : (u : Option ℕ) (x : List ℕ) (form : Form) (q : ℕ) (y : List ℕ)
    → magic u 0 x ≡ Reads form q y → Piece 0 x q y
magic_piece u x form q y e = magic_by u _ _ x form q y refl refl e

-- what was read after the magic leaves nothing
abbrev pub EndsText : {A : Type 0} → Item A → Type 0
EndsText {A} item = (p : ℕ) (x : List ℕ) (a : A) (q : ℕ) (y : List ℕ) → item p x ≡ Reads a q y
    → y ≡ []

ends_then : {A B : Type 0} (item : Item A) {next : A → Item B} → ((a : A) → EndsText (next a))
    → EndsText (item >>= next)
ends_then {A} {B} item {next} f p x b q y e =
    let t = through (item p x) next b q y e in f t.value t.place t.left b q y t.after

tail_then : (h : Header) (c : Circuit) → EndsText (tail h >> Reads c)
tail_then h c p x d q y e =
    let t = through (tail h p x) _ d q y e in
    let same : t.left ≡ y = cc (t.after) in
    sym same ∙ tail_ends h p x t.value t.place t.left t.first

pub sections_end : (form : Form) (h : Header) → EndsText (sections form h)
sections_end form h =
    ends_then (times h.inputs 0 (input_row form h)) (λ inputs.
    ends_then (times h.latches 0 (latch_row form h)) (λ latches.
    ends_then (times (columns h) 0 (output_row h)) (λ outputs.
    ends_then (times h.gates 0 (gate_row form h)) (λ gates.
    tail_then h (circuit_of h inputs latches outputs gates)))))

-- the sections of a circuit that was read, with the places and what is left after each
pub record ReadsSections (form : Form) (h : Header) (p : ℕ) (x : List ℕ) (c : Circuit) (q : ℕ)
    (y : List ℕ) : Type 0 where
  pub after_inputs : ℕ
  pub left_inputs : List ℕ
  pub inputs : times h.inputs 0 (input_row form h) p x ≡ Reads c.inputs after_inputs left_inputs
  pub after_latches : ℕ
  pub left_latches : List ℕ
  pub latches :
      times h.latches 0 (latch_row form h) after_inputs left_inputs
      ≡ Reads c.latches after_latches left_latches
  pub after_outputs : ℕ
  pub left_outputs : List ℕ
  pub columns :
      times (columns h) 0 (output_row h) after_latches left_latches
      ≡ Reads c.columns after_outputs left_outputs
  pub after_gates : ℕ
  pub left_gates : List ℕ
  pub gates :
      times h.gates 0 (gate_row form h) after_outputs left_outputs
      ≡ Reads c.gates after_gates left_gates
  pub tail : tail h after_gates left_gates ≡ Reads tt q y
  pub header : h ≡ c.header

tail_by : (r : Reading (Unit {0})) (d c : Circuit) (q : ℕ) (y : List ℕ)
    → and_then r (λ _. Reads d) ≡ Reads c q y → (r ≡ Reads tt q y) × (d ≡ c)
tail_by (Reads u p x) d c q y e =
    let place : p ≡ q = cc in
    let left : x ≡ y = cc in
    (ap (λ p. Reads tt p x) place ∙ ap (λ x. Reads tt q x) left, cc)
tail_by (Fails kind place) d c q y e = cc

-- a part of one circuit that was read, as the part of another that is the same
part_as : {A : Type 0} (r : Reading A) (part : Circuit → A) (d c : Circuit) (p : ℕ) (x : List ℕ)
    → r ≡ Reads (part d) p x → d ≡ c → r ≡ Reads (part c) p x
part_as r part d c p x e same = e ∙ ap (λ c. Reads (part c) p x) same

same_header : (d c : Circuit) → d ≡ c → d.header ≡ c.header
same_header d c same = ap (λ (c : Circuit). c.header) same

pub sections_read : (form : Form) (h : Header) (p : ℕ) (x : List ℕ) (c : Circuit) (q : ℕ)
    (y : List ℕ)
    → sections form h p x ≡ Reads c q y → ReadsSections form h p x c q y
sections_read form h p x c q y e =
    let i = through (times h.inputs 0 (input_row form h) p x) _ c q y e in
    let l = through (times h.latches 0 (latch_row form h) i.place i.left) _ c q y i.after in
    let o = through (times (columns h) 0 (output_row h) l.place l.left) _ c q y l.after in
    let a = through (times h.gates 0 (gate_row form h) o.place o.left) _ c q y o.after in
    let d = circuit_of h i.value l.value o.value a.value in
    let t = tail_by (tail h a.place a.left) d c q y a.after in
    record {
      after_inputs = i.place;
      left_inputs = i.left;
      inputs = part_as _ (λ (c : Circuit). c.inputs) d c i.place i.left i.first t.1;
      after_latches = l.place;
      left_latches = l.left;
      latches = part_as _ (λ (c : Circuit). c.latches) d c l.place l.left l.first t.1;
      after_outputs = o.place;
      left_outputs = o.left;
      columns = part_as _ (λ (c : Circuit). c.columns) d c o.place o.left o.first t.1;
      after_gates = a.place;
      left_gates = a.left;
      gates = part_as _ (λ (c : Circuit). c.gates) d c a.place a.left a.first t.1;
      tail = t.0;
      header = same_header d c t.1;
    }

-- a whole text that was read
pub record ReadsText (u : Option ℕ) (x : List ℕ) (f : Form) (c : Circuit) (q : ℕ) (y : List ℕ) : Type 0 where
  pub place : ℕ
  pub left : List ℕ
  pub magic : magic u 0 x ≡ Reads f place left
  pub circuit : after_magic f place left ≡ Reads c q y

circuit_by : (f : Form) (r : Reading Circuit) (form : Form) (c : Circuit) (q : ℕ) (y : List ℕ)
    → and_then {B = Form × Circuit} r (λ circuit. Reads (f, circuit)) ≡ Reads (form, c) q y
    → (f ≡ form) × (r ≡ Reads c q y)
circuit_by f (Reads d p x) form c q y e =
    let both : ◌≡◌ {A = Form × Circuit} (f, d) (form, c) = cc in
    let circuit : d ≡ c = ap (λ (z : Form × Circuit). z.1) both in
    (ap (λ (z : Form × Circuit). z.0) both, cc)
circuit_by f (Fails kind place) form c q y e = cc

pub text_reads : (u : Option ℕ) (x : List ℕ) (f : Form) (c : Circuit) (q : ℕ) (y : List ℕ)
    → circuit_text u 0 x ≡ Reads (f, c) q y → ReadsText u x f c q y
text_reads u x f c q y e =
    let t = through (magic u 0 x) _ (f, c) q y e in
    let rest = circuit_by t.value (after_magic t.value t.place t.left) f c q y t.after in
    record {
      place = t.place;
      left = t.left;
      magic = t.first ∙ ap (λ form. Reads form t.place t.left) rest.0;
      circuit = ap (λ form. after_magic form t.place t.left) (sym rest.0) ∙ rest.1;
    }

pub text_piece : (u : Option ℕ) (x : List ℕ) (f : Form) (c : Circuit) (q : ℕ) (y : List ℕ)
    → ReadsText u x f c q y → Piece 0 x q y
text_piece u x f c q y t =
    let rest = after_magic_takes f t.place t.left c q y t.circuit in
    piece_then (magic_piece u x f t.place t.left t.magic) rest

after_magic_ends : (f : Form) → EndsText (after_magic f)
after_magic_ends f = ends_then (header_line f) (sections_end f)

pub text_ends : (u : Option ℕ) (x : List ℕ) (f : Form) (c : Circuit) (q : ℕ) (y : List ℕ)
    → ReadsText u x f c q y → y ≡ []
text_ends u x f c q y t = after_magic_ends f t.place t.left c q y t.circuit
