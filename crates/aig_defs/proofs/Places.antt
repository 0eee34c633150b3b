-- Where a fault of a text comes from, and that its place is in the text or at its end.
use Rattle.std.proofs.Common.{◌≡◌, ◌≢◌, ◌+◌, ◌-◌, ◌*◌, ◌^◌, ◌<◌, ◌≤◌, Bool, true, false, cond, leb, ltb, eqb, ◌&&◌, List, [], ◌∷◌, ℕ, zero, suc, min, sym, ap, ◌∙◌, refl, arith, length, drop, Option, Some, None}
use Rattle.std.specs.Prelude.{nat_eq, is_some}
use Rattle.std.specs.Str.Parse.{digits_value}
use Rattle.std.proofs.lemmas.Bool.{leb-true, leb-false, ltb-true, and_parts}
use Rattle.std.proofs.lemmas.List.{length-append}
use Rattle.aig_defs.specs.declared.fault.AigKind.{AigKind}
use Rattle.aig_defs.specs.declared.fault.AigKind.TheVariants.{BadMagic, BadNumber, TooLarge, BadSeparator, BadCounts, LiteralRange, OddDefinition, BadDelta, Short, BadSymbol, Extra, Extension, TooLong, Uninit, BadReset}
use Rattle.aig_defs.specs.declared.circuit.Header.{Header}
use Rattle.aig_defs.specs.declared.form.Form.{Form}
use Rattle.aig_defs.specs.declared.form.Form.TheVariants.{Ascii, Binary}
use Rattle.aig_defs.specs.declared.form.Limit.{Limit}
use Rattle.aig_defs.specs.declared.form.Limit.TheVariants.{Count, Defining, Used, Position, NoJustice, NoFairness, Reset}
use Rattle.aig_defs.specs.Circuit.{Circuit, columns}
use Rattle.aig_defs.specs.Items.{Reading, Reads, Fails, Item, fails, and_then, ◌>>=◌, ◌>>◌, times, look, take_byte, space_at, space, end_at, line_end, last_end, goes_on_at, goes_on, if_more, digits, looks_too_far, no_number, number_fault, number_by, number, delta_at, delta_bytes, delta}
use Rattle.aig_defs.specs.Order.{magic, header_number, with_further, fairness, justice, constraints, bads, further, starts, reset, latch_end, header_line, literal_line, latch_line, next_line, gate_line, gate_deltas, input_row, latch_row, output_row, gate_row, sections, after_magic, Breaks}
use Rattle.aig_defs.specs.Tail.{name, comment, symbol, positions, symbol_line, tail_line_at, tail_line, go_on, tail_lines, tail}
use Rattle.aig_defs.proofs.Items.{Piece, TakesPieces, pieces_of, piece_byte, through, takes_then, space_takes, number_takes, times_take}
use Rattle.aig_defs.proofs.Order.{header_number_takes, goes_on_takes, if_more_takes, justice_takes, further_takes, latch_end_takes, counted_takes, last_end_takes, line_end_takes, header_takes, used_takes, delta_takes, input_row_takes, latch_row_takes, output_row_takes, gate_row_takes, inputs_take, latches_take, outputs_take, gates_take, circuit_of, magic_piece}
use Rattle.aig_defs.proofs.Tail.{comment_takes, symbol_takes, tail_line_takes, tail_takes}

-- where a fault of an item and the next one comes from
pub data FailsAt {A B : Type 0} (r : Reading A) (next : A → Item B) (kind : AigKind) (place : ℕ)
    : Type 0 where
  at_first : r ≡ Fails kind place → FailsAt r next kind place
  at_next :
      (a : A) (p : ℕ) (x : List ℕ) → r ≡ Reads a p x → next a p x ≡ Fails kind place
      → FailsAt r next kind place

pub fails_cases : {A B : Type 0} (r : Reading A) (next : A → Item B) (kind : AigKind) (place : ℕ)
    → and_then r next ≡ Fails kind place → FailsAt r next kind place
fails_cases (Reads a p x) next kind place e = at_next a p x refl e
fails_cases (Fails k p) next kind place e =
    let same : k ≡ kind = cc in
    let here : p ≡ place = cc in
    at_first (ap (λ k. Fails k p) same ∙ ap (λ p. Fails kind p) here)

-- The place of a fault, if x is left at p: it is in the text or at its end, and at most 2^50.
pub record FaultAt (p : ℕ) (x : List ℕ) (kind : AigKind) (place : ℕ) : Type 0 where
  pub within : place ≤ p + length x
  pub near : place ≤ 2 ^ 50
  pub far : kind ≡ TooLong → place ≡ 2 ^ 50

-- each fault of the item has such a place, if the item is read at `low` or later
abbrev pub FaultsNear : {A : Type 0} → ℕ → Item A → Type 0
FaultsNear {A} low item =
    (p : ℕ) (x : List ℕ) (kind : AigKind) (place : ℕ) → low ≤ p → p ≤ 2 ^ 50
    → item p x ≡ Fails kind place → FaultAt p x kind place

-- a fault at a place that was passed
fault_before : (p : ℕ) (x : List ℕ) (kind : AigKind) (place : ℕ) → place ≤ p → p ≤ 2 ^ 50
    → kind ≢ TooLong → FaultAt p x kind place
fault_before p x kind place passed near other =
    record { within = omega arith; near = omega arith; far = λ e. absurd (other e) }

-- a fault at the place where the item is read
fault_here : (p : ℕ) (x : List ℕ) (kind : AigKind) → p ≤ 2 ^ 50 → kind ≢ TooLong
    → FaultAt p x kind p
fault_here p x kind near other = fault_before p x kind p (omega arith) near other

-- a byte at 2^50 was looked at
fault_far : (p : ℕ) (x : List ℕ) → 2 ^ 50 ≤ p + length x → FaultAt p x TooLong (2 ^ 50)
fault_far p x far = record { within = far; near = omega arith; far = λ e. refl }

-- the same fault under other names
fault_as : {A : Type 0} (p : ℕ) (x : List ℕ) (k kind : AigKind) (at place : ℕ) → FaultAt p x k at
    → ◌≡◌ {A = Reading A} (Fails k at) (Fails kind place) → FaultAt p x kind place
fault_as p x k kind at place f e =
    let same : k ≡ kind = cc in let here : at ≡ place = cc in rw (sym same, sym here) f

-- a fault in what is left after a piece
fault_after : {p : ℕ} {x : List ℕ} {q : ℕ} {y : List ℕ} (kind : AigKind) (place : ℕ)
    → Piece p x q y → FaultAt q y kind place → FaultAt p x kind place
fault_after {p} {x} {q} {y} kind place m f =
    let count = ap length m.text ∙ length-append m.bytes y in
    record { within = omega (arith, m.place, count, f.within); near = f.near; far = f.far }

pub value_near : {A : Type 0} (low : ℕ) (v : A) → FaultsNear low (Reads v)
value_near low v p x kind place le near e = cc

then_by : {A B : Type 0} {low : ℕ} {item : Item A} {next : A → Item B} → TakesPieces item
    → FaultsNear low item → ((a : A) → FaultsNear low (next a))
    → (p : ℕ) (x : List ℕ) (kind : AigKind) (place : ℕ) → low ≤ p → p ≤ 2 ^ 50
    → FailsAt (item p x) next kind place → FaultAt p x kind place
then_by t f g p x kind place le near (at_first e) = f p x kind place le near e
then_by t f g p x kind place le near (at_next a q y e d) =
    let m = t p x a q y e in
    fault_after kind place m
    (g a q y kind place (omega (arith, le, m.place)) (m.within near) d)

-- an item and the next one
pub near_then : {A B : Type 0} {low : ℕ} {item : Item A} {next : A → Item B} → TakesPieces item
    → FaultsNear low item → ((a : A) → FaultsNear low (next a)) → FaultsNear low (item >>= next)
near_then {A} {B} {low} {item} {next} t f g p x kind place le near e =
    then_by t f g p x kind place le near (fails_cases (item p x) next kind place e)

-- an item that looks at a byte
look_by : {A : Type 0} (far : Bool) (next : Option ℕ → Item A) (p byte : ℕ) (x : List ℕ)
    (kind : AigKind) (place : ℕ) → leb (2 ^ 50) p ≡ far
    → (p < 2 ^ 50 → next (Some byte) p (byte ∷ x) ≡ Fails kind place
    → FaultAt p (byte ∷ x) kind place)
    → and_then (cond far (Fails TooLong (2 ^ 50)) (Reads (Some byte) p (byte ∷ x))) next
    ≡ Fails kind place
    → FaultAt p (byte ∷ x) kind place
look_by true next p byte x kind place t f e =
    let far = leb-true _ _ t in
    fault_as p (byte ∷ x) TooLong kind (2 ^ 50) place
    (fault_far p (byte ∷ x) (omega (arith, far))) e
look_by false next p byte x kind place t f e = f (leb-false _ _ t) e

look_near : {A : Type 0} (low : ℕ) (next : Option ℕ → Item A)
    → ((p : ℕ) (kind : AigKind) (place : ℕ) → p ≤ 2 ^ 50 → next None p [] ≡ Fails kind place
    → FaultAt p [] kind place)
    → ((p byte : ℕ) (x : List ℕ) (kind : AigKind) (place : ℕ) → low ≤ p → p < 2 ^ 50
    → next (Some byte) p (byte ∷ x) ≡ Fails kind place → FaultAt p (byte ∷ x) kind place)
    → FaultsNear low (look >>= next)
look_near low next f g p [] kind place le near e = f p kind place near e
look_near low next f g p (byte ∷ x) kind place le near e =
    look_by (leb (2 ^ 50) p) next p byte x kind place refl (g p byte x kind place le) e

-- a byte that is taken if it is the one
byte_by : (one : Bool) (k : AigKind) (p byte : ℕ) (x : List ℕ) (kind : AigKind) (place : ℕ)
    → k ≢ TooLong → p < 2 ^ 50
    → cond one (take_byte p (byte ∷ x)) (Fails k p) ≡ Fails kind place
    → FaultAt p (byte ∷ x) kind place
byte_by true k p byte x kind place other low e = cc
byte_by false k p byte x kind place other low e =
    fault_as p (byte ∷ x) k kind p place (fault_here p (byte ∷ x) k (omega arith) other) e

short_here : {A : Type 0} (p : ℕ) (kind : AigKind) (place : ℕ) → p ≤ 2 ^ 50
    → ◌≡◌ {A = Reading A} (Fails Short p) (Fails kind place) → FaultAt p [] kind place
short_here p kind place near e =
    fault_as p [] Short kind p place (fault_here p [] Short near (λ e. cc)) e

space_near : (low : ℕ) → FaultsNear low space
space_near low = look_near low space_at short_here
    (λ p byte x kind place le lt e.
    byte_by (eqb byte 32) BadSeparator p byte x kind place (λ e. cc) lt e)

end_near : (low : ℕ) (fault : ℕ → AigKind) → ((byte : ℕ) → fault byte ≢ TooLong)
    → FaultsNear low (look >>= end_at fault)
end_near low fault other = look_near low (end_at fault) (λ p kind place near e. cc)
    (λ p byte x kind place le lt e.
    byte_by (eqb byte 10) (fault byte) p byte x kind place (other byte) lt e)

line_end_near : (low : ℕ) → FaultsNear low line_end
line_end_near low = end_near low (λ _. BadSeparator) (λ byte e. cc)

separator_by : (goes_on : Bool) → cond goes_on Extension BadSeparator ≢ TooLong
separator_by true e = cc
separator_by false e = cc

last_end_near : (low : ℕ) → FaultsNear low last_end
last_end_near low = end_near low (λ byte. cond (nat_eq byte 32) Extension BadSeparator)
    (λ byte. separator_by (nat_eq byte 32))

-- whether a line goes on, and its rest if it does
goes_on_by : (ends on : Bool) (p byte : ℕ) (x : List ℕ) (kind : AigKind) (place : ℕ)
    → p < 2 ^ 50
    → cond ends ((take_byte >> Reads false) p (byte ∷ x))
    (cond on ((take_byte >> Reads true) p (byte ∷ x)) (Fails BadSeparator p)) ≡ Fails kind place
    → FaultAt p (byte ∷ x) kind place
goes_on_by true on p byte x kind place low e = cc
goes_on_by false true p byte x kind place low e = cc
goes_on_by false false p byte x kind place low e = fault_as p (byte ∷ x) BadSeparator kind p place
    (fault_here p (byte ∷ x) BadSeparator (omega arith) (λ e. cc)) e

goes_on_near : (low : ℕ) → FaultsNear low goes_on
goes_on_near low = look_near low goes_on_at (λ p kind place near e. cc)
    (λ p byte x kind place le lt e.
    goes_on_by (eqb byte 10) (eqb byte 32) p byte x kind place lt e)

if_more_near : {A : Type 0} (low : ℕ) (end : A) {rest : Item A} → FaultsNear low rest → (on : Bool)
    → FaultsNear low (if_more end rest on)
if_more_near low end f true p x kind place le near e = f p x kind place le near e
if_more_near low end f false p x kind place le near e =
    value_near low end p x kind place le near e

-- what is wrong with a number's value isn't TooLong
abbrev NotFar : Option AigKind → Type 0
NotFar None = Unit {0}
NotFar (Some kind) = kind ≢ TooLong

count_by : (over : Bool) → NotFar (cond over (Some TooLarge) None)
count_by true = λ e. cc
count_by false = tt

used_by : (over : Bool) → NotFar (cond over (Some LiteralRange) None)
used_by true = λ e. cc
used_by false = tt

position_by : (within : Bool) → NotFar (cond within None (Some BadSymbol))
position_by true = tt
position_by false = λ e. cc

defining_by : (over bad : Bool)
    → NotFar (cond over (Some LiteralRange) (cond bad (Some OddDefinition) None))
defining_by true bad = λ e. cc
defining_by false true = λ e. cc
defining_by false false = tt

zero_by : (over none : Bool) {kind : AigKind} → kind ≢ TooLong
    → NotFar (cond over (Some TooLarge) (cond none None (Some kind)))
zero_by true none f = λ e. cc
zero_by false true f = tt
zero_by false false f = f

reset_by : (small own given : Bool)
    → NotFar (cond small None (cond own (cond given None (Some Uninit)) (Some BadReset)))
reset_by true own given = tt
reset_by false true true = tt
reset_by false true false = λ e. cc
reset_by false false given = λ e. cc

value_not_far : (limit : Limit) (v : ℕ) → NotFar (number_fault limit v)
value_not_far Count v = count_by _
value_not_far (Defining max) v = defining_by _ _
value_not_far (Used max) v = used_by _
value_not_far (Position n) v = position_by _
value_not_far NoJustice v = zero_by _ _ (λ e. cc)
value_not_far NoFairness v = zero_by _ _ (λ e. cc)
value_not_far (Reset own given) v = reset_by _ _ given

value_by : (fault : Option AigKind) (p : ℕ) (x : List ℕ) (kind : AigKind) (place : ℕ)
    → NotFar fault → p ≤ 2 ^ 50 → number_by fault (digits x) p x ≡ Fails kind place
    → FaultAt p x kind place
value_by None p x kind place other near e = cc
value_by (Some k) p x kind place other near e =
    fault_as p x k kind p place (fault_here p x k near other) e

none_near : (p : ℕ) (x : List ℕ) (kind : AigKind) (place : ℕ) → p ≤ 2 ^ 50
    → no_number p x ≡ Fails kind place → FaultAt p x kind place
none_near p [] kind place near e = short_here p kind place near e
none_near p (byte ∷ x) kind place near e = fault_as p (byte ∷ x) BadNumber kind p place
    (fault_here p (byte ∷ x) BadNumber near (λ e. cc)) e

number_far : (p : ℕ) (x : List ℕ) → looks_too_far (digits x) p x ≡ true → p ≤ 2 ^ 50
    → 2 ^ 50 ≤ p + length x
number_far p x t near =
    let parts : (leb (2 ^ 50) (p + min (length (digits x)) 20) ≡ true)
    × (ltb (2 ^ 50 - p) (length x) ≡ true) = and_parts _ _ t in
    let more = ltb-true _ _ parts.1 in
    omega (arith, more, near)

number_fails : (limit : Limit) (far none many : Bool) (p : ℕ) (x : List ℕ) (kind : AigKind)
    (place : ℕ)
    → p ≤ 2 ^ 50 → looks_too_far (digits x) p x ≡ far
    → cond far (Fails TooLong (2 ^ 50)) (cond none (no_number p x) (cond many (Fails BadNumber p)
    (number_by (number_fault limit (digits_value 10 (digits x))) (digits x) p x)))
    ≡ Fails kind place
    → FaultAt p x kind place
number_fails limit true none many p x kind place near t e =
    fault_as p x TooLong kind (2 ^ 50) place (fault_far p x (number_far p x t near)) e
number_fails limit false true many p x kind place near t e = none_near p x kind place near e
number_fails limit false false true p x kind place near t e =
    fault_as p x BadNumber kind p place (fault_here p x BadNumber near (λ e. cc)) e
number_fails limit false false false p x kind place near t e =
    value_by _ p x kind place (value_not_far limit (digits_value 10 (digits x))) near e

number_near : (low : ℕ) (limit : Limit) → FaultsNear low (number limit)
number_near low limit p x kind place le near e =
    number_fails limit _ _ _ p x kind place near refl e

-- a delta
rest_by : (byte : ℕ) (r : Reading ℕ) (kind : AigKind) (place : ℕ)
    → and_then r (λ rest. Reads (byte - 128 + 128 * rest)) ≡ Fails kind place
    → r ≡ Fails kind place
rest_by byte (Reads v q y) kind place e = cc
rest_by byte (Fails k p) kind place e =
    let same : k ≡ kind = cc in
    let here : p ≡ place = cc in
    ap (λ k. Fails k p) same ∙ ap (λ p. Fails kind p) here

seven_bits : (last : Bool) (low : ℕ) (more : Item ℕ) (p byte : ℕ) (x : List ℕ) (kind : AigKind)
    (place : ℕ)
    → FaultsNear low more → low ≤ p → p < 2 ^ 50
    → cond last ((take_byte >> Reads byte) p (byte ∷ x))
    ((take_byte >> more >>= λ rest. Reads (byte - 128 + 128 * rest)) p (byte ∷ x))
    ≡ Fails kind place
    → FaultAt p (byte ∷ x) kind place
seven_bits true low more p byte x kind place f le lt e = cc
seven_bits false low more p byte x kind place f le lt e =
    let d = rest_by byte (more (p + 1) x) kind place e in
    fault_after kind place (piece_byte p byte x lt)
    (f (p + 1) x kind place (omega arith) (omega arith) d)

bytes_near : (start n : ℕ) → FaultsNear start (delta_bytes start n)
bytes_near start zero p x kind place le near e = fault_as p x BadDelta kind start place
    (fault_before p x BadDelta start le near (λ e. cc)) e
bytes_near start (suc n) p x kind place le near e =
    look_near start (delta_at (delta_bytes start n)) short_here
    (λ p byte x kind place le lt e.
    seven_bits (ltb byte 128) start (delta_bytes start n) p byte x kind place (bytes_near start n)
    le lt e) p x kind place le near e

range_by : (fits : Bool) (p : ℕ) (x : List ℕ) (v q : ℕ) (y : List ℕ) (kind : AigKind)
    (place : ℕ)
    → p ≤ 2 ^ 50 → (cond fits (Reads v) (fails BadDelta p)) q y ≡ Fails kind place
    → FaultAt p x kind place
range_by true p x v q y kind place near e = cc
range_by false p x v q y kind place near e =
    fault_as p x BadDelta kind p place (fault_here p x BadDelta near (λ e. cc)) e

delta_by : (low high p : ℕ) (x : List ℕ) (kind : AigKind) (place : ℕ) → p ≤ 2 ^ 50
    → FailsAt (delta_bytes p 6 p x)
    (λ value. cond (leb low value && leb value high) (Reads value) (fails BadDelta p)) kind place
    → FaultAt p x kind place
delta_by low high p x kind place near (at_first e) =
    bytes_near p 6 p x kind place (omega arith) near e
delta_by low high p x kind place near (at_next v q y e d) =
    range_by _ p x v q y kind place near d

delta_near : (start low high : ℕ) → FaultsNear start (delta low high)
delta_near start low high p x kind place le near e =
    delta_by low high p x kind place near (fails_cases (delta_bytes p 6 p x) _ kind place e)

-- items one after another
times_near : {A : Type 0} (low n i : ℕ) (item : ℕ → Item A) → ((i : ℕ) → TakesPieces (item i))
    → ((i : ℕ) → FaultsNear low (item i)) → FaultsNear low (times n i item)
times_near low zero i item t f p x kind place le near e = value_near low [] p x kind place le near e
times_near low (suc n) i item t f p x kind place le near e =
    near_then (t i) (f i) (λ first.
    near_then (times_take n (i + 1) item t) (times_near low n (i + 1) item t f) (λ rest.
    value_near low (first ∷ rest))) p x kind place le near e

-- the header, after whose first number BadCounts has a place that was passed
header_number_near : (low : ℕ) → FaultsNear low header_number
header_number_near low = near_then space_takes (space_near low) (λ _. number_near low Count)

-- the further numbers
fairness_near : (low : ℕ) → FaultsNear low fairness
fairness_near low = near_then (pieces_of (number_takes NoFairness)) (number_near low NoFairness)
    (λ _. last_end_near low)

justice_near : (low : ℕ) → FaultsNear low justice
justice_near low =
    near_then (takes_then (pieces_of (number_takes NoJustice)) (λ _. goes_on_takes))
    (near_then (pieces_of (number_takes NoJustice)) (number_near low NoJustice)
    (λ _. goes_on_near low)) (if_more_near low tt (fairness_near low))

constraints_near : (low b : ℕ) → FaultsNear low (constraints b)
constraints_near low b =
    near_then (pieces_of (number_takes Count)) (number_near low Count) (λ c.
    near_then goes_on_takes (goes_on_near low) (λ on.
    near_then (if_more_takes tt justice_takes on) (if_more_near low tt (justice_near low) on) (λ _.
    value_near low (b, c))))

bads_near : (low : ℕ) → FaultsNear low bads
bads_near low =
    near_then (pieces_of (number_takes Count)) (number_near low Count) (λ b.
    near_then goes_on_takes (goes_on_near low) (if_more_near low (b, 0) (constraints_near low b)))

further_near : (low : ℕ) → FaultsNear low further
further_near low =
    near_then goes_on_takes (goes_on_near low) (if_more_near low (0, 0) (bads_near low))

counted_near : (fit : Bool) (h : Header) → FaultsNear 4 (cond fit (Reads h) (fails BadCounts 4))
counted_near true h p x kind place le near e = cc
counted_near false h p x kind place le near e =
    fault_as p x BadCounts kind 4 place (fault_before p x BadCounts 4 le near (λ e. cc)) e

header_number_grows : (p : ℕ) (x : List ℕ) (v q : ℕ) (y : List ℕ)
    → header_number p x ≡ Reads v q y → p < q
header_number_grows p x v q y e =
    let t = through (space p x) (λ _. number Count) v q y e in
    let m = space_takes p x t.value t.place t.left t.first in
    let n = number_takes Count t.place t.left v q y t.after in
    omega (arith, m.place, n.1)

after_first : (low : ℕ) {A : Type 0} {next : ℕ → Item A}
    → ((m : ℕ) → FaultsNear (suc low) (next m)) → (p : ℕ) (x : List ℕ) (kind : AigKind)
    (place : ℕ)
    → low ≤ p → p ≤ 2 ^ 50 → FailsAt (header_number p x) next kind place → FaultAt p x kind place
after_first low g p x kind place le near (at_first e) =
    header_number_near low p x kind place le near e
after_first low g p x kind place le near (at_next v q y e d) =
    let m = header_number_takes p x v q y e in
    let grows = header_number_grows p x v q y e in
    fault_after kind place m
    (g v q y kind place (omega (arith, le, grows)) (m.within near) d)

header_near : (form : Form) → FaultsNear 3 (header_line form)
header_near form p x kind place le near e =
    after_first 3 (λ m.
    near_then header_number_takes (header_number_near 4) (λ i.
    near_then header_number_takes (header_number_near 4) (λ l.
    near_then header_number_takes (header_number_near 4) (λ o.
    near_then header_number_takes (header_number_near 4) (λ a.
    near_then (counted_takes _ _ _ _) (counted_near _ _) (λ h.
    near_then further_takes (further_near 4) (λ f. value_near 4 (with_further h f))))))))
    p x kind place le near (fails_cases (header_number p x) _ kind place e)

-- the rows
literal_line_near : (low : ℕ) (limit : Limit) → FaultsNear low (literal_line limit)
literal_line_near low limit =
    near_then (pieces_of (number_takes limit)) (number_near low limit) (λ literal.
    near_then line_end_takes (line_end_near low) (λ _. value_near low literal))

reset_near : (low : ℕ) (u : Option ℕ) (own : ℕ) → FaultsNear low (reset u own)
reset_near low u own =
    near_then (pieces_of (number_takes (Reset own (is_some u))))
    (number_near low (Reset own (is_some u))) (λ value.
    near_then last_end_takes (last_end_near low) (λ _. value_near low (starts u own value)))

latch_end_near : (low : ℕ) (u : Option ℕ) (own : ℕ) → FaultsNear low (latch_end u own)
latch_end_near low u own =
    near_then goes_on_takes (goes_on_near low) (if_more_near low false (reset_near low u own))

latch_line_near : (low : ℕ) (u : Option ℕ) (h : Header) → FaultsNear low (latch_line u h)
latch_line_near low u h =
    near_then (pieces_of (number_takes (Defining h.max))) (number_near low (Defining h.max))
    (λ current.
    near_then space_takes (space_near low) (λ _.
    near_then (used_takes h) (number_near low (Used h.max)) (λ next.
    near_then (latch_end_takes u current) (latch_end_near low u current) (λ reset.
    value_near low (record { current = current; next = next; reset = reset })))))

next_line_near : (low : ℕ) (u : Option ℕ) (h : Header) (j : ℕ) → FaultsNear low (next_line u h j)
next_line_near low u h j =
    let own = 2 * (h.inputs + 1 + j) in
    near_then (used_takes h) (number_near low (Used h.max)) (λ next.
    near_then (latch_end_takes u own) (latch_end_near low u own) (λ reset.
    value_near low (record { current = own; next = next; reset = reset })))

gate_line_near : (low : ℕ) (h : Header) → FaultsNear low (gate_line h)
gate_line_near low h =
    near_then (pieces_of (number_takes (Defining h.max))) (number_near low (Defining h.max)) (λ lhs.
    near_then space_takes (space_near low) (λ _.
    near_then (used_takes h) (number_near low (Used h.max)) (λ rhs0.
    near_then space_takes (space_near low) (λ _.
    near_then (used_takes h) (number_near low (Used h.max)) (λ rhs1.
    near_then line_end_takes (line_end_near low) (λ _.
    value_near low (record { lhs = lhs; rhs0 = rhs0; rhs1 = rhs1 })))))))

gate_deltas_near : (low : ℕ) (h : Header) (i : ℕ) → FaultsNear low (gate_deltas h i)
gate_deltas_near low h i =
    let lhs = 2 * (h.inputs + h.latches + 1 + i) in
    near_then (pieces_of (delta_takes 1 lhs)) (delta_near low 1 lhs) (λ delta0.
    near_then (pieces_of (delta_takes 0 (lhs - delta0))) (delta_near low 0 (lhs - delta0))
    (λ delta1.
    value_near low (record { lhs = lhs; rhs0 = lhs - delta0; rhs1 = lhs - delta0 - delta1 })))

input_row_near : (low : ℕ) (form : Form) (h : Header) (i : ℕ) → FaultsNear low (input_row form h i)
input_row_near low (Ascii u) h i = literal_line_near low (Defining h.max)
input_row_near low (Binary u) h i = value_near low (2 * (i + 1))

latch_row_near : (low : ℕ) (form : Form) (h : Header) (j : ℕ) → FaultsNear low (latch_row form h j)
latch_row_near low (Ascii u) h j = latch_line_near low u h
latch_row_near low (Binary u) h j = next_line_near low u h j

gate_row_near : (low : ℕ) (form : Form) (h : Header) (i : ℕ) → FaultsNear low (gate_row form h i)
gate_row_near low (Ascii u) h i = gate_line_near low h
gate_row_near low (Binary u) h i = gate_deltas_near low h i

-- a byte that is passed over, and then the bytes after it
pass_by : (far last : Bool) (more : Reading (Unit {0})) (p byte : ℕ) (x : List ℕ) (kind : AigKind)
    (place : ℕ)
    → leb (2 ^ 50) p ≡ far → (p < 2 ^ 50 → more ≡ Fails kind place → FaultAt (p + 1) x kind place)
    → cond far (Fails TooLong (2 ^ 50)) (cond last (Reads tt (p + 1) x) more) ≡ Fails kind place
    → FaultAt p (byte ∷ x) kind place
pass_by true last more p byte x kind place t f e =
    let far = leb-true _ _ t in
    fault_as p (byte ∷ x) TooLong kind (2 ^ 50) place
    (fault_far p (byte ∷ x) (omega (arith, far))) e
pass_by false true more p byte x kind place t f e = cc
pass_by false false more p byte x kind place t f e =
    let low = leb-false _ _ t in fault_after kind place (piece_byte p byte x low) (f low e)

name_near : (low : ℕ) → FaultsNear low name
name_near low p [] kind place le near e = cc
name_near low p (byte ∷ x) kind place le near e =
    pass_by _ (eqb byte 10) (name (p + 1) x) p byte x kind place refl
    (λ lt d. name_near low (p + 1) x kind place (omega arith) (omega arith) d) e

comment_near : (low : ℕ) → FaultsNear low comment
comment_near low p [] kind place le near e = cc
comment_near low p (byte ∷ x) kind place le near e =
    pass_by _ false (comment (p + 1) x) p byte x kind place refl
    (λ lt d. comment_near low (p + 1) x kind place (omega arith) (omega arith) d) e

symbol_near : (low n : ℕ) → FaultsNear low (symbol n)
symbol_near low n =
    near_then (takes_then (pieces_of (number_takes (Position n))) (λ _. space_takes))
    (near_then (pieces_of (number_takes (Position n))) (number_near low (Position n))
    (λ _. space_near low))
    (λ _. name_near low)

-- a line of the tail
line_by : (low : ℕ) (is_comment : Bool) (section : Option ℕ) (p byte : ℕ) (x : List ℕ)
    (kind : AigKind)
    (place : ℕ) → low ≤ p → p < 2 ^ 50
    → cond is_comment ((take_byte >> comment >> Reads false) p (byte ∷ x))
    (symbol_line section p (byte ∷ x)) ≡ Fails kind place
    → FaultAt p (byte ∷ x) kind place
line_by low true section p byte x kind place le lt e =
    fault_after kind place (piece_byte p byte x lt)
    (near_then comment_takes (comment_near low) (λ _. value_near low false) (p + 1) x kind place
    (omega arith) (omega arith) e)
line_by low false None p byte x kind place le lt e =
    fault_as p (byte ∷ x) Extra kind p place
    (fault_here p (byte ∷ x) Extra (omega arith) (λ e. cc)) e
line_by low false (Some n) p byte x kind place le lt e =
    fault_after kind place (piece_byte p byte x lt)
    (near_then (symbol_takes n) (symbol_near low n) (λ _. value_near low true) (p + 1) x kind place
    (omega arith) (omega arith) e)

tail_line_near : (low : ℕ) (h : Header) → FaultsNear low (tail_line h)
tail_line_near low h = look_near low (tail_line_at h) (λ p kind place near e. cc)
    (λ p byte x kind place le lt e.
    line_by low (eqb byte 99) (positions h byte) p byte x kind place le lt e)

go_near : (low : ℕ) {more : Item (Unit {0})} → FaultsNear low more → (b : Bool)
    → FaultsNear low (go_on more b)
go_near low f true p x kind place le near e = f p x kind place le near e
go_near low f false p x kind place le near e = cc

tail_lines_near : (low : ℕ) (h : Header) (n : ℕ) → FaultsNear low (tail_lines h n)
tail_lines_near low h zero p x kind place le near e =
    fault_as p x Extra kind p place (fault_here p x Extra near (λ e. cc)) e
tail_lines_near low h (suc n) p x kind place le near e =
    near_then (tail_line_takes h) (tail_line_near low h) (go_near low (tail_lines_near low h n)) p x
    kind place le near e

tail_near : (low : ℕ) (h : Header) → FaultsNear low (tail h)
tail_near low h p x kind place le near e =
    tail_lines_near low h (length x + 1) p x kind place le near e

-- the sections
sections_near : (low : ℕ) (form : Form) (h : Header) → FaultsNear low (sections form h)
sections_near low form h =
    near_then (inputs_take form h)
    (times_near low h.inputs 0 (input_row form h) (input_row_takes form h)
    (input_row_near low form h)) (λ inputs.
    near_then (latches_take form h)
    (times_near low h.latches 0 (latch_row form h) (λ j. pieces_of (latch_row_takes form h j))
    (latch_row_near low form h)) (λ latches.
    near_then (outputs_take h)
    (times_near low (columns h) 0 (output_row h) (λ j. pieces_of (output_row_takes h j))
    (λ j. literal_line_near low (Used h.max))) (λ outputs.
    near_then (gates_take form h)
    (times_near low h.gates 0 (gate_row form h) (λ i. pieces_of (gate_row_takes form h i))
    (gate_row_near low form h)) (λ gates.
    near_then (tail_takes h) (tail_near low h) (λ _.
    value_near low (circuit_of h inputs latches outputs gates))))))

after_magic_near : (form : Form) → FaultsNear 3 (after_magic form)
after_magic_near form = near_then (header_takes form) (header_near form) (sections_near 3 form)

-- the magic
magic_ends : (u : Option ℕ) (ascii binary : Bool) (x : List ℕ) (form : Form) (q : ℕ) (y : List ℕ)
    → cond ascii (Reads (Ascii u) (0 + 3) (drop 3 x))
    (cond binary (Reads (Binary u) (0 + 3) (drop 3 x)) (Fails BadMagic 0)) ≡ Reads form q y
    → 3 ≡ q
magic_ends u true binary x form q y e = cc
magic_ends u false true x form q y e = cc
magic_ends u false false x form q y e = cc

magic_near : (u : Option ℕ) (ascii binary : Bool) (x : List ℕ) (kind : AigKind) (place : ℕ)
    → cond ascii (Reads (Ascii u) (0 + 3) (drop 3 x))
    (cond binary (Reads (Binary u) (0 + 3) (drop 3 x)) (Fails BadMagic 0)) ≡ Fails kind place
    → FaultAt 0 x kind place
magic_near u true binary x kind place e = cc
magic_near u false true x kind place e = cc
magic_near u false false x kind place e = fault_as 0 x BadMagic kind 0 place
    (fault_here 0 x BadMagic (omega arith) (λ e. cc)) e

circuit_near : (form : Form) (p : ℕ) (x : List ℕ) (kind : AigKind) (place : ℕ) → 3 ≡ p
    → FailsAt {B = Form × Circuit} (after_magic form p x) (λ c. Reads (form, c)) kind place
    → FaultAt p x kind place
circuit_near form p x kind place three (at_first e) =
    after_magic_near form p x kind place (omega (arith, three)) (omega (arith, three)) e
circuit_near form p x kind place three (at_next c q y e d) = cc

text_near : (u : Option ℕ) (x : List ℕ) (kind : AigKind) (place : ℕ)
    → FailsAt {B = Form × Circuit} (magic u 0 x)
    (λ form. after_magic form >>= λ c. Reads (form, c)) kind place
    → FaultAt 0 x kind place
text_near u x kind place (at_first e) = magic_near u _ _ x kind place e
text_near u x kind place (at_next form p y e d) =
    fault_after kind place (magic_piece u x form p y e)
    (circuit_near form p y kind place (magic_ends u _ _ x form p y e)
    (fails_cases {B = Form × Circuit} (after_magic form p y) (λ c. Reads (form, c)) kind place d))

-- If a text breaks, its place is in the text or at its end, and at most 2^50; that of TooLong is
-- 2^50.
pub break_place : (u : Option ℕ) (x : List ℕ) (kind : AigKind) (place : ℕ) → Breaks u x kind place
    → FaultAt 0 x kind place
break_place u x kind place b =
    text_near u x kind place
    (fails_cases {B = Form × Circuit} (magic u 0 x)
    (λ form. after_magic form >>= λ c. Reads (form, c)) kind place b.fails)
