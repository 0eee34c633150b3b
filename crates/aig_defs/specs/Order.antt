-- The order of a circuit's items, in the ASCII and in the binary form: docs/FORMATS.md, "Circuits".
use Rattle.std.specs.Prelude.{◌≡◌, ℕ, ◌+◌, ◌-◌, ◌*◌, ◌==◌, nat_eq, nat_le, Bool, true, false, if◌then◌else◌, List, [], length, drop, codes, Option, None, unwrap_or, is_some}
use Rattle.std.specs.List.{starts_with}
use Rattle.aig_defs.specs.declared.fault.AigKind.{AigKind}
use Rattle.aig_defs.specs.declared.fault.AigKind.TheVariants.{BadMagic, BadCounts}
use Rattle.aig_defs.specs.declared.circuit.Header.{Header}
use Rattle.aig_defs.specs.declared.circuit.Latch.{Latch}
use Rattle.aig_defs.specs.declared.circuit.Gate.{Gate}
use Rattle.aig_defs.specs.declared.form.Form.{Form}
use Rattle.aig_defs.specs.declared.form.Form.TheVariants.{Ascii, Binary}
use Rattle.aig_defs.specs.declared.form.Limit.{Limit}
use Rattle.aig_defs.specs.declared.form.Limit.TheVariants.{Count, Defining, Used, NoJustice, NoFairness, Reset}
use Rattle.aig_defs.specs.Circuit.{Circuit, columns}
use Rattle.aig_defs.specs.Items.{Reads, Fails, Item, fails, ◌>>=◌, ◌>>◌, times, space, line_end, last_end, goes_on, if_more, number, delta}
use Rattle.aig_defs.specs.Tail.{tail}

-- the magic: three bytes that name the form; u is the value with which an uninitialised latch starts,
-- if one is given
abbrev pub magic : Option ℕ → Item Form
magic u p x =
    if starts_with nat_eq x (codes "aag") then Reads (Ascii u) (p + 3) (drop 3 x)
    else if starts_with nat_eq x (codes "aig") then Reads (Binary u) (p + 3) (drop 3 x)
    else Fails BadMagic 0

-- whether the form is the ASCII form
abbrev pub is_ascii : Form → Bool
is_ascii (Ascii u) = true
is_ascii (Binary u) = false

-- the value with which an uninitialised latch starts in a form, if one is given
abbrev pub uninit_of : Form → Option ℕ
uninit_of (Ascii u) = u
uninit_of (Binary u) = u

-- the magic, by whether it is that of the ASCII form
abbrev pub ascii_magic : Item Bool
ascii_magic = magic None >>= λ form. Reads (is_ascii form)

-- a space and a number of the header
abbrev pub header_number : Item ℕ
header_number = space >> number Count

-- M is enough for the inputs, latches and gates; in the binary form it is their number
abbrev pub counts_fit : Form → Header → Bool
counts_fit (Ascii u) h = nat_le (h.inputs + h.latches + h.gates) h.max
counts_fit (Binary u) h = h.max == h.inputs + h.latches + h.gates

-- a header of these numbers, and with further ones
abbrev pub first_numbers : ℕ → ℕ → ℕ → ℕ → ℕ → Header
first_numbers m i l o a = record {
  max = m;
  inputs = i;
  latches = l;
  outputs = o;
  gates = a;
  bads = 0;
  constraints = 0;
}

abbrev pub with_further : Header → ℕ × ℕ → Header
with_further h f = record h { bads = f.0; constraints = f.1 }

-- the header, if its counts fit; M begins at byte 4
abbrev pub counted : Form → Header → Item Header
counted form h = if counts_fit form h then Reads h else fails BadCounts 4

-- the further numbers of a header, B and C; J and F must be 0. Where the line ends, the numbers that
-- aren't written are 0.
abbrev pub fairness : Item (Unit {0})
fairness = number NoFairness >> last_end

abbrev pub justice : Item (Unit {0})
justice = number NoJustice >> goes_on >>= if_more tt fairness

abbrev pub constraints : ℕ → Item (ℕ × ℕ)
constraints b = do
  c ← number Count
  on ← goes_on
  if_more tt justice on
  Reads (b, c)

abbrev pub bads : Item (ℕ × ℕ)
bads = do
  b ← number Count
  on ← goes_on
  if_more (b, 0) (constraints b) on

abbrev pub further : Item (ℕ × ℕ)
further = goes_on >>= if_more (0, 0) bads

-- the header's line after the magic: M I L O A, and B C J F if they are written
abbrev pub header_line : Form → Item Header
header_line form = do
  m ← header_number
  i ← header_number
  l ← header_number
  o ← header_number
  a ← header_number
  h ← counted form (first_numbers m i l o a)
  f ← further
  Reads (with_further h f)

-- a literal alone on its line
abbrev pub literal_line : Limit → Item ℕ
literal_line limit = do
  literal ← number limit
  line_end
  Reads literal

-- the bit with which the latch `own` starts, by the number that is its reset
abbrev pub starts : Option ℕ → ℕ → ℕ → Bool
starts u own value = if value == own then unwrap_or u 0 == 1 else value == 1

-- a latch's reset, and the end of its line
abbrev pub reset : Option ℕ → ℕ → Item Bool
reset u own = do
  value ← number (Reset own (is_some u))
  last_end
  Reads (starts u own value)

-- what follows a latch's next literal; a reset that isn't written is 0
abbrev pub latch_end : Option ℕ → ℕ → Item Bool
latch_end u own = goes_on >>= if_more false (reset u own)

-- ASCII: the literal that has a latch's bit, the one that has its next bit, and the reset
abbrev pub latch_line : Option ℕ → Header → Item Latch
latch_line u h = do
  current ← number (Defining h.max)
  space
  next ← number (Used h.max)
  reset ← latch_end u current
  Reads (record { current = current; next = next; reset = reset })

-- binary: the literal that has the next bit of latch j, and the reset; latch j (variable I + 1 + j) has
-- no current literal in the text
abbrev pub next_line : Option ℕ → Header → ℕ → Item Latch
next_line u h j = do
  let own = 2 * (h.inputs + 1 + j)
  next ← number (Used h.max)
  reset ← latch_end u own
  Reads (record { current = own; next = next; reset = reset })

-- ASCII: the literal that a gate defines, and its two operands
abbrev pub gate_line : Header → Item Gate
gate_line h = do
  lhs ← number (Defining h.max)
  space
  rhs0 ← number (Used h.max)
  space
  rhs1 ← number (Used h.max)
  line_end
  Reads (record { lhs = lhs; rhs0 = rhs0; rhs1 = rhs1 })

-- binary: delta0 = lhs - rhs0, delta1 = rhs0 - rhs1 of gate i, variable I + L + 1 + i
abbrev pub gate_deltas : Header → ℕ → Item Gate
gate_deltas h i = do
  let lhs = 2 * (h.inputs + h.latches + 1 + i)
  delta0 ← delta 1 lhs
  let rhs0 = lhs - delta0
  delta1 ← delta 0 rhs0
  Reads (record { lhs = lhs; rhs0 = rhs0; rhs1 = rhs0 - delta1 })

-- input i: a line, or in the binary form no byte, as it is variable i + 1
abbrev pub input_row : Form → Header → ℕ → Item ℕ
input_row (Ascii u) h i = literal_line (Defining h.max)
input_row (Binary u) h i = Reads (2 * (i + 1))

-- latch j
abbrev pub latch_row : Form → Header → ℕ → Item Latch
latch_row (Ascii u) h j = latch_line u h
latch_row (Binary u) h j = next_line u h j

-- an output, a bad literal or a constraint, in both forms
abbrev pub output_row : Header → ℕ → Item ℕ
output_row h j = literal_line (Used h.max)

-- gate i
abbrev pub gate_row : Form → Header → ℕ → Item Gate
gate_row (Ascii u) h i = gate_line h
gate_row (Binary u) h i = gate_deltas h i

-- the sections in their order, and the tail
abbrev pub sections : Form → Header → Item Circuit
sections form h = do
  inputs ← times h.inputs 0 (input_row form h)
  latches ← times h.latches 0 (latch_row form h)
  columns ← times (columns h) 0 (output_row h)
  gates ← times h.gates 0 (gate_row form h)
  tail h
  Reads (record {
    header = h;
    inputs = inputs;
    latches = latches;
    columns = columns;
    gates = gates;
  })

-- all that stands after the magic
abbrev pub after_magic : Form → Item Circuit
after_magic form = header_line form >>= sections form

-- a whole text, read from its first byte: its form, and its circuit
abbrev pub circuit_text : Option ℕ → Item (Form × Circuit)
circuit_text u = do
  form ← magic u
  circuit ← after_magic form
  Reads (form, circuit)

-- The text spells the circuit in this form, with u for uninitialised latches: it is pieces, one after another,
-- which have the forms of all items in their order, and the circuit is made of the items' values.
pub record Spells (u : Option ℕ) (form : Form) (x : List ℕ) (c : Circuit) : Type 0 where
  pub reads : circuit_text u 0 x ≡ Reads (form, c) (length x) []

-- The text breaks: pieces at its front have the forms of the first k items, and item k + 1, read
-- at the byte after them, fails with this kind and place. The equation says it, since each item
-- is read where the one before it ended, and the first that fails ends the reading.
pub record Breaks (u : Option ℕ) (x : List ℕ) (kind : AigKind) (place : ℕ) : Type 0 where
  pub fails : circuit_text u 0 x ≡ Fails kind place
