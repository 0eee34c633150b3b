-- The lines of a circuit's sections, by the records that are written of them.
use Rattle.std.specs.Prelude.{◌≡◌, sum_by, ℕ, zero, suc, ◌+◌, ◌*◌, nat_le, nat_lt, Bool, true, false, if◌then◌else◌, List, [], ◌∷◌, length, All}
use Rattle.aig_defs.specs.declared.circuit.Gate.{Gate}
use Rattle.aig_defs.specs.declared.circuit.Header.{Header}
use Rattle.aig_defs.specs.declared.circuit.Latch.{Latch}
use Rattle.aig_defs.specs.declared.form.Form.{Form}
use Rattle.aig_defs.specs.Begun.{counts_after, items_begun}
use Rattle.aig_defs.specs.Chains.{input_def, latch_def, gate_def, gate_record, latch_use, output_use, reset_record}
use Rattle.aig_defs.specs.Circuit.{IsDefining, IsGate, IsLatch, IsUsed, columns}
use Rattle.aig_defs.specs.Items.{Reads, Item, ◌>>=◌, ◌>>◌}
use Rattle.aig_defs.specs.Order.{is_ascii, input_row, latch_row, output_row, gate_row}
use Rattle.aig_defs.specs.Tail.{tail}
use Rattle.aig_text.specs.declared.section.Section.{Section}
use Rattle.aig_text.specs.declared.section.Section.TheVariants.{Inputs, Latches, Columns, Gates}
use Rattle.aig_text.specs.Listing.{Listing, no_records, appended, HasCounts}

-- what is written of an input, a latch, a column, a gate
abbrev pub of_input : ℕ → ℕ → Listing
of_input i literal = record { defs = input_def i literal ∷ []; gates = []; uses = []; resets = [] }

abbrev pub of_latch : ℕ → Latch → Listing
of_latch i latch = record {
  defs = latch_def i latch ∷ [];
  gates = [];
  uses = latch_use i latch ∷ [];
  resets = reset_record i latch ∷ [];
}

abbrev pub of_output : ℕ → ℕ → Listing
of_output i literal = record {
  defs = [];
  gates = [];
  uses = output_use i literal ∷ [];
  resets = [];
}

abbrev pub of_gate : ℕ → Gate → Listing
of_gate i gate = record {
  defs = gate_def i gate ∷ [];
  gates = gate_record i gate ∷ [];
  uses = [];
  resets = [];
}

-- line i of a section; in the binary form an input takes no byte
abbrev pub section_line : Form → Section → Header → ℕ → Item Listing
section_line form Inputs h i = input_row form h i >>= λ literal. Reads (of_input i literal)
section_line form Latches h i = latch_row form h i >>= λ latch. Reads (of_latch i latch)
section_line form Columns h i = output_row h i >>= λ literal. Reads (of_output i literal)
section_line form Gates h i = gate_row form h i >>= λ gate. Reads (of_gate i gate)

-- n lines of a section, the first with number i
abbrev pub section_lines : Form → Section → Header → ℕ → ℕ → Item Listing
section_lines form section h zero i = Reads no_records
section_lines form section h (suc n) i = do
  first ← section_line form section h i
  rest ← section_lines form section h n (i + 1)
  Reads (appended first rest)

-- how many lines a section has
abbrev pub lines_in : Section → Header → ℕ
lines_in Inputs h = h.inputs
lines_in Latches h = h.latches
lines_in Columns h = columns h
lines_in Gates h = h.gates

-- how many records of each list are written of a line
pub record Share : Type 0 where
  pub defs : ℕ
  pub gates : ℕ
  pub uses : ℕ
  pub resets : ℕ

abbrev pub share : Section → Share
share Inputs = record { defs = 1; gates = 0; uses = 0; resets = 0 }
share Latches = record { defs = 1; gates = 0; uses = 1; resets = 1 }
share Columns = record { defs = 0; gates = 0; uses = 1; resets = 0 }
share Gates = record { defs = 1; gates = 1; uses = 0; resets = 0 }

-- and how many in all
abbrev pub weight : Section → ℕ
weight section =
    (share section).defs + (share section).gates + (share section).uses + (share section).resets

-- whether the lines of a section have bytes
abbrev pub has_bytes : Form → Section → Bool
has_bytes form Inputs = is_ascii form
has_bytes form Latches = true
has_bytes form Columns = true
has_bytes form Gates = true

-- whether a line at this place was begun: its first byte was given, or all bytes before it
abbrev pub line_begun : Bool → ℕ → ℕ → Bool
line_begun true given p = nat_lt p given
line_begun false given p = nat_le p given

-- the size of what was read of a line, if `given` bytes were given
abbrev pub line_size : Form → Section → ℕ → ℕ → List ℕ → ℕ
line_size form section given p x =
    if line_begun (has_bytes form section) given p then weight section else 0

-- what a line of a section spells
abbrev pub Row : Section → Type 0
Row Inputs = ℕ
Row Latches = Latch
Row Columns = ℕ
Row Gates = Gate

-- its literals are in their ranges
abbrev pub IsRow : (section : Section) → Header → Row section → Type 0
IsRow Inputs h literal = IsDefining h literal
IsRow Latches h latch = IsLatch h latch
IsRow Columns h literal = IsUsed h literal
IsRow Gates h gate = IsGate h gate

-- what is written of line i,
abbrev pub of_row : (section : Section) → ℕ → Row section → Listing
of_row Inputs i literal = of_input i literal
of_row Latches i latch = of_latch i latch
of_row Columns i literal = of_output i literal
of_row Gates i gate = of_gate i gate

-- and of some lines, the first with number i
abbrev pub of_rows : (section : Section) → ℕ → List (Row section) → Listing
of_rows section i [] = no_records
of_rows section i (row ∷ rows) = appended (of_row section i row) (of_rows section (i + 1) rows)

-- These are the records of n lines with literals in their ranges, the first with number i.
pub record HasRows (section : Section) (h : Header) (i n : ℕ) (a : Listing) : Type 0 where
  pub rows : List (Row section)
  pub in_range : All (IsRow section h) rows
  pub count_is : length rows ≡ n
  pub lists : a ≡ of_rows section i rows

-- n lines of a section, the first with number i, give lists of these lengths, and these records.
pub record HasLines (section : Section) (h : Header) (i n : ℕ) (a : Listing) : Type 0 where
  pub counts :
      HasCounts a ((share section).defs * n) ((share section).gates * n) ((share section).uses * n)
      ((share section).resets * n)
  pub rows : HasRows section h i n a

-- The first lists are like this, and those after them like that.
pub record HasBoth (IsFirst IsRest : Listing → Type 0) (a : Listing) : Type 0 where
  pub first : Listing
  pub rest : Listing
  pub lists : a ≡ appended first rest
  pub first_is : IsFirst first
  pub rest_is : IsRest rest

-- the records of all lines of these sections
abbrev pub HasAllRows : List Section → Header → Listing → Type 0
HasAllRows [] h a = a ≡ no_records
HasAllRows (section ∷ sections) h a =
    HasBoth (HasRows section h 0 (lines_in section h)) (HasAllRows sections h) a

-- All lines of these sections give lists of these lengths, and these records.
pub record HasSections (sections : List Section) (h : Header) (a : Listing) : Type 0 where
  pub counts : HasCounts a
      (sum_by (λ section. (share section).defs * lines_in section h) sections)
      (sum_by (λ section. (share section).gates * lines_in section h) sections)
      (sum_by (λ section. (share section).uses * lines_in section h) sections)
      (sum_by (λ section. (share section).resets * lines_in section h) sections)
  pub rows : HasAllRows sections h a

-- the sections as they stand in the text
abbrev pub order : List Section
order = Inputs ∷ Latches ∷ Columns ∷ Gates ∷ []

-- these sections, and the tail after them
abbrev pub listed : Form → List Section → Header → Item Listing
listed form [] h = tail h >> Reads no_records
listed form (section ∷ sections) h = do
  first ← section_lines form section h (lines_in section h) 0
  rest ← listed form sections h
  Reads (appended first rest)

-- how many of n items were begun; if they have no bytes, all stand at this place
abbrev pub lines_begun : Bool → ℕ → ℕ → ℕ → (ℕ → Item Listing) → ℕ → List ℕ → ℕ
lines_begun true given n i item p x = items_begun given n i item p x
lines_begun false given n i item p x = if nat_le p given then n else 0

-- the size of what was read of lines of a section, if `given` bytes were given
abbrev pub lines_size : Form → Section → Header → ℕ → ℕ → ℕ → ℕ → List ℕ → ℕ
lines_size form section h n i given p x =
    weight section
    * lines_begun (has_bytes form section) given n i (section_line form section h) p x

-- and of these sections
abbrev pub listed_size : Form → List Section → Header → ℕ → ℕ → List ℕ → ℕ
listed_size form [] h given p x = 0
listed_size form (section ∷ sections) h given p x =
    lines_size form section h (lines_in section h) 0 given p x
    + counts_after (section_lines form section h (lines_in section h) 0 p x)
    (λ _. listed_size form sections h given)
