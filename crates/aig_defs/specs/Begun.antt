-- The size of what was read of a circuit's text. A line with a byte adds its weight (1, or 2 for a
-- latch or gate) once its first byte was given. So does a gate of the binary form. Nothing counts
-- after a fault.
use Rattle.std.specs.Prelude.{ℕ, zero, suc, ◌+◌, ◌*◌, nat_le, nat_lt, min, if◌then◌else◌, List, length, Option}
use Rattle.aig_defs.specs.declared.circuit.Header.{Header}
use Rattle.aig_defs.specs.declared.form.Form.{Form}
use Rattle.aig_defs.specs.declared.form.Form.TheVariants.{Ascii, Binary}
use Rattle.aig_defs.specs.Circuit.{columns}
use Rattle.aig_defs.specs.Items.{Reading, Reads, Fails, Item, times}
use Rattle.aig_defs.specs.Order.{magic, header_line, input_row, latch_row, output_row, gate_row}

-- 0 after a fault; else what `more` says of value, place and rest
abbrev pub counts_after : {A : Type 0} → Reading A → (A → ℕ → List ℕ → ℕ) → ℕ
counts_after (Reads a p x) more = more a p x
counts_after (Fails kind place) more = 0

-- how many of n items, the first with number i, were begun, if `given` bytes of the text were given
abbrev pub items_begun : {A : Type 0} → ℕ → ℕ → ℕ → (ℕ → Item A) → ℕ → List ℕ → ℕ
items_begun given zero i item p x = 0
items_begun given (suc n) i item p x =
    if nat_lt p given then 1 + counts_after (item i p x) (λ _. items_begun given n (i + 1) item)
    else 0

-- a section of n items, each of which adds `weight` once it was begun, and the sections after it
abbrev pub section_size :
    {A : Type 0} → ℕ → ℕ → ℕ → (ℕ → Item A) → (ℕ → List ℕ → ℕ) → ℕ → List ℕ → ℕ
section_size given weight n item after p x =
    weight * items_begun given n 0 item p x + counts_after (times n 0 item p x) (λ _. after)

-- the inputs, and the sections after them; those of the binary form count once the header was read
abbrev pub inputs_size : Form → ℕ → Header → (ℕ → List ℕ → ℕ) → ℕ → List ℕ → ℕ
inputs_size (Ascii u) given h after p x = section_size given 1 h.inputs (input_row (Ascii u) h) after p x
inputs_size (Binary u) given h after p x = (if nat_le p given then h.inputs else 0) + after p x

-- all sections: inputs and columns add 1 each, latches and gates 2
abbrev pub sections_size : Form → ℕ → Header → ℕ → List ℕ → ℕ
sections_size form given h =
    inputs_size form given h
    (section_size given 2 h.latches (latch_row form h)
    (section_size given 1 (columns h) (output_row h)
    (section_size given 2 h.gates (gate_row form h)
    (λ p x. 0))))

-- the size of what was read after the magic; `given` is at most the text's length
abbrev pub size_read : Form → ℕ → ℕ → List ℕ → ℕ
size_read form given p x = counts_after (header_line form p x) (sections_size form given)

-- the size of what was read of a whole text, if `given` bytes of it were given, or all if it has
-- fewer: a line that would begin at the text's end isn't begun
abbrev pub text_size : Option ℕ → ℕ → List ℕ → ℕ
text_size u given x = counts_after (magic u 0 x) (λ form. size_read form (min given (length x)))

-- the size of a circuit: E = I + 2L + O + B + C + 2A
abbrev pub circuit_size : Header → ℕ
circuit_size h = h.inputs + 2 * h.latches + columns h + 2 * h.gates
