-- The lines of a stimulus, one for each step, with a byte for each input; and the lines that a run
-- prints: docs/FORMATS.md, "Stimulus".
use Rattle.std.specs.Prelude.{ℕ, zero, suc, ◌+◌, ◌==◌, nat_lt, Bool, true, false, if◌then◌else◌, List, [], ◌∷◌, ◌++◌, length, map, flat_map, Option, Some, None}
use Rattle.aig_defs.specs.declared.fault.AigKind.{AigKind}
use Rattle.aig_defs.specs.declared.fault.AigKind.TheVariants.{StimLength, StimChar}
use Rattle.aig_defs.specs.Items.{Reading, Reads, Fails, Item, ◌>>=◌, ◌>>◌, times, look, take_byte, end_at}
use Rattle.aig_defs.specs.Begun.{counts_after}

-- the bit of an input, by the byte that stands here
abbrev pub stimulus_bit_at : Option ℕ → Item Bool
stimulus_bit_at None p x = Fails StimLength p
stimulus_bit_at (Some byte) p x =
    if byte == 48 then (take_byte >> Reads false) p x
    else if byte == 49 then (take_byte >> Reads true) p x
    else if byte == 10 then Fails StimLength p
    else Fails StimChar p

-- the bit of an input: `0` or `1`
abbrev pub stimulus_bit : Item Bool
stimulus_bit = look >>= stimulus_bit_at

-- the end of a line: a newline, or the text's end
abbrev pub stimulus_end : Item (Unit {0})
stimulus_end = look >>= end_at (λ byte. StimLength)

-- the line of a step: a bit for each input. It is read only if a byte is left.
abbrev pub stimulus_line : ℕ → Item (List Bool)
stimulus_line inputs = do
  bits ← times inputs 0 (λ j. stimulus_bit)
  stimulus_end
  Reads bits

-- the bits of each step's inputs, up to the text's end or its first fault; and this fault
pub record Stimulus : Type 0 where
  pub steps : List (List Bool)
  pub fault : Option (AigKind × ℕ)

-- nothing is left
abbrev pub no_steps : Stimulus
no_steps = record { steps = []; fault = None }

-- after a line that was read the lines after it; after a fault none
abbrev pub line_then : Reading (List Bool) → (ℕ → List ℕ → Stimulus) → Stimulus
line_then (Reads bits p x) after =
    record { steps = bits ∷ (after p x).steps; fault = (after p x).fault }
line_then (Fails kind place) after = record { steps = []; fault = Some (kind, place) }

-- the lines from a place on, at most n of them
abbrev pub stimulus_within : ℕ → ℕ → ℕ → List ℕ → Stimulus
stimulus_within zero inputs p x = no_steps
stimulus_within (suc n) inputs p [] = no_steps
stimulus_within (suc n) inputs p (byte ∷ x) =
    line_then (stimulus_line inputs p (byte ∷ x)) (stimulus_within n inputs)

-- the lines from a place on; each takes a byte or more
abbrev pub stimulus_from : ℕ → ℕ → List ℕ → Stimulus
stimulus_from inputs p x = stimulus_within (length x) inputs p x

-- a whole stimulus for so many inputs
abbrev pub stimulus_of : ℕ → List ℕ → Stimulus
stimulus_of inputs x = stimulus_from inputs 0 x

-- how many lines from a place on, at most n, were begun, if `given` bytes of the text were given
abbrev pub begun_within : ℕ → ℕ → ℕ → ℕ → List ℕ → ℕ
begun_within zero inputs given p x = 0
begun_within (suc n) inputs given p [] = 0
begun_within (suc n) inputs given p (byte ∷ x) =
    if nat_lt p given
    then 1 + counts_after (stimulus_line inputs p (byte ∷ x)) (λ _. begun_within n inputs given)
    else 0

-- how many lines from a place on were begun
abbrev pub begun_from : ℕ → ℕ → ℕ → List ℕ → ℕ
begun_from inputs given p x = begun_within (length x) inputs given p x

-- how many steps of a stimulus were begun: their lines' first bytes are among those given. The
-- first faulty line counts, and no line after it.
abbrev pub steps_begun : ℕ → ℕ → List ℕ → ℕ
steps_begun inputs given x = begun_from inputs given 0 x

-- a bit as a byte, and the line of a step's columns
abbrev pub bit_byte : Bool → ℕ
bit_byte false = 48
bit_byte true = 49

abbrev pub output_line : List Bool → List ℕ
output_line bits = map bit_byte bits ++ 10 ∷ []

-- the lines of some steps
abbrev pub output_lines : List (List Bool) → List ℕ
output_lines lines = flat_map output_line lines
