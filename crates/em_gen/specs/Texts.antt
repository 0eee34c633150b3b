-- The texts that are made from a kind, a start and a count: docs/FORMATS.md, "Made texts".
use Rattle.std.specs.Prelude.{ℕ, zero, suc, ◌+◌, ◌-◌, ◌*◌, ◌%◌, ◌^◌, ◌==◌, nat_le, List, [], ◌∷◌, ◌++◌, if◌then◌else◌, codes, decimal}
use Rattle.em_io.specs.declared.shelf.Slot.{Slot}
use Rattle.em_io.specs.declared.shelf.Slot.TheVariants.{First, Second}
use Rattle.em_gen.specs.declared.kind.GenKind.{GenKind}
use Rattle.em_gen.specs.declared.kind.GenKind.TheVariants.{Map, Queue, Stab, Eval}
use Rattle.em_gen.specs.Draws.{after_draws, after_wide, drawn, next_state, wide_drawn}

-- a line of a word and one number, and one of a word and two numbers
abbrev pub one_number : List ℕ → ℕ → List ℕ
one_number word k = word ++ decimal k ++ codes "\n"

abbrev pub two_numbers : List ℕ → ℕ → ℕ → List ℕ
two_numbers word k v = word ++ decimal k ++ codes " " ++ decimal v ++ codes "\n"

-- The command of number i for the drawn numbers c and k. Of intervals the width is from 0 to 15.
abbrev pub map_line : ℕ → ℕ → ℕ → List ℕ
map_line c k i =
    if c % 4 == 0 then one_number (codes "del ") k
    else if c % 4 == 3 then one_number (codes "get ") k
    else two_numbers (codes "put ") k i

abbrev pub queue_line : ℕ → ℕ → ℕ → List ℕ
queue_line c k i =
    if c % 4 == 0 then codes "pop\n" else two_numbers (codes "push ") k i

abbrev pub stab_line : ℕ → ℕ → List ℕ
stab_line c k =
    if c % 4 == 0 then one_number (codes "stab ") k
    else two_numbers (codes "iv ") k (k + c % 16)

-- the most of a circuit's variables: 16 inputs, 16 latches and the gates
abbrev pub most_variable : ℕ → ℕ
most_variable count = 32 + count

-- the literals of a circuit
abbrev pub literals : ℕ → ℕ
literals count = 2 * most_variable count + 2

abbrev pub header_line : ℕ → List ℕ
header_line count =
    codes "aag " ++ decimal (most_variable count) ++ codes " 16 16 16 " ++ decimal count
    ++ codes "\n"

-- a gate's line: two literals below its own
abbrev pub gate_line : ℕ → ℕ → List ℕ
gate_line g x = decimal g ++ codes " " ++ decimal (wide_drawn g x) ++ codes " "
    ++ decimal (wide_drawn g (after_wide x)) ++ codes "\n"

-- Line j of a circuit, from 0: the header, 16 inputs, 16 latches, 16 outputs, and the gates. Each
-- next literal of a latch, and each output, is a wide draw below the literals.
abbrev pub circuit_line : ℕ → ℕ → ℕ → List ℕ
circuit_line count j x =
    if j == 0 then header_line count
    else if nat_le j 16 then one_number [] (2 * j)
    else if nat_le j 32 then two_numbers [] (2 * j) (wide_drawn (literals count) x)
    else if nat_le j 48 then one_number [] (wide_drawn (literals count) x)
    else gate_line (2 * (j - 16)) x

-- the state of the draws after that line
abbrev pub after_circuit_line : ℕ → ℕ → ℕ
after_circuit_line j x =
    if nat_le j 16 then x
    else if nat_le j 48 then after_wide x
    else after_wide (after_wide x)

-- the bytes 0 or 1 of n draws: 1 for each odd number
abbrev pub bits_of : ℕ → ℕ → List ℕ
bits_of zero x = []
bits_of (suc n) x = (48 + drawn x % 2) ∷ bits_of n (next_state x)

-- a line of a stimulus
abbrev pub stimulus_line : ℕ → List ℕ
stimulus_line x = bits_of 16 x ++ codes "\n"

-- the lines of a text
abbrev pub lines_in : GenKind → Slot → ℕ → ℕ
lines_in Eval First count = 49 + count
lines_in Eval Second count = 8
lines_in Map First count = count
lines_in Queue First count = count
lines_in Stab First count = count
lines_in Map Second count = 0
lines_in Queue Second count = 0
lines_in Stab Second count = 0

-- The command of number i, from 1, for a state of the draws: one for the command, and a wide one
-- for its key.
abbrev pub command_at : GenKind → ℕ → ℕ → ℕ → List ℕ
command_at Queue count i x = queue_line (drawn x) (wide_drawn count (next_state x)) i
command_at Stab count i x = stab_line (drawn x) (wide_drawn count (next_state x))
command_at Map count i x = map_line (drawn x) (wide_drawn count (next_state x)) i
command_at Eval count i x = map_line (drawn x) (wide_drawn count (next_state x)) i

-- line j of a text, from 0, for a state of the draws
abbrev pub line_at : GenKind → Slot → ℕ → ℕ → ℕ → List ℕ
line_at Eval First count j x = circuit_line count j x
line_at Eval Second count j x = stimulus_line x
line_at Map slot count j x = command_at Map count (j + 1) x
line_at Queue slot count j x = command_at Queue count (j + 1) x
line_at Stab slot count j x = command_at Stab count (j + 1) x

-- the state of the draws after it
abbrev pub after_line : GenKind → Slot → ℕ → ℕ → ℕ
after_line Eval First j x = after_circuit_line j x
after_line Eval Second j x = after_draws 16 x
after_line Map slot j x = after_draws 3 x
after_line Queue slot j x = after_draws 3 x
after_line Stab slot j x = after_draws 3 x

-- the state of the draws at the front of a text
abbrev pub first_state : Slot → ℕ → ℕ
first_state First start = start % 2 ^ 31
first_state Second start = (start % 2 ^ 31 + 1) % 2 ^ 31

-- n lines of a text, from line j on
abbrev pub lines_from : GenKind → Slot → ℕ → ℕ → ℕ → ℕ → List ℕ
lines_from kind slot count zero j x = []
lines_from kind slot count (suc n) j x =
    line_at kind slot count j x ++ lines_from kind slot count n (suc j) (after_line kind slot j x)

-- the text of a slot
abbrev pub made_text : GenKind → Slot → ℕ → ℕ → List ℕ
made_text kind slot start count =
    lines_from kind slot count (lines_in kind slot count) 0 (first_state slot start)
