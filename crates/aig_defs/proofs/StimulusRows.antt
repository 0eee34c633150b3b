-- Worked rows: stimuli with their steps and faults, and the lines that circuits print for them. All
-- were worked out by hand.
use Rattle.std.proofs.Common.{◌≡◌, ◌^◌, ◌-◌, true, false, [], ◌∷◌, refl, map, List, ℕ, Some, None}
use Rattle.std.specs.Prelude.{codes}
use Rattle.aig_defs.specs.declared.fault.AigKind.TheVariants.{StimLength, StimChar, TooLong}
use Rattle.aig_defs.specs.Circuit.{Circuit}
use Rattle.aig_defs.specs.Stimulus.{stimulus_of, stimulus_from, steps_begun, output_lines}
use Rattle.aig_defs.specs.Value.{run_of}
use Rattle.aig_defs.proofs.TextRows.{and_gate, toggle, shift, constant, empty}

-- what a circuit prints for a stimulus
abbrev printed : Circuit → List ℕ → List ℕ
printed c x = output_lines (run_of c (stimulus_of c.header.inputs x).steps)

and_gate_printed : printed and_gate (codes "00\n01\n10\n11\n") ≡ codes "0\n0\n0\n1\n"
and_gate_printed = refl

toggle_printed : printed toggle (codes "\n\n\n") ≡ codes "01\n10\n01\n"
toggle_printed = refl

-- both latches change at once
shift_printed : printed shift (codes "1\n0\n0\n0\n") ≡ codes "0\n0\n1\n0\n"
shift_printed = refl

constant_printed : printed constant (codes "\n\n") ≡ codes "1\n1\n"
constant_printed = refl

-- no inputs and no outputs: each step is an empty line, and prints one
empty_printed : printed empty (codes "\n\n") ≡ codes "\n\n"
empty_printed = refl

nothing_left : stimulus_of 2 [] ≡ record { steps = []; fault = None }
nothing_left = refl

-- the second line ends after a bit
short_line : stimulus_of 2 (codes "11\n0\n")
    ≡ record { steps = (true ∷ true ∷ []) ∷ []; fault = Some (StimLength, 4) }
short_line = refl

-- the text ends after a bit
short_text : stimulus_of 2 (codes "0") ≡ record { steps = []; fault = Some (StimLength, 1) }
short_text = refl

long_line : stimulus_of 2 (codes "110\n") ≡ record { steps = []; fault = Some (StimLength, 2) }
long_line = refl

empty_line : stimulus_of 1 (codes "\n1\n") ≡ record { steps = []; fault = Some (StimLength, 0) }
empty_line = refl

-- a carriage return in place of a bit, and after the bits
return_within : stimulus_of 2 (49 ∷ 13 ∷ 10 ∷ [])
    ≡ record { steps = []; fault = Some (StimChar, 1) }
return_within = refl

return_after : stimulus_of 2 (49 ∷ 49 ∷ 13 ∷ 10 ∷ [])
    ≡ record { steps = []; fault = Some (StimLength, 2) }
return_after = refl

other_digit : stimulus_of 1 (codes "1\n2\n")
    ≡ record { steps = (true ∷ []) ∷ []; fault = Some (StimChar, 2) }
other_digit = refl

-- the last line may lack its newline if there are inputs
last_newline : stimulus_of 2 (codes "01")
    ≡ record { steps = (false ∷ true ∷ []) ∷ []; fault = None }
last_newline = refl

-- with no inputs a line is a newline: a text of none has no line
no_inputs : stimulus_of 0 [] ≡ record { steps = []; fault = None }
no_inputs = refl

no_inputs_byte : stimulus_of 0 (codes "\n1\n")
    ≡ record { steps = [] ∷ []; fault = Some (StimLength, 1) }
no_inputs_byte = refl

-- a byte at 2^50 is looked at: as a bit, and as the end of a line
too_long_bit : stimulus_from 2 (2 ^ 50 - 1) (codes "11")
    ≡ record { steps = []; fault = Some (TooLong, 2 ^ 50) }
too_long_bit = refl

too_long_end : stimulus_from 1 (2 ^ 50 - 1) (codes "1\n")
    ≡ record { steps = []; fault = Some (TooLong, 2 ^ 50) }
too_long_end = refl

too_long_line : stimulus_from 1 (2 ^ 50 - 2) (codes "1\n2")
    ≡ record { steps = (true ∷ []) ∷ []; fault = Some (TooLong, 2 ^ 50) }
too_long_line = refl

-- the text may end at 2^50
longest_text : stimulus_from 1 (2 ^ 50 - 1) (codes "1")
    ≡ record { steps = (true ∷ []) ∷ []; fault = None }
longest_text = refl

-- lines begin at bytes 0, 3 and 7; the second is faulty, so that the third doesn't count
begun_lines : map (λ given. steps_begun 2 given (codes "11\n01x\n00\n"))
    (0 ∷ 1 ∷ 3 ∷ 4 ∷ 7 ∷ 10 ∷ [])
    ≡ 0 ∷ 1 ∷ 1 ∷ 2 ∷ 2 ∷ 2 ∷ []
begun_lines = refl

all_begun : map (λ given. steps_begun 0 given (codes "\n\n\n")) (0 ∷ 1 ∷ 2 ∷ 3 ∷ 4 ∷ [])
    ≡ 0 ∷ 1 ∷ 2 ∷ 3 ∷ 3 ∷ []
all_begun = refl
