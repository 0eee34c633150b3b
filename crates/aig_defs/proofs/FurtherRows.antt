-- Worked rows of AIGER 1.9: resets, bad literals, constraints, and headers of more than five numbers.
-- All were worked out by hand.
use Rattle.std.proofs.Common.{◌≡◌, true, false, Some, None, [], ◌∷◌, ◌++◌, ℕ, List, refl, map}
use Rattle.std.specs.Prelude.{codes}
use Rattle.aig_defs.specs.declared.fault.AigKind.TheVariants.{BadNumber, TooLarge, BadSeparator, BadCounts, LiteralRange, Short, BadSymbol, Extra, Extension, Undefined, Uninit, Justice, Fairness, BadReset}
use Rattle.aig_defs.specs.declared.form.Form.TheVariants.{Ascii, Binary}
use Rattle.aig_defs.specs.Circuit.{Circuit}
use Rattle.aig_defs.specs.Order.{Spells, Breaks}
use Rattle.aig_defs.specs.TextFault.{text_fault}
use Rattle.aig_defs.specs.Value.{run_of}
use Rattle.aig_defs.specs.Begun.{text_size, circuit_size}
use Rattle.aig_defs.specs.Chains.{resets_of, uses_of}

-- a latch that begins with 1 and changes in each step
abbrev pub set_toggle : Circuit
set_toggle = record {
  header = record {
    max = 1;
    inputs = 0;
    latches = 1;
    outputs = 1;
    gates = 0;
    bads = 0;
    constraints = 0;
  };
  inputs = [];
  latches = record { current = 2; next = 3; reset = true } ∷ [];
  columns = 2 ∷ [];
  gates = [];
}

-- the text with this reset
abbrev toggle_text : List ℕ → List ℕ
toggle_text reset = codes "aag 1 0 1 1 0\n2 3 " ++ reset ++ codes "\n2\n"

set_toggle_spelled : Spells None (Ascii None) (toggle_text (codes "1")) set_toggle
set_toggle_spelled = record { reads = refl }

set_toggle_run : run_of set_toggle ([] ∷ [] ∷ [] ∷ [])
    ≡ (true ∷ []) ∷ (false ∷ []) ∷ (true ∷ []) ∷ []
set_toggle_run = refl

set_toggle_resets : resets_of set_toggle ≡ record { a = 0; b = 0; c = 1; d = 0 } ∷ []
set_toggle_resets = refl

-- its own literal is refused if no value is given, and has the value if one is given
uninit_refused : Breaks None (toggle_text (codes "2")) Uninit 18
uninit_refused = record { fails = refl }

uninit_one : Spells (Some 1) (Ascii (Some 1)) (toggle_text (codes "2")) set_toggle
uninit_one = record { reads = refl }

abbrev pub toggle_zero : Circuit
toggle_zero = record set_toggle { latches = record { current = 2; next = 3; reset = false } ∷ [] }

uninit_zero : Spells (Some 0) (Ascii (Some 0)) (toggle_text (codes "2")) toggle_zero
uninit_zero = record { reads = refl }

toggle_zero_run : run_of toggle_zero ([] ∷ [] ∷ [] ∷ [])
    ≡ (false ∷ []) ∷ (true ∷ []) ∷ (false ∷ []) ∷ []
toggle_zero_run = refl

-- a written 0 is what a missing reset is, and zeros may lead
written_zero : Spells None (Ascii None) (toggle_text (codes "0")) toggle_zero
written_zero = record { reads = refl }

leading_zero : Spells None (Ascii None) (toggle_text (codes "01")) set_toggle
leading_zero = record { reads = refl }

-- any other reset is refused, also with a value for uninitialised latches
other_reset : Breaks None (toggle_text (codes "5")) BadReset 18
other_reset = record { fails = refl }

negated_reset : Breaks (Some 0) (toggle_text (codes "3")) BadReset 18
negated_reset = record { fails = refl }

large_reset : Breaks (Some 0) (toggle_text (codes "18446744073709551618")) BadReset 18
large_reset = record { fails = refl }

no_reset : Breaks None (toggle_text []) BadNumber 18
no_reset = record { fails = refl }

after_reset : Breaks None (toggle_text (codes "1 ")) Extension 19
after_reset = record { fails = refl }

tab_after_reset : Breaks None (toggle_text (codes "1\t")) BadSeparator 19
tab_after_reset = record { fails = refl }

after_next : Breaks None (codes "aag 1 0 1 0 0\n2 3\t") BadSeparator 17
after_next = record { fails = refl }

short_reset : Breaks None (codes "aag 1 0 1 0 0\n2 3 ") Short 18
short_reset = record { fails = refl }

-- the binary form: latch 2 is that of literal 4
binary_reset : Breaks None (codes "aig 2 1 1 0 0\n2 4\n") Uninit 16
binary_reset = record { fails = refl }

binary_other_reset : Breaks (Some 1) (codes "aig 2 1 1 0 0\n4 2\n") BadReset 16
binary_other_reset = record { fails = refl }

-- latches with a reset of 1, with their own literal, and with no reset
abbrev pub mixed : Circuit
mixed = record {
  header = record {
    max = 3;
    inputs = 0;
    latches = 3;
    outputs = 1;
    gates = 0;
    bads = 0;
    constraints = 0;
  };
  inputs = [];
  latches =
      record { current = 2; next = 3; reset = true }
      ∷ record { current = 4; next = 2; reset = true }
      ∷ record { current = 6; next = 4; reset = false }
      ∷ [];
  columns = 6 ∷ [];
  gates = [];
}

mixed_binary : Spells (Some 1) (Binary (Some 1)) (codes "aig 3 0 3 1 0\n3 1\n2 4\n4\n6\n") mixed
mixed_binary = record { reads = refl }

mixed_refused : Breaks None (codes "aig 3 0 3 1 0\n3 1\n2 4\n4\n6\n") Uninit 20
mixed_refused = record { fails = refl }

mixed_resets : resets_of mixed
    ≡ record { a = 0; b = 0; c = 1; d = 0 } ∷ record { a = 1; b = 0; c = 1; d = 0 }
    ∷ record { a = 2; b = 0; c = 0; d = 0 } ∷ []
mixed_resets = refl

mixed_run : run_of mixed ([] ∷ [] ∷ [] ∷ []) ≡ (false ∷ []) ∷ (true ∷ []) ∷ (true ∷ []) ∷ []
mixed_run = refl

-- a line that breaks was begun, and the next one counts where a value is given
uninit_sizes : map (λ u. text_size u 30 (toggle_text (codes "2"))) (None ∷ Some 0 ∷ []) ≡ 2 ∷ 3 ∷ []
uninit_sizes = refl

-- an input that is an output, a bad literal by its negation, and a constraint
abbrev pub watched : Circuit
watched = record {
  header = record {
    max = 1;
    inputs = 1;
    latches = 0;
    outputs = 1;
    gates = 0;
    bads = 1;
    constraints = 1;
  };
  inputs = 2 ∷ [];
  latches = [];
  columns = 2 ∷ 3 ∷ 2 ∷ [];
  gates = [];
}

watched_spelled : Spells None (Ascii None) (codes "aag 1 1 0 1 0 1 1\n2\n2\n3\n2\n") watched
watched_spelled = record { reads = refl }

watched_binary : Spells None (Binary None) (codes "aig 1 1 0 1 0 1 1\n2\n3\n2\n") watched
watched_binary = record { reads = refl }

watched_zeros : Spells None (Ascii None) (codes "aag 1 1 0 1 0 1 1 0 00\n2\n2\n3\n2") watched
watched_zeros = record { reads = refl }

watched_run : run_of watched ((false ∷ []) ∷ (true ∷ []) ∷ [])
    ≡ (false ∷ true ∷ false ∷ []) ∷ (true ∷ false ∷ true ∷ []) ∷ []
watched_run = refl

watched_size : circuit_size watched.header ≡ 4
watched_size = refl

watched_sizes : map (λ given. text_size None given (codes "aag 1 1 0 1 0 1 1\n2\n2\n3\n2\n"))
    (18 ∷ 19 ∷ 20 ∷ 21 ∷ 23 ∷ 25 ∷ []) ≡ 0 ∷ 1 ∷ 1 ∷ 2 ∷ 3 ∷ 4 ∷ []
watched_sizes = refl

-- bad literals and constraints have positions after the outputs
watched_uses : uses_of watched
    ≡ record { a = 2; b = 1; c = 0; d = 0 } ∷ record { a = 3; b = 1; c = 1; d = 0 }
    ∷ record { a = 2; b = 1; c = 2; d = 0 } ∷ []
watched_uses = refl

-- a bad literal has a name; a line that begins with c is a comment
watched_names : Spells None (Ascii None)
    (codes "aag 1 1 0 1 0 1 1\n2\n2\n3\n2\ni0 x\nb0 y\no0 z\nc9\n") watched
watched_names = record { reads = refl }

second_bad : Breaks None (codes "aag 1 1 0 1 0 1 1\n2\n2\n3\n2\nb1 y\n") BadSymbol 27
second_bad = record { fails = refl }

no_bad : Breaks None (codes "aag 1 1 0 1 0\n2\n2\nb0 y\n") BadSymbol 19
no_bad = record { fails = refl }

-- an output, two bad literals and a constraint, of which only the bad literals have names
abbrev pub parted : Circuit
parted = record {
  header = record {
    max = 1;
    inputs = 1;
    latches = 0;
    outputs = 1;
    gates = 0;
    bads = 2;
    constraints = 1;
  };
  inputs = 2 ∷ [];
  latches = [];
  columns = 3 ∷ 2 ∷ 0 ∷ 1 ∷ [];
  gates = [];
}

parted_spelled : Spells None (Ascii None) (codes "aag 1 1 0 1 0 2 1\n2\n3\n2\n0\n1\nb1 y\n") parted
parted_spelled = record { reads = refl }

parted_run : run_of parted ((false ∷ []) ∷ []) ≡ (true ∷ false ∷ false ∷ true ∷ []) ∷ []
parted_run = refl

third_bad : Breaks None (codes "aag 1 1 0 1 0 2 1\n2\n3\n2\n0\n1\nb2 y\n") BadSymbol 29
third_bad = record { fails = refl }

-- their literals are in the range of used literals, and their variables are used
large_bad : Breaks None (codes "aag 1 1 0 0 0 1\n2\n4\n") LiteralRange 18
large_bad = record { fails = refl }

undefined_constraint : text_fault None (codes "aag 2 1 0 0 0 0 1\n2\n4\n") ≡ Some (Undefined, 2)
undefined_constraint = refl

undefined_bad : text_fault None (codes "aag 2 1 0 0 0 1\n2\n4\n") ≡ Some (Undefined, 2)
undefined_bad = refl

missing_constraint : Breaks None (codes "aag 1 1 0 0 0 1 1\n2\n2\n") Short 22
missing_constraint = record { fails = refl }

-- justice properties and fairness constraints
justice_refused : Breaks None (codes "aag 0 0 0 0 0 0 0 1\n") Justice 18
justice_refused = record { fails = refl }

fairness_refused : Breaks None (codes "aag 0 0 0 0 0 0 0 0 1\n") Fairness 20
fairness_refused = record { fails = refl }

-- the number is tested before the byte after it
justice_first : Breaks None (codes "aag 0 0 0 0 0 0 0 1x") Justice 18
justice_first = record { fails = refl }

-- more than 2^40 of them is TooLarge
large_justice : Breaks None (codes "aag 0 0 0 0 0 0 0 1099511627777\n") TooLarge 18
large_justice = record { fails = refl }

large_fairness : Breaks None (codes "aag 0 0 0 0 0 0 0 0 1099511627777\n") TooLarge 20
large_fairness = record { fails = refl }

large_constraints : Breaks None (codes "aag 0 0 0 0 0 0 1099511627777\n") TooLarge 16
large_constraints = record { fails = refl }

large_bads : Breaks None (codes "aag 0 0 0 0 0 1099511627777\n") TooLarge 14
large_bads = record { fails = refl }

-- a tenth number, and other bytes between the numbers
tenth_number : Breaks None (codes "aag 3 2 0 1 1 0 0 0 0 0\n") Extension 21
tenth_number = record { fails = refl }

after_ninth : Breaks None (codes "aag 0 0 0 0 0 0 0 0 0x") BadSeparator 21
after_ninth = record { fails = refl }

after_sixth : Breaks None (codes "aag 0 0 0 0 0 0x\n") BadSeparator 15
after_sixth = record { fails = refl }

after_seventh : Breaks None (codes "aag 0 0 0 0 0 0 0x\n") BadSeparator 17
after_seventh = record { fails = refl }

after_eighth : Breaks None (codes "aag 0 0 0 0 0 0 0 0x\n") BadSeparator 19
after_eighth = record { fails = refl }

no_seventh : Breaks None (codes "aag 0 0 0 0 0 0 \n") BadNumber 16
no_seventh = record { fails = refl }

short_header : Breaks None (codes "aag 0 0 0 0 0 ") Short 14
short_header = record { fails = refl }

-- the counts are compared before what follows the fifth number is looked at
counts_first : Breaks None (codes "aag 3 2 0 1 2x\n") BadCounts 4
counts_first = record { fails = refl }

counts_before_size : Breaks None (codes "aag 0 1 0 0 0 1099511627777\n") BadCounts 4
counts_before_size = record { fails = refl }

binary_counts_first : Breaks None (codes "aig 4 2 0 1 1 0x") BadCounts 4
binary_counts_first = record { fails = refl }

-- a newline ends the header after any of the last five numbers; then a blank line is Extra
blank_line : Breaks None (codes "aag 0 0 0 0 0 0\n\n") Extra 16
blank_line = record { fails = refl }
