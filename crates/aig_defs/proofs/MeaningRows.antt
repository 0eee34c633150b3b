-- Worked rows: what circuits compute, and what is wrong with some. All were worked out by hand.
use Rattle.std.proofs.Common.{◌≡◌, [], ◌∷◌, refl, List, ℕ, Bool, Some, None}
use Rattle.std.specs.Prelude.{codes, ◌==◌, map}
use Rattle.aig_defs.specs.declared.fault.AigKind.TheVariants.{Extra, Twice, Undefined, Cyclic}
use Rattle.aig_defs.specs.Value.{step_of, run_of}
use Rattle.aig_defs.specs.Founded.{passes_of}
use Rattle.aig_defs.specs.Faults.{circuit_fault}
use Rattle.aig_defs.specs.TextFault.{text_fault}
use Rattle.aig_defs.proofs.TextRows.{and_gate, and_gate_text, toggle, half_adder, binary_adder, shift, constant, empty, binary_and}

-- bits that are written as digits, and those of the lines of some steps
abbrev pub bits : List ℕ → List Bool
bits digits = map (λ digit. digit == 49) digits

abbrev pub lines : List (List ℕ) → List (List Bool)
lines steps = map bits steps

-- the bits of two inputs in all four ways
abbrev pub all_pairs : List (List Bool)
all_pairs = lines (codes "00" ∷ codes "01" ∷ codes "10" ∷ codes "11" ∷ [])

and_gate_run : run_of and_gate all_pairs
    ≡ lines (codes "0" ∷ codes "0" ∷ codes "0" ∷ codes "1" ∷ [])
and_gate_run = refl

toggle_run : run_of toggle ([] ∷ [] ∷ [] ∷ []) ≡ lines (codes "01" ∷ codes "10" ∷ codes "01" ∷ [])
toggle_run = refl

-- the sum and the carry of two bits
half_adder_run : run_of half_adder all_pairs
    ≡ lines (codes "00" ∷ codes "10" ∷ codes "10" ∷ codes "01" ∷ [])
half_adder_run = refl

binary_adder_run : run_of binary_adder all_pairs
    ≡ lines (codes "00" ∷ codes "10" ∷ codes "10" ∷ codes "01" ∷ [])
binary_adder_run = refl

binary_and_run : run_of binary_and (lines (codes "11" ∷ [])) ≡ lines (codes "1" ∷ [])
binary_and_run = refl

-- both latches change at once, so that a bit takes two steps from the input to the output
shift_run : run_of shift (lines (codes "1" ∷ codes "0" ∷ codes "0" ∷ codes "0" ∷ []))
    ≡ lines (codes "0" ∷ codes "0" ∷ codes "1" ∷ codes "0" ∷ [])
shift_run = refl

shift_step : step_of shift (bits (codes "10")) (bits (codes "0"))
    ≡ (bits (codes "0"), bits (codes "01"))
shift_step = refl

constant_run : run_of constant ([] ∷ [] ∷ []) ≡ lines (codes "1" ∷ codes "1" ∷ [])
constant_run = refl

empty_run : run_of empty ([] ∷ [] ∷ []) ≡ [] ∷ [] ∷ []
empty_run = refl

-- the first pass founds the half adder's gates 6 and 7, the second its gate 3
half_adder_passes : passes_of half_adder ≡ 2
half_adder_passes = refl

binary_adder_passes : passes_of binary_adder ≡ 1
binary_adder_passes = refl

shift_passes : passes_of shift ≡ 0
shift_passes = refl

half_adder_faultless : circuit_fault half_adder ≡ None
half_adder_faultless = refl

-- a text with no fault, and one that breaks before its circuit's faults count
and_gate_text_faultless : text_fault None and_gate_text ≡ None
and_gate_text_faultless = refl

broken_first : text_fault None (codes "aag 2 2 0 1 0\n2\n2\n4\n3") ≡ Some (Extra, 20)
broken_first = refl

-- variable 3 is defined twice, and variable 5 isn't defined: Twice comes first
twice_first : text_fault None (codes "aag 5 1 0 1 2\n2\n6\n6 2 10\n6 2 2\n") ≡ Some (Twice, 3)
twice_first = refl

undefined_operand : text_fault None (codes "aag 5 1 0 1 1\n2\n6\n6 2 10\n") ≡ Some (Undefined, 5)
undefined_operand = refl

-- gates 3 and 4 lie on a cycle, and gate 2 depends on it
three_cyclic : text_fault None (codes "aag 4 1 0 1 3\n2\n4\n4 2 6\n6 2 8\n8 2 6\n") ≡ Some (Cyclic, 2)
three_cyclic = refl

-- each comes with its least variable, wherever it stands
twice_least : text_fault None (codes "aag 5 2 1 0 2\n4\n2\n2 2\n4 2 2\n6 2 2\n") ≡ Some (Twice, 1)
twice_least = refl

undefined_least : text_fault None (codes "aag 5 0 1 2 0\n2 10\n6\n8\n") ≡ Some (Undefined, 3)
undefined_least = refl

-- gate 1 only depends on the cycle of gates 2 and 3
cyclic_least : text_fault None (codes "aag 3 0 0 0 3\n6 4 4\n4 6 6\n2 4 4\n") ≡ Some (Cyclic, 1)
cyclic_least = refl

own_operand : text_fault None (codes "aag 1 0 0 0 1\n2 2 2\n") ≡ Some (Cyclic, 1)
own_operand = refl

-- Undefined comes before Cyclic
undefined_before_cyclic : text_fault None (codes "aag 2 0 0 0 1\n2 2 4\n") ≡ Some (Undefined, 2)
undefined_before_cyclic = refl

-- a cycle over a latch is none, and constants are defined
latch_cycle : text_fault None (codes "aag 2 0 1 2 1\n2 4\n0\n1\n4 2 1\n") ≡ None
latch_cycle = refl
