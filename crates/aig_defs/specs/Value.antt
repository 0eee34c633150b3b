-- What a circuit computes (Biere, 2007). The bits of a step's inputs, and of the state, are listed
-- in the order of the sections. This is the format's meaning of a circuit with `IsCircuit` and with
-- no fault. What it gives of other circuits has no meaning.
use Rattle.std.specs.Prelude.{ℕ, zero, suc, ◌/◌, ◌%◌, ◌==◌, Bool, false, ◌&&◌, not, List, [], ◌∷◌, ◌++◌, length, map, zip, find, Option, unwrap_or, option_map, if◌then◌else◌}
use Rattle.std.specs.Option.{option_or}
use Rattle.aig_defs.specs.declared.circuit.Gate.{Gate}
use Rattle.aig_defs.specs.Circuit.{Circuit, currents, nexts, resets}

-- the literals of the inputs and latches, each with its bit
abbrev pub given_bits : Circuit → List Bool → List Bool → List (ℕ × Bool)
given_bits c state input = zip c.inputs input ++ zip (currents c.latches) state

-- the bit that is given of a variable
abbrev pub bit_of : ℕ → List (ℕ × Bool) → Option Bool
bit_of v bits = option_map (λ e. e.1) (find (λ e. e.0 / 2 == v) bits)

-- the gate of a variable: the first that defines it
abbrev pub gate_of : ℕ → List Gate → Option Gate
gate_of v gates = find (λ (g : Gate). g.lhs / 2 == v) gates

-- the value of a variable, if `value` gives each gate's value: its bit, or that of its gate, or 0
-- if it has neither
abbrev pub variable_by : (Gate → Bool) → Circuit → List Bool → List Bool → ℕ → Bool
variable_by value c state input v =
    unwrap_or
    (option_or (bit_of v (given_bits c state input)) (option_map value (gate_of v c.gates))) false

-- the value of a literal, if `value` gives each gate's value
abbrev pub literal_by : (Gate → Bool) → Circuit → List Bool → List Bool → ℕ → Bool
literal_by value c state input literal =
    if literal % 2 == 1 then not (variable_by value c state input (literal / 2))
    else variable_by value c state input (literal / 2)

-- the value of a gate: the conjunction of its operands, up to a depth of gates, and past it 0
abbrev pub gate_to : ℕ → Circuit → List Bool → List Bool → Gate → Bool
gate_to zero c state input g = false
gate_to (suc depth) c state input g =
    literal_by (gate_to depth c state input) c state input g.rhs0
    && literal_by (gate_to depth c state input) c state input g.rhs1

-- the value of a literal; in a circuit with no fault no gate is deeper than there are gates
abbrev pub literal_value : Circuit → List Bool → List Bool → ℕ → Bool
literal_value c state input literal =
    literal_by (gate_to (length c.gates) c state input) c state input literal

-- one step: the columns, and the next state; all latches change at once
abbrev pub step_of : Circuit → List Bool → List Bool → List Bool × List Bool
step_of c state input = (
  map (literal_value c state input) c.columns,
  map (literal_value c state input) (nexts c.latches),
)

-- the columns of some steps, by the inputs of each, from this state
abbrev pub run_from : Circuit → List Bool → List (List Bool) → List (List Bool)
run_from c state [] = []
run_from c state (input ∷ inputs) =
    (step_of c state input).0 ∷ run_from c (step_of c state input).1 inputs

-- the columns of some steps, from the state in which each latch has its reset
abbrev pub run_of : Circuit → List (List Bool) → List (List Bool)
run_of c inputs = run_from c (resets c.latches) inputs
