-- The records that stand for a circuit in chains: docs/FORMATS.md, "Records of circuits".
use Rattle.std.specs.Prelude.{ℕ, ◌/◌, Bool, if◌then◌else◌, List, ◌++◌, map}
use Rattle.std.specs.List.{enumerate_from}
use Rattle.em_record.specs.declared.record.Record.{Record}
use Rattle.aig_defs.specs.declared.circuit.Latch.{Latch}
use Rattle.aig_defs.specs.declared.circuit.Gate.{Gate}
use Rattle.aig_defs.specs.Circuit.{Circuit}

-- the records of a list's elements, whose positions are j, j + 1 and so on
abbrev pub numbered : {A : Type 0} → (ℕ → A → Record) → ℕ → List A → List Record
numbered record_of j section = map (λ e. record_of e.0 e.1) (enumerate_from j section)

-- the definition of a variable: by an input, a latch or a gate, at a position of its section
abbrev pub input_def : ℕ → ℕ → Record
input_def j literal = record { a = literal / 2; b = 0; c = j; d = 0 }

abbrev pub latch_def : ℕ → Latch → Record
latch_def j latch = record { a = latch.current / 2; b = 1; c = j; d = 0 }

abbrev pub gate_def : ℕ → Gate → Record
gate_def j gate = record { a = gate.lhs / 2; b = 2; c = j; d = 0 }

-- a gate: its variable and its operands
abbrev pub gate_record : ℕ → Gate → Record
gate_record j gate = record { a = gate.lhs / 2; b = gate.rhs0; c = gate.rhs1; d = 0 }

-- the use of a literal: as a latch's next bit or as a column, at a position among these
abbrev pub latch_use : ℕ → Latch → Record
latch_use j latch = record { a = latch.next; b = 0; c = j; d = 0 }

abbrev pub output_use : ℕ → ℕ → Record
output_use j literal = record { a = literal; b = 1; c = j; d = 0 }

-- a bit as a number, and the bit with which a latch starts
abbrev pub bit : Bool → ℕ
bit b = if b then 1 else 0

abbrev pub reset_record : ℕ → Latch → Record
reset_record j latch = record { a = j; b = 0; c = bit latch.reset; d = 0 }

-- all definitions, in the order of the text
abbrev pub defs_of : Circuit → List Record
defs_of c =
    numbered input_def 0 c.inputs
    ++ (numbered latch_def 0 c.latches ++ numbered gate_def 0 c.gates)

-- all gates, in the order of the text
abbrev pub gates_of : Circuit → List Record
gates_of c = numbered gate_record 0 c.gates

-- all uses but those of gates: those of latches, then those of columns
abbrev pub uses_of : Circuit → List Record
uses_of c = numbered latch_use 0 c.latches ++ numbered output_use 0 c.columns

-- the bits with which latches start
abbrev pub resets_of : Circuit → List Record
resets_of c = numbered reset_record 0 c.latches
