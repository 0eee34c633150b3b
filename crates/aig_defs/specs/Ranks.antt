-- The ranks of a circuit whose gates have an order, and the edges between them: docs/FORMATS.md,
-- "Records of circuits". Ranks are 0 the constant, then the inputs, the latches, the gates in their
-- order, the next values of the latches, and the columns.
use Rattle.std.specs.Prelude.{◌≡◌, ℕ, ◌+◌, ◌*◌, ◌/◌, ◌%◌, ◌==◌, Bool, true, List, [], ◌∷◌, ◌++◌, length, get_or, All, Contains, if◌then◌else◌}
use Rattle.em_record.specs.declared.record.Record.{Record}
use Rattle.em_record.specs.Order.{in_order}
use Rattle.aig_defs.specs.declared.circuit.Gate.{Gate}
use Rattle.aig_defs.specs.Circuit.{Circuit, IsCircuit, variables, currents, nexts, left_sides}
use Rattle.aig_defs.specs.Founded.{has}
use Rattle.aig_defs.specs.Faults.{IsFaultless}
use Rattle.aig_defs.specs.Value.{literal_value}

-- the literals with a value from the start: the constant, the inputs, the latches
abbrev pub given_literals : Circuit → List ℕ
given_literals c = 0 ∷ (c.inputs ++ currents c.latches)

-- the literals that edges come from, by rank
abbrev pub ranked : Circuit → List Gate → List ℕ
ranked c gates = given_literals c ++ left_sides gates

-- the literals at the end of a step, to whose ranks edges lead and from which none come: next values,
-- then columns
abbrev pub ends : Circuit → List ℕ
ends c = nexts c.latches ++ c.columns

-- the rank of the gate that is first in the order, of the first end, and of none
abbrev pub first_gate_rank : Circuit → ℕ
first_gate_rank c = length (given_literals c)

abbrev pub first_end_rank : Circuit → List Gate → ℕ
first_end_rank c gates = first_gate_rank c + length gates

abbrev pub rank_count : Circuit → List Gate → ℕ
rank_count c gates = first_end_rank c gates + length (ends c)

-- the first place of a variable among literals
abbrev pub index : ℕ → List ℕ → ℕ
index v [] = 0
index v (l ∷ literals) = if l / 2 == v then 0 else index v literals + 1

-- an edge from the rank of a literal's variable, to 2·(target rank) + port
abbrev pub rank_edge : List ℕ → ℕ → ℕ → Record
rank_edge from literal b = record { a = index (literal / 2) from; b = b; c = literal % 2; d = 0 }

-- the edges of gates whose ranks begin at t: the ports of a gate are 0 and 1
abbrev pub gate_rank_edges : List ℕ → ℕ → List Gate → List Record
gate_rank_edges from t [] = []
gate_rank_edges from t (g ∷ gates) =
    rank_edge from g.rhs0 (2 * t) ∷ rank_edge from g.rhs1 (2 * t + 1)
    ∷ gate_rank_edges from (t + 1) gates

-- the edges of ends whose ranks begin at t
abbrev pub end_rank_edges : List ℕ → ℕ → List ℕ → List Record
end_rank_edges from t [] = []
end_rank_edges from t (l ∷ literals) =
    rank_edge from l (2 * t) ∷ end_rank_edges from (t + 1) literals

-- all edges between ranks: those of gates, then those of ends
abbrev pub edges_by_rank : Circuit → List Gate → List Record
edges_by_rank c gates =
    gate_rank_edges (ranked c gates) (first_gate_rank c) gates
    ++ end_rank_edges (ranked c gates) (first_end_rank c gates) (ends c)

-- the same, ascending
abbrev pub ordered_edges : Circuit → List Gate → List Record
ordered_edges c gates = in_order (edges_by_rank c gates)

-- the value of a rank is that of its literal
abbrev pub rank_value : Circuit → List Gate → List Bool → List Bool → ℕ → Bool
rank_value c gates state input t =
    literal_value c state input (get_or (ranked c gates ++ ends c) t 0)

-- one of these literals has the variable of this one
abbrev pub IsDefinedBy : List ℕ → ℕ → Type 0
IsDefinedBy literals l = has (variables literals) (l / 2) ≡ true

-- both operands of each gate are given, or are those of gates before it
abbrev pub AllFollow : List ℕ → List Gate → Type 0
AllFollow from [] = Unit {0}
AllFollow from (g ∷ gates) =
    (IsDefinedBy from g.rhs0 × IsDefinedBy from g.rhs1) × AllFollow (from ++ g.lhs ∷ []) gates

-- A circuit with no fault, and an order of all its gates in which operands come before their gates.
-- What is used at the end of a step has a rank too.
pub record IsOrder (c : Circuit) (order : List Gate) : Type 0 where
  pub is : IsCircuit c
  pub faultless : IsFaultless c
  pub count : length order ≡ length c.gates
  pub gates : (g : Gate) → Contains order g → Contains c.gates g
  pub all : (g : Gate) → Contains c.gates g → Contains order g
  pub follow : AllFollow (given_literals c) order
  pub ends : All (IsDefinedBy (ranked c order)) (ends c)
