-- Worked rows: graphs of circuits, and their edges between ranks. All were worked out by hand.
use Rattle.std.proofs.Common.{◌≡◌, [], ◌∷◌, refl}
use Rattle.aig_defs.specs.Circuit.{Circuit}
use Rattle.aig_defs.specs.Graph.{edges_in_text, graph_gates, graph_sources, graph_edges}
use Rattle.aig_defs.specs.Ranks.{ordered_edges}
use Rattle.aig_defs.proofs.TextRows.{and_gate, toggle, shift}

-- the gate 3 has the operands 1 and 2, and the output is the gate
and_gate_edges : graph_edges and_gate
    ≡ record { a = 1; b = 12; c = 0; d = 0 } ∷ record { a = 2; b = 13; c = 0; d = 0 }
    ∷ record { a = 3; b = 17592186044419; c = 0; d = 0 } ∷ []
and_gate_edges = refl

and_gate_sources : graph_sources and_gate
    ≡ record { a = 1; b = 0; c = 0; d = 0 } ∷ record { a = 2; b = 0; c = 1; d = 0 } ∷ []
and_gate_sources = refl

and_gate_gates : graph_gates and_gate ≡ record { a = 3; b = 2; c = 4; d = 0 } ∷ []
and_gate_gates = refl

-- the gate has rank 3, and the output 4
and_gate_ordered : ordered_edges and_gate and_gate.gates
    ≡ record { a = 1; b = 6; c = 0; d = 0 } ∷ record { a = 2; b = 7; c = 0; d = 0 }
    ∷ record { a = 3; b = 8; c = 0; d = 0 } ∷ []
and_gate_ordered = refl

-- the input goes to the first latch, this to the second, and this to the output
shift_edges : graph_edges shift
    ≡ record { a = 1; b = 8796093022210; c = 0; d = 0 } ∷ record { a = 2; b = 8796093022214; c = 0; d = 0 }
    ∷ record { a = 3; b = 17592186044419; c = 0; d = 0 } ∷ []
shift_edges = refl

shift_sources : graph_sources shift
    ≡ record { a = 1; b = 0; c = 0; d = 0 } ∷ record { a = 2; b = 1; c = 0; d = 0 }
    ∷ record { a = 3; b = 1; c = 1; d = 0 } ∷ []
shift_sources = refl

-- the next values of the latches have the ranks 4 and 5, and the output 6
shift_ordered : ordered_edges shift shift.gates
    ≡ record { a = 1; b = 8; c = 0; d = 0 } ∷ record { a = 2; b = 10; c = 0; d = 0 }
    ∷ record { a = 3; b = 12; c = 0; d = 0 } ∷ []
shift_ordered = refl

-- the negation of the latch is what it has next, and the second output
toggle_edges : graph_edges toggle
    ≡ record { a = 1; b = 8796093022210; c = 1; d = 0 } ∷ record { a = 1; b = 17592186044419; c = 0; d = 0 }
    ∷ record { a = 1; b = 17592186044423; c = 1; d = 0 } ∷ []
toggle_edges = refl

toggle_ordered : ordered_edges toggle toggle.gates
    ≡ record { a = 1; b = 4; c = 1; d = 0 } ∷ record { a = 1; b = 6; c = 0; d = 0 }
    ∷ record { a = 1; b = 8; c = 1; d = 0 } ∷ []
toggle_ordered = refl

-- A gate and an output both use the input: the output's edge is last in the graph, as by ranks.
abbrev pub both_use : Circuit
both_use = record {
  header = record { max = 2; inputs = 1; latches = 0; outputs = 1; gates = 1; bads = 0; constraints = 0 };
  inputs = 2 ∷ [];
  latches = [];
  columns = 2 ∷ [];
  gates = record { lhs = 4; rhs0 = 2; rhs1 = 3 } ∷ [];
}

both_use_text : edges_in_text both_use
    ≡ record { a = 1; b = 8; c = 0; d = 0 } ∷ record { a = 1; b = 9; c = 1; d = 0 }
    ∷ record { a = 1; b = 17592186044419; c = 0; d = 0 } ∷ []
both_use_text = refl

both_use_edges : graph_edges both_use
    ≡ record { a = 1; b = 8; c = 0; d = 0 } ∷ record { a = 1; b = 9; c = 1; d = 0 }
    ∷ record { a = 1; b = 17592186044419; c = 0; d = 0 } ∷ []
both_use_edges = refl

both_use_ordered : ordered_edges both_use both_use.gates
    ≡ record { a = 1; b = 4; c = 0; d = 0 } ∷ record { a = 1; b = 5; c = 1; d = 0 }
    ∷ record { a = 1; b = 6; c = 0; d = 0 } ∷ []
both_use_ordered = refl
