-- Worked rows: circuits with lines and gates in any order, the first faults of texts, sorted lists, and
-- edges between ranks. All were worked out by hand.
use Rattle.std.proofs.Common.{◌≡◌, ℕ, List, [], ◌∷◌, refl, map, Some, None}
use Rattle.std.specs.Prelude.{codes}
use Rattle.em_record.specs.declared.record.Record.{Record}
use Rattle.em_record.specs.Order.{in_order}
use Rattle.aig_defs.specs.declared.fault.AigKind.TheVariants.{Extra, Cyclic}
use Rattle.aig_defs.specs.declared.form.Form.TheVariants.{Ascii}
use Rattle.aig_defs.specs.Circuit.{Circuit}
use Rattle.aig_defs.specs.Founded.{passes_of, upwards}
use Rattle.aig_defs.specs.Graph.{graph_gates, graph_sources, graph_edges}
use Rattle.aig_defs.specs.Order.{Spells}
use Rattle.aig_defs.specs.Ranks.{ordered_edges}
use Rattle.aig_defs.specs.Sorted.{sorted_defs}
use Rattle.aig_defs.specs.TextFault.{text_fault}
use Rattle.aig_defs.specs.Value.{run_of}
use Rattle.aig_defs.specs.VariableRanks.{listed_rank, ranked_edge}
use Rattle.aig_defs.proofs.GraphRows.{both_use}
use Rattle.aig_defs.proofs.MeaningRows.{all_pairs, lines}
use Rattle.aig_defs.proofs.TextRows.{and_gate, toggle, half_adder_text, binary_adder, binary_adder_text, shift}

-- gate 4 stands before gate 3, which it uses
abbrev pub late_line : Circuit
late_line = record {
  header = record { max = 4; inputs = 2; latches = 0; outputs = 1; gates = 2; bads = 0; constraints = 0 };
  inputs = 2 ∷ 4 ∷ [];
  latches = [];
  columns = 8 ∷ [];
  gates = record { lhs = 8; rhs0 = 6; rhs1 = 2 } ∷ record { lhs = 6; rhs0 = 2; rhs1 = 4 } ∷ [];
}

abbrev pub late_line_text : List ℕ
late_line_text = codes "aag 4 2 0 1 2\n2\n4\n8\n8 6 2\n6 2 4\n"

late_line_spelled : Spells None (Ascii None) late_line_text late_line
late_line_spelled = record { reads = refl }

late_line_none : text_fault None late_line_text ≡ None
late_line_none = refl

late_line_passes : passes_of late_line ≡ 1
late_line_passes = refl

late_line_run : run_of late_line all_pairs
    ≡ lines (codes "0" ∷ codes "0" ∷ codes "0" ∷ codes "1" ∷ [])
late_line_run = refl

-- gate 3 of the half adder has the operands 6 and 7, which are greater gates
half_adder_text_none : text_fault None half_adder_text ≡ None
half_adder_text_none = refl

-- the least, wherever it stands: gates 3 and 2 are their own operands
cyclic_operands : text_fault None (codes "aag 3 0 0 0 3\n6 6 0\n4 4 0\n2 0 1\n") ≡ Some (Cyclic, 2)
cyclic_operands = refl

-- gate 1 uses the greater gate 2, negated, as its second operand
greater_gate : text_fault None (codes "aag 2 0 0 0 2\n2 0 5\n4 1 1\n") ≡ None
greater_gate = refl

-- the second operand counts, and so does a negated one: gates 1 and 2 use each other
second_operand : text_fault None (codes "aag 2 0 0 0 2\n2 0 5\n4 1 3\n") ≡ Some (Cyclic, 1)
second_operand = refl

-- an input or a latch may have a greater variable than the gate that uses it
greater_input : text_fault None (codes "aag 2 1 0 1 1\n4\n2\n2 4 4\n") ≡ None
greater_input = refl

greater_latch : text_fault None (codes "aag 2 0 1 1 1\n4 2\n2\n2 4 5\n") ≡ None
greater_latch = refl

-- inputs in another order, and variables between that nothing defines
other_order : text_fault None (codes "aag 9 2 0 0 0\n18\n4\n") ≡ None
other_order = refl

-- a fault of the text comes first, and a text in the binary form has no other
text_first : text_fault None (codes "aag 2 2 0 0 0\n2\n2\na0 x\n") ≡ Some (Extra, 18)
text_first = refl

binary_none : text_fault None binary_adder_text ≡ None
binary_none = refl

-- The second input has a lesser variable than the first, and the gate's is between them.
abbrev crossed : Circuit
crossed = record {
  header = record { max = 3; inputs = 2; latches = 0; outputs = 1; gates = 1; bads = 0; constraints = 0 };
  inputs = 6 ∷ 2 ∷ [];
  latches = [];
  columns = 4 ∷ [];
  gates = record { lhs = 4; rhs0 = 6; rhs1 = 3 } ∷ [];
}

-- its definitions by variable: number in the text, kind, position
crossed_defs : sorted_defs crossed
    ≡ record { a = 1; b = 1; c = 0; d = 1 } ∷ record { a = 2; b = 2; c = 2; d = 0 }
    ∷ record { a = 3; b = 0; c = 0; d = 0 } ∷ []
crossed_defs = refl

crossed_sources : graph_sources crossed
    ≡ record { a = 1; b = 0; c = 1; d = 0 } ∷ record { a = 3; b = 0; c = 0; d = 0 } ∷ []
crossed_sources = refl

-- the inputs have the ranks 1 and 2 in the order of the text, and the gate has 3
crossed_ranks : map (listed_rank crossed.header (graph_sources crossed) (graph_gates crossed))
    (0 ∷ 1 ∷ 2 ∷ 3 ∷ [])
    ≡ 0 ∷ 2 ∷ 3 ∷ 1 ∷ []
crossed_ranks = refl

crossed_ordered : ordered_edges crossed (upwards crossed.gates)
    ≡ record { a = 1; b = 6; c = 0; d = 0 } ∷ record { a = 2; b = 7; c = 1; d = 0 }
    ∷ record { a = 3; b = 8; c = 0; d = 0 } ∷ []
crossed_ordered = refl

-- gate 3 has rank 3, gate 4 rank 4, and the output rank 5
late_line_ordered : ordered_edges late_line (upwards late_line.gates)
    ≡ record { a = 1; b = 6; c = 0; d = 0 } ∷ record { a = 1; b = 9; c = 0; d = 0 }
    ∷ record { a = 2; b = 7; c = 0; d = 0 } ∷ record { a = 3; b = 8; c = 0; d = 0 }
    ∷ record { a = 4; b = 10; c = 0; d = 0 } ∷ []
late_line_ordered = refl

-- the edges between ranks are those of the graph, by the ranks that are looked up in it
abbrev by_lists : Circuit → List Record
by_lists c = in_order (map
    (ranked_edge (listed_rank c.header (graph_sources c) (graph_gates c)) c.header)
    (graph_edges c))

crossed_by_lists : by_lists crossed ≡ ordered_edges crossed (upwards crossed.gates)
crossed_by_lists = refl

late_line_by_lists : by_lists late_line ≡ ordered_edges late_line (upwards late_line.gates)
late_line_by_lists = refl

and_gate_by_lists : by_lists and_gate ≡ ordered_edges and_gate (upwards and_gate.gates)
and_gate_by_lists = refl

toggle_by_lists : by_lists toggle ≡ ordered_edges toggle (upwards toggle.gates)
toggle_by_lists = refl

-- a gate and an output both use the input
both_use_by_lists : by_lists both_use ≡ ordered_edges both_use (upwards both_use.gates)
both_use_by_lists = refl

shift_by_lists : by_lists shift ≡ ordered_edges shift (upwards shift.gates)
shift_by_lists = refl

binary_adder_by_lists : by_lists binary_adder
    ≡ ordered_edges binary_adder (upwards binary_adder.gates)
binary_adder_by_lists = refl
