-- The records of a circuit's graph: docs/FORMATS.md, "Records of circuits".
use Rattle.std.specs.Prelude.{ℕ, ◌+◌, ◌*◌, ◌/◌, ◌%◌, ◌^◌, ◌==◌, if◌then◌else◌, List, [], ◌∷◌, ◌++◌, flat_map}
use Rattle.em_record.specs.declared.record.Record.{Record}
use Rattle.em_record.specs.Order.{in_order, with_record, Lacks}
use Rattle.aig_defs.specs.declared.circuit.Latch.{Latch}
use Rattle.aig_defs.specs.declared.circuit.Gate.{Gate}
use Rattle.aig_defs.specs.Circuit.{Circuit}
use Rattle.aig_defs.specs.Chains.{numbered, input_def, latch_def, gates_of}

-- An edge leads from the variable of a literal to what uses the literal: to a gate, by its
-- variable, or to a latch or a column, by its place. The class says which: 0 the first operand
-- of a gate, 1 the second, 2 the next literal of a latch, 3 a column. Places of latches are above all
-- variables, and those of columns above these: the edges of one variable lead to gates, then to latches,
-- and then to columns.
abbrev pub graph_edge : ℕ → ℕ → ℕ → Record
graph_edge literal target class =
    record { a = literal / 2; b = 4 * target + class; c = literal % 2; d = 0 }

-- the edges of a gate, of a latch and of a column
abbrev pub operand_edges : Gate → List Record
operand_edges g = graph_edge g.rhs0 (g.lhs / 2) 0 ∷ graph_edge g.rhs1 (g.lhs / 2) 1 ∷ []

abbrev pub next_edge : ℕ → Latch → Record
next_edge j latch = graph_edge latch.next (2 ^ 41 + j) 2

abbrev pub output_edge : ℕ → ℕ → Record
output_edge j literal = graph_edge literal (2 ^ 42 + j) 3

-- all edges in the order of a circuit's chains: two of each gate, then those of latches and columns
abbrev pub edges_in_text : Circuit → List Record
edges_in_text c =
    flat_map operand_edges c.gates
    ++ (numbered next_edge 0 c.latches ++ numbered output_edge 0 c.columns)

-- the place of a latch or a column, by the record of its use
abbrev pub use_place : Record → ℕ
use_place r = (if r.b == 0 then 2 ^ 41 else 2 ^ 42) + r.c

-- the two edges of a gate by its record, and the edge of a use by its record
abbrev pub gate_edge0 : Record → Record
gate_edge0 r = graph_edge r.b r.a 0

abbrev pub gate_edge1 : Record → Record
gate_edge1 r = graph_edge r.c r.a 1

abbrev pub use_edge : Record → Record
use_edge r = graph_edge r.a (use_place r) (2 + r.b)

-- the graph of a circuit: its gates, its inputs and latches, and its edges, each list ascending
abbrev pub graph_gates : Circuit → List Record
graph_gates c = in_order (gates_of c)

abbrev pub graph_sources : Circuit → List Record
graph_sources c = in_order (numbered input_def 0 c.inputs ++ numbered latch_def 0 c.latches)

abbrev pub graph_edges : Circuit → List Record
graph_edges c = in_order (edges_in_text c)

-- each of some records may be pushed, one after another, into a queue with these items: none has
-- the words a and b of an item
abbrev pub AllLack : List Record → List Record → Type 0
AllLack ys [] = Unit {0}
AllLack ys (x ∷ xs) = Lacks x ys × AllLack (with_record x ys) xs
