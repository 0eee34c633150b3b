-- The records of an adjacency list: each definition of a circuit, in the order of variables, and after
-- it the edges from its variable.
use Rattle.std.specs.Prelude.{List, map}
use Rattle.em_record.specs.declared.record.Record.{Record}
use Rattle.em_weave.specs.Woven.{woven, side_record}
use Rattle.em_weave.specs.declared.side.Side.{Side}
use Rattle.em_weave.specs.declared.side.Side.TheVariants.{Left, Right}
use Rattle.aig_defs.specs.declared.circuit.Header.{Header}
use Rattle.aig_defs.specs.VariableRanks.{word_source_rank}

-- the definition of an input or a latch, with its rank, and that of a gate without one
abbrev pub source_definition : Header → Record → Record
source_definition h r = record { a = r.a; b = 0; c = word_source_rank h r; d = 1 }

abbrev pub gate_definition : Record → Record
gate_definition r = record { a = r.a; b = 0; c = 0; d = 2 }

-- the definition of a source or of a gate
abbrev pub merged_definition : Header → Side → Record
merged_definition h (Left source) = source_definition h source
merged_definition h (Right gate) = gate_definition gate

-- the definitions of a graph in the order of variables
abbrev pub definitions_of : Header → List Record → List Record → List Record
definitions_of h sources gates = map (merged_definition h) (woven sources gates)

-- its adjacency list, in which no gate is found
abbrev pub adjacency_of : Header → List Record → List Record → List Record → List Record
adjacency_of h sources gates edges =
    map side_record (woven (definitions_of h sources gates) edges)
