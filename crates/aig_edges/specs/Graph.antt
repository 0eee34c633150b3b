-- A circuit's graph, and its edges between ranks, as they stand on a rig.
use Rattle.std.specs.Prelude.{◌≡◌, ℕ, ◌+◌, ◌*◌, ◌≤◌, List, ◌++◌, IsTrue, false}
use Rattle.em_record.specs.Shape.{fan_of}
use Rattle.em_frames.specs.Pool.{PoolCounts}
use Rattle.em_space.specs.Held.{Holds}
use Rattle.em_space.specs.Rig.{RigState}
use Rattle.em_chain.specs.Chain.{chain_blocks, chain_items, payload_in}
use Rattle.em_chain.specs.Counts.{ceiling}
use Rattle.aig_defs.specs.declared.circuit.Gate.{Gate}
use Rattle.aig_defs.specs.declared.circuit.Header.{Header}
use Rattle.aig_defs.specs.Chains.{resets_of}
use Rattle.aig_defs.specs.Circuit.{Circuit, IsCircuit, IsHeader, columns}
use Rattle.aig_defs.specs.Graph.{graph_edges, graph_gates, graph_sources}
use Rattle.aig_defs.specs.Ranks.{IsOrder, ordered_edges}
use Rattle.aig_defs.specs.Straight.{IsStraightGraph}
use Rattle.aig_text.specs.Draft.{chains_blocks}
use Rattle.aig_text.specs.Parts.{IsChainOf, IsCompactOf}
use Rattle.aig_edges.specs.declared.graph.Graph.{Graph}
use Rattle.aig_edges.specs.declared.graph.Ordered.{Ordered}

-- the edges of a circuit: two of each gate, and one of each latch and column
abbrev pub edge_count : Header → ℕ
edge_count h = 2 * h.gates + (h.latches + columns h)

-- the blocks of a graph's gates, edges and sources, and those of all its chains
abbrev pub graph_lists : RigState → Graph → List ℕ
graph_lists s g = chains_blocks s g.gates g.edges g.sources

abbrev pub graph_blocks : RigState → Graph → List ℕ
graph_blocks s g = chain_blocks s g.resets ++ graph_lists s g

-- how many blocks the lists have
abbrev pub graph_size : Graph → ℕ
graph_size g = g.gates.blocks + (g.edges.blocks + g.sources.blocks)

-- The graph is that of this circuit.
pub record IsGraphOf (s : RigState) (g : Graph) (c : Circuit) : Type 0 where
  pub header : c.header ≡ g.header
  pub is : IsCircuit c
  pub gates : chain_items s g.gates ≡ graph_gates c
  pub edges : chain_items s g.edges ≡ graph_edges c
  pub sources : chain_items s g.sources ≡ graph_sources c
  pub resets : chain_items s g.resets ≡ resets_of c

-- It is that of some circuit.
pub record OfSomeGraph (s : RigState) (g : Graph) : Type 0 where
  pub circuit : Circuit
  pub is : IsGraphOf s g circuit

-- A graph: four chains, as long as the header says, whose blocks are apart. That of the resets has no
-- spare block. If the device tells, they are those of a circuit, which is straight if the graph says so.
pub record IsGraph (s : RigState) (g : Graph) : Type 0 where
  pub header : IsHeader g.header
  pub gates : IsChainOf s g.header.gates g.gates
  pub edges : IsChainOf s (edge_count g.header) g.edges
  pub sources : IsChainOf s (g.header.inputs + g.header.latches) g.sources
  pub resets : IsCompactOf s g.header.latches g.resets
  pub holds : IsTrue s.device.told → Holds s (graph_blocks s g)
  pub stands : IsTrue s.device.told → OfSomeGraph s g
  pub straight : IsTrue s.device.told → IsTrue g.straight
      → IsStraightGraph g.header (chain_items s g.sources) (chain_items s g.gates)

-- the blocks of the edges between ranks and of the resets
abbrev pub ordered_blocks : RigState → Ordered → List ℕ
ordered_blocks s o = chain_blocks s o.resets ++ chain_blocks s o.edges

-- how many they are, and how many those of the edges are if they are packed
abbrev pub ordered_size : Ordered → ℕ
ordered_size o = o.resets.blocks + o.edges.blocks

abbrev pub ranked_room : RigState → Graph → ℕ
ranked_room s g = ceiling (edge_count g.header) (payload_in s)

-- The edges are those between the ranks of this circuit, whose gates stand in this order.
pub record IsOrderedOf (s : RigState) (o : Ordered) (c : Circuit) (order : List Gate) : Type 0 where
  pub header : c.header ≡ o.header
  pub is : IsCircuit c
  pub ordered : IsOrder c order
  pub edges : chain_items s o.edges ≡ ordered_edges c order
  pub resets : chain_items s o.resets ≡ resets_of c

-- They are those of some circuit and order.
pub record OfSomeOrder (s : RigState) (o : Ordered) : Type 0 where
  pub circuit : Circuit
  pub order : List Gate
  pub is : IsOrderedOf s o circuit order

-- Edges between ranks, and resets: two chains, as long as the header says, whose blocks are apart. That of
-- the resets has no spare block. If the device tells, they are those of a circuit in some order.
pub record IsOrdered (s : RigState) (o : Ordered) : Type 0 where
  pub header : IsHeader o.header
  pub edges : IsChainOf s (edge_count o.header) o.edges
  pub resets : IsCompactOf s o.header.latches o.resets
  pub holds : IsTrue s.device.told → Holds s (ordered_blocks s o)
  pub stands : IsTrue s.device.told → OfSomeOrder s o

-- The frames that making a graph by a queue may need are free: 2f + 10 single ones, an area and the
-- rack.
pub record CanBuild (p : PoolCounts) : Type 0 where
  pub singles : 2 * fan_of p.shape + 10 ≤ p.free
  pub areas : 1 ≤ p.free_areas
  pub rack : p.rack_out ≡ false
