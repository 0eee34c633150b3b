-- What the edges between ranks of a graph are, if its circuit defines all that it uses and nothing
-- twice, and what finding them by a queue costs.
use Rattle.std.specs.Prelude.{◌≡◌, ℕ, ◌+◌, ◌*◌, ◌<◌, ◌≤◌, ◌^◌, List, IsTrue, Result, Ok, Err}
use Rattle.em_space.specs.Ledger.{Session}
use Rattle.em_space.specs.Queue.{Pays, QueueCounts}
use Rattle.em_space.specs.Rig.{RigState}
use Rattle.em_space.specs.declared.queue.Queue.{Ghosts as QueueGhosts}
use Rattle.em_chain.specs.Chain.{payload_in}
use Rattle.em_chain.specs.Counts.{ceiling}
use Rattle.aig_defs.specs.declared.circuit.Header.{Header}
use Rattle.aig_defs.specs.declared.fault.AigKind.{AigKind}
use Rattle.aig_defs.specs.declared.fault.AigKind.TheVariants as kind
use Rattle.aig_defs.specs.Circuit.{Circuit}
use Rattle.aig_defs.specs.Faults.{IsDefined, IsFaultOf}
use Rattle.aig_defs.specs.Founded.{passes_of}
use Rattle.aig_text.specs.declared.stop.AigStop.{AigStop}
use Rattle.aig_text.specs.declared.stop.AigStop.TheVariants as stop
use Rattle.aig_edges.specs.BuildGraph.{SortCosts}
use Rattle.aig_edges.specs.Graph.{CanBuild, IsGraphOf, IsOrdered, IsOrderedOf, edge_count, graph_size, ordered_blocks, ranked_room}
use Rattle.aig_edges.specs.declared.graph.Graph.{Graph}
use Rattle.aig_edges.specs.declared.graph.Ordered.{Ordered}
use Rattle.aig_order.specs.ByPass.{by_pass}

-- The graph is that of some such circuit.
pub record OfDefinedCircuit (s : RigState) (g : Graph) : Type 0 where
  pub circuit : Circuit
  pub is : IsGraphOf s g circuit
  pub defined : IsDefined circuit

-- The edges between ranks are those of this circuit, which has no fault, with its gates by (pass,
-- variable), and `passes` is the number of passes that find its values.
pub record OrdersCircuit (t : RigState) (o : Ordered) (c : Circuit) : Type 0 where
  pub is : IsOrderedOf t o c (by_pass c)
  pub passes : o.passes ≡ passes_of c

-- Such edges of each such circuit whose graph it is, in a packed list, and in blocks that the queue and
-- the graph had, or that weren't in use.
pub record OrdersGraph (held : List ℕ) (s t : RigState) (g : Graph) (o : Ordered) : Type 0 where
  pub is : IsOrdered t o
  pub header : o.header ≡ g.header
  pub blocks : Session held s t (ordered_blocks t o)
  pub room : o.edges.blocks ≡ ranked_room s g
  pub resets : o.resets ≡ g.resets
  pub passes : o.passes ≤ g.header.gates
  pub stands : IsTrue s.device.told
      → (c : Circuit) → IsGraphOf s g c → IsDefined c → OrdersCircuit t o c

-- Cyclic: over a device that tells it is the first fault of each such circuit, at the least gate
-- variable that isn't founded.
pub record IsCycleOf (s : RigState) (g : Graph) (fault : AigKind) (place : ℕ) : Type 0 where
  pub kind_is : fault ≡ kind.Cyclic
  pub found : IsTrue s.device.told
      → (c : Circuit) → IsGraphOf s g c → IsDefined c → IsFaultOf c fault place

-- why no order was found: it is never that the shelf failed, which isn't read
abbrev pub StopsOrdering : RigState → Graph → Result Ordered AigStop → Type 0
StopsOrdering s g (Ok o) = Unit {0}
StopsOrdering s g (Err (stop.Fault fault place)) = IsCycleOf s g fault place
StopsOrdering s g (Err stop.Read) = ⊥
StopsOrdering s g (Err (stop.Em fault)) = Unit {0}

-- how many records stand in the lists of definitions, and of definitions with the edges from them
abbrev pub definition_count : Header → ℕ
definition_count h = h.inputs + h.latches + h.gates

abbrev pub adjacency_count : Header → ℕ
adjacency_count h = definition_count h + edge_count h

-- The calls of the queue if r passes find something: in each of these passes and in one more, each edge
-- to a gate has a note, which is pushed and popped. The ranks of their sources are sent along these
-- edges once more, and then all edges are sorted.
abbrev pub order_calls : ℕ → Header → ℕ
order_calls r h = 4 * (r + 1) * h.gates + 4 * h.gates + 2 * edge_count h

-- the most of them between two moments at which the queue has no item
abbrev pub order_run : Header → ℕ
order_run h = 2 * edge_count h

-- the calls over any device, whose lists may hold anything
abbrev pub any_calls : Header → ℕ
any_calls h = 4 * (h.gates + 3) * adjacency_count h

-- the blocks of these lists, packed
abbrev pub definition_room : RigState → Graph → ℕ
definition_room s g = ceiling (definition_count g.header) (payload_in s)

abbrev pub adjacency_room : RigState → Graph → ℕ
adjacency_room s g = ceiling (adjacency_count g.header) (payload_in s)

-- The moves beside those of the queue. The graph's lists are read and released, and definitions
-- written, read and released, for the list with edges. In each pass that list is read, then read again
-- and released as the next one is written. At last it is read as often, and the list of edges between
-- ranks is written, read and released to be sorted, and written.
abbrev pub order_moves : ℕ → RigState → Graph → ℕ
order_moves r s g =
    2 * graph_size g + 4 * definition_room s g + 5 * adjacency_room s g + 6 * ranked_room s g + 8
    + (r + 1) * (5 * adjacency_room s g + 1)

-- at no moment do graph and lists hold more blocks
abbrev pub order_peak : RigState → Graph → ℕ
order_peak s g =
    graph_size g + definition_room s g + 2 * adjacency_room s g + 2 * ranked_room s g

-- A queue with no item, and what else ordering a graph asks: few calls of it came, and the frames are
-- free.
pub record BeginsOrdering (h : Header) (c : QueueCounts) (s : RigState) : Type 0 where
  pub empty : c.len ≡ 0
  pub few : c.n + any_calls h < 2 ^ 100
  pub free : CanBuild s.pool

-- What ordering a graph cost, over any device, whether it stopped or not: the queue's calls and the moves
-- beside it go by the passes that found a gate. These are at most as many as there are gates, and over a
-- device that tells at most those of the circuit. Over another device the list may be looked at once more
-- before the edges between ranks are made.
pub record OrderCosts {Q : Type 0} (q : QueueGhosts Q) (c : QueueCounts) (s t : RigState) (g : Graph)
    : Type 0 where
  pub passes : ℕ
  pub passes_most : passes ≤ g.header.gates
  pub fewer : IsTrue s.device.told → (circuit : Circuit) → IsGraphOf s g circuit
      → passes ≤ passes_of circuit
  pub looked : ℕ
  pub looked_most : looked ≤ adjacency_room s g
  pub unlooked : IsTrue s.device.told → looked ≡ 0
  pub costs : SortCosts q (order_calls passes g.header) (order_run g.header)
      (order_moves passes s g + looked) (graph_size g) (order_peak s g) c s t

-- what the blocks in use are, and how many aren't stored: all of the list are; after a stop all are but
-- two, and as many as there are frames
abbrev pub StoresOrdered : QueueCounts → RigState → RigState → Graph → Result Ordered AigStop → Type 0
StoresOrdered c s t g (Ok o) =
    (t.used + (c.blocks + graph_size g) ≡ s.used + o.edges.blocks) × Pays c.unstored 0 s t
StoresOrdered c s t g (Err e) = Pays c.unstored (s.pool.shape.frames + 2) s t
