-- What ordering a graph costs if a bit for each variable fits into an area: passes don't call the queue.
use Rattle.std.specs.Prelude.{◌≡◌, ℕ, ◌+◌, ◌*◌, ◌≤◌, IsTrue}
use Rattle.em_space.specs.Queue.{QueueCounts}
use Rattle.em_space.specs.Rig.{RigState}
use Rattle.em_space.specs.declared.queue.Queue.{Ghosts as QueueGhosts}
use Rattle.aig_defs.specs.declared.circuit.Header.{Header}
use Rattle.aig_defs.specs.Circuit.{Circuit}
use Rattle.aig_defs.specs.Founded.{passes_of}
use Rattle.aig_edges.specs.BuildGraph.{SortCosts}
use Rattle.aig_edges.specs.Graph.{IsGraphOf, edge_count, graph_size}
use Rattle.aig_edges.specs.declared.graph.Graph.{Graph}
use Rattle.aig_order.specs.OrderGraph.{adjacency_room, order_moves, order_peak, order_run}

-- the calls of the queue: ranks are sent to gates, and all edges are sorted
abbrev pub few_calls : Header → ℕ
few_calls h = 4 * h.gates + 2 * edge_count h

-- What ordering a graph cost, as `OrderCosts` says it, with these calls in all.
pub record FewCosts {Q : Type 0} (q : QueueGhosts Q) (c : QueueCounts) (s t : RigState) (g : Graph)
    : Type 0 where
  pub passes : ℕ
  pub passes_most : passes ≤ g.header.gates
  pub fewer : IsTrue s.device.told → (circuit : Circuit) → IsGraphOf s g circuit
      → passes ≤ passes_of circuit
  pub looked : ℕ
  pub looked_most : looked ≤ adjacency_room s g
  pub unlooked : IsTrue s.device.told → looked ≡ 0
  pub costs : SortCosts q (few_calls g.header) (order_run g.header) (order_moves passes s g + looked)
      (graph_size g) (order_peak s g) c s t
