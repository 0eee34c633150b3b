-- The blocks of ordering a graph: how many aren't stored, when it is full, and how many are in use, if
-- nothing but its arguments is at first.
use Rattle.std.specs.Prelude.{◌+◌, ◌*◌, max, Result}
use Rattle.em_space.specs.Queue.{QueueCounts}
use Rattle.em_space.specs.Rig.{RigState}
use Rattle.em_space.specs.declared.queue.Queue.{Ghosts as QueueGhosts}
use Rattle.em_queued.specs.Room.{FullBeside}
use Rattle.aig_defs.specs.Begun.{circuit_size}
use Rattle.aig_text.specs.Ascii.{IfEm}
use Rattle.aig_text.specs.declared.stop.AigStop.{AigStop}
use Rattle.aig_edges.specs.Graph.{graph_size}
use Rattle.aig_edges.specs.Room.{FullInRoom, HoldsAllBlocks, IsInRoom, IsShort}
use Rattle.aig_edges.specs.declared.graph.Graph.{Graph}
use Rattle.aig_edges.specs.declared.graph.Ordered.{Ordered}
use Rattle.aig_order.specs.OrderGraph.{StoresOrdered, order_peak, order_run}

-- The lists of a graph are short.
pub record IsShortGraph (s : RigState) (g : Graph) : Type 0 where
  pub gates : IsShort s g.gates
  pub edges : IsShort s g.edges
  pub sources : IsShort s g.sources

-- What ordering a graph did to blocks. When it is full is said over a device that tells; and if the graph and
-- the queue stand alone, the blocks in use were at most the circuit's room.
pub record OrdersBlocks {Q : Type 0} (q : QueueGhosts Q) (c : QueueCounts) (s t : RigState) (g : Graph)
    (result : Result Ordered AigStop) : Type 0 where
  pub stores : StoresOrdered c s t g result
  pub full : IfEm result (FullBeside q.room (graph_size g) (order_peak s g) c
      (max c.k (c.since + order_run g.header)) s)
  pub alone : HoldsAllBlocks q.room (2 * circuit_size g.header) (g.resets.blocks + graph_size g) c s
      → IsShortGraph s g
      → IsInRoom g.header s t × IfEm result (FullInRoom g.header s)
