-- What ordering a graph does until the queue is ended or abandoned.
use Rattle.std.specs.Prelude.{◌≡◌, ℕ, ◌+◌, ◌≤◌, max, ◌++◌, IsTrue, Result, Ok, Err}
use Rattle.em_frames.specs.Pool.{SameFrames}
use Rattle.em_space.specs.Ledger.{Session}
use Rattle.em_space.specs.Queue.{Pays, Shares}
use Rattle.em_space.specs.Rig.{RigState, Cause, Sound, Touches}
use Rattle.em_space.specs.declared.queue.Queue.{Ghosts as QueueGhosts}
use Rattle.em_chain.specs.Chain.{ChainStays, chain_blocks}
use Rattle.em_queued.specs.Room.{FullBeside}
use Rattle.aig_defs.specs.Circuit.{Circuit}
use Rattle.aig_defs.specs.Founded.{passes_of}
use Rattle.aig_text.specs.Ascii.{IfEmStop}
use Rattle.aig_text.specs.declared.stop.AigStop.{AigStop}
use Rattle.aig_edges.specs.BuildGraph.{CalledInRuns}
use Rattle.aig_edges.specs.Graph.{IsGraphOf, IsOrdered, graph_lists, graph_size, ranked_room}
use Rattle.aig_edges.specs.declared.graph.Graph.{Graph}
use Rattle.aig_edges.specs.declared.graph.Ordered.{Ordered}
use Rattle.aig_defs.specs.Faults.{IsDefined}
use Rattle.aig_order.specs.OrderGraph.{OrdersCircuit, StopsOrdering, adjacency_room, order_calls, order_moves, order_peak, order_run}

-- The calls, the blocks and the moves are within what is promised for r passes, if this many blocks were
-- looked at once more.
pub record DoneWithin {Q : Type 0} (q : QueueGhosts Q) (r looked : ℕ) (x y : Q) (s t : RigState)
    (g : Graph) : Type 0 where
  pub called : CalledInRuns (order_calls r g.header) (order_run g.header) (q.counts x) (q.counts y)
  pub most : t.most + ((q.counts x).blocks + graph_size g)
      ≤ max (s.most + ((q.counts x).blocks + graph_size g))
      (s.used + ((q.counts y).most + order_peak s g))
  pub moves : t.moves + (q.counts x).spent
      ≤ s.moves + (q.counts y).spent + (order_moves r s g + looked)

-- What was done until the queue, whose frames are out, is ended or abandoned: this many passes found a
-- gate, at most as many as those of the circuit.
pub record DoneUntil {Q : Type 0} (q : QueueGhosts Q) (x y : Q) (s t : RigState) (g : Graph)
    : Type 0 where
  pub sound : Sound t
  pub touches : Touches (q.blocks x s ++ graph_lists s g) s t
  pub shares : Shares (q.counts x) (q.counts y) s.pool t.pool
  pub passes : ℕ
  pub passes_most : passes ≤ g.header.gates
  pub fewer : IsTrue s.device.told → (c : Circuit) → IsGraphOf s g c → passes ≤ passes_of c
  pub looked : ℕ
  pub looked_most : looked ≤ adjacency_room s g
  pub unlooked : IsTrue s.device.told → looked ≡ 0
  pub within : DoneWithin q passes looked x y s t g

-- The edges between ranks were made beside the queue, by calls of which none was refused.
pub record OrdersBeside {Q : Type 0} (q : QueueGhosts Q) (x y : Q) (s t : RigState) (g : Graph)
    (o : Ordered) : Type 0 where
  pub done : DoneUntil q x y s t g
  pub frames : SameFrames s.pool t.pool
  pub session : Session (q.blocks x s ++ graph_lists s g) s t (q.blocks y t ++ chain_blocks t o.edges)
  pub used : t.used + ((q.counts x).blocks + graph_size g)
      ≡ s.used + ((q.counts y).blocks + o.edges.blocks)
  pub pays : Pays (q.counts x).unstored (q.counts y).unstored s t
  pub is : IsOrdered t o
  pub header : o.header ≡ g.header
  pub room : o.edges.blocks ≡ ranked_room s g
  pub resets_are : o.resets ≡ g.resets
  pub resets_stay : ChainStays s t g.resets
  pub passes : o.passes ≤ g.header.gates
  pub stands : IsTrue s.device.told
      → (c : Circuit) → IsGraphOf s g c → IsDefined c → OrdersCircuit t o c

-- No order was found: a cycle, or a call that gave up. All blocks are stored but two, and as many as
-- there are frames.
pub record OrdersNone {Q : Type 0} (q : QueueGhosts Q) (x y : Q) (s t : RigState) (g : Graph)
    (e : AigStop) : Type 0 where
  pub done : DoneUntil q x y s t g
  pub stops : StopsOrdering s g (Err e)
  pub cause : IfEmStop e (Cause s t)
  pub full : IfEmStop e (FullBeside q.room (graph_size g) (order_peak s g) (q.counts x) (q.counts y).k s)
  pub pays : Pays (q.counts x).unstored (s.pool.shape.frames + 2) s t

-- what was done, by the result
abbrev pub OrdersTo : {Q : Type 0} → QueueGhosts Q → Q → Q → RigState → RigState → Graph
    → Result Ordered AigStop → Type 0
OrdersTo q x y s t g (Ok o) = OrdersBeside q x y s t g o
OrdersTo q x y s t g (Err e) = OrdersNone q x y s t g e
