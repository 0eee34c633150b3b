-- What the private calls of making a graph do, beside a queue.
use Rattle.std.specs.Prelude.{◌≡◌, ◌+◌, ◌≤◌, max, ◌++◌, IsTrue, Result, Ok, Err}
use Rattle.em_space.specs.Queue.{Pays, Shares}
use Rattle.em_space.specs.Rig.{RigState, Cause, Sound, Touches}
use Rattle.em_space.specs.declared.queue.Queue.{Ghosts as QueueGhosts}
use Rattle.em_chain.specs.Chain.{ChainStays}
use Rattle.em_queued.specs.Queued.{RunsBeside}
use Rattle.em_queued.specs.Room.{FullBeside}
use Rattle.aig_text.specs.Ascii.{IfEmStop}
use Rattle.aig_text.specs.Parts.{lists_blocks}
use Rattle.aig_text.specs.declared.parts.Parts.{Parts}
use Rattle.aig_text.specs.declared.stop.AigStop.{AigStop}
use Rattle.aig_edges.specs.Build.{edge_room, parts_size}
use Rattle.aig_edges.specs.BuildGraph.{BuildsEach, CalledInRuns, StopsBuilding, gate_room, sort_calls, sort_moves, sort_peak, sort_run, source_room}
use Rattle.aig_edges.specs.Graph.{IsGraph, graph_lists, graph_size}
use Rattle.aig_edges.specs.Accounts.{stored_account}
use Rattle.aig_edges.specs.declared.graph.Graph.{Graph}

-- What was done until the queue, whose frames are out, is ended or abandoned.
pub record DoneUntil {Q : Type 0} (q : QueueGhosts Q) (x y : Q) (s t : RigState) (p : Parts)
    : Type 0 where
  pub sound : Sound t
  pub touches : Touches (q.blocks x s ++ lists_blocks s p) s t
  pub shares : Shares (q.counts x) (q.counts y) s.pool t.pool
  pub called : CalledInRuns (sort_calls p.header) (sort_run p.header) (q.counts x) (q.counts y)
  pub most : t.most + ((q.counts x).blocks + parts_size p)
      ≤ max (s.most + ((q.counts x).blocks + parts_size p))
      (s.used + ((q.counts y).most + sort_peak s p))
  pub moves : t.moves + (q.counts x).spent ≤ s.moves + (q.counts y).spent + sort_moves s p

-- A graph was made beside the queue, by calls of which none was refused.
pub record BuildsBeside {Q : Type 0} (q : QueueGhosts Q) (x y : Q) (s t : RigState) (p : Parts)
    (g : Graph) : Type 0 where
  pub runs : RunsBeside (sort_calls p.header) (sort_peak s p) (q.blocks x s ++ lists_blocks s p)
      (q.blocks y t ++ graph_lists t g) (stored_account (parts_size p) (sort_moves s p))
      (stored_account (graph_size g) 0) (q.counts x) (q.counts y) s t
  pub in_runs : CalledInRuns (sort_calls p.header) (sort_run p.header) (q.counts x) (q.counts y)
  pub is : IsGraph t g
  pub header : g.header ≡ p.header
  pub straight_is : g.straight ≡ p.straight
  pub edges : g.edges.blocks ≡ edge_room s p
  pub gates : g.gates.blocks ≡ gate_room s p
  pub sources : g.sources.blocks ≡ source_room s p
  pub resets_are : g.resets ≡ p.resets
  pub resets_stay : ChainStays s t p.resets
  pub stands : IsTrue s.device.told → BuildsEach s t p g

-- No graph was made: a circuit's fault, or a call that gave up. All blocks are stored but two, and
-- as many as there are frames.
pub record BuildsNone {Q : Type 0} (q : QueueGhosts Q) (x y : Q) (s t : RigState) (p : Parts)
    (e : AigStop) : Type 0 where
  pub done : DoneUntil q x y s t p
  pub stops : StopsBuilding s p (Err e)
  pub cause : IfEmStop e (Cause s t)
  pub full : IfEmStop e (FullBeside q.room (parts_size p) (sort_peak s p) (q.counts x) (q.counts y).k s)
  pub pays : Pays (q.counts x).unstored (s.pool.shape.frames + 2) s t

-- what making it did, by the result
abbrev pub BuildsTo : {Q : Type 0} → QueueGhosts Q → Q → Q → RigState → RigState → Parts
    → Result Graph AigStop → Type 0
BuildsTo q x y s t p (Ok g) = BuildsBeside q x y s t p g
BuildsTo q x y s t p (Err e) = BuildsNone q x y s t p e
