-- The room of calls along a circuit's edges, if nothing but their arguments is in use at first.
use Rattle.std.specs.Prelude.{◌≡◌, ℕ, ◌+◌, ◌*◌, ◌<◌, ◌≤◌, max, IsTrue, None, Some, Result}
use Rattle.em_record.specs.Cost.{room}
use Rattle.em_record.specs.Shape.{ShapeNumbers}
use Rattle.em_space.specs.Queue.{QueueCounts}
use Rattle.em_space.specs.Rig.{IfFull, RigState}
use Rattle.em_space.specs.declared.fault.EmFault.{EmFault}
use Rattle.em_space.specs.declared.queue.Queue.{Ghosts as QueueGhosts}
use Rattle.em_chain.specs.Chain.{payload_in}
use Rattle.em_chain.specs.Counts.{ceiling}
use Rattle.em_chain.specs.declared.chain.Chain.{Chain}
use Rattle.em_queued.specs.Room.{FullBeside, StatedRoom}
use Rattle.em_tree_cost.specs.Shares.{tree_room}
use Rattle.aig_defs.specs.Begun.{circuit_size}
use Rattle.aig_defs.specs.declared.circuit.Header.{Header}
use Rattle.aig_text.specs.Ascii.{IfEm}
use Rattle.aig_text.specs.declared.parts.Parts.{Parts}
use Rattle.aig_text.specs.declared.stop.AigStop.{AigStop}
use Rattle.aig_edges.specs.Build.{parts_size}
use Rattle.aig_edges.specs.BuildGraph.{sort_peak, sort_run}
use Rattle.aig_edges.specs.declared.graph.Graph.{Graph}

-- a chain has at most two blocks more than its records need
abbrev pub IsShort : RigState → Chain → Type 0
IsShort s c = c.blocks ≤ ceiling c.count (payload_in s) + 2

-- the room of 2E records, for a circuit of size E
abbrev pub circuit_room : RigState → Header → ℕ
circuit_room s h = room s.pool.shape (2 * circuit_size h)

-- the queue states a room, which is at most that of a tree
abbrev pub IsTreeRoom : StatedRoom → ShapeNumbers → Type 0
IsTreeRoom None shape = ⊥
IsTreeRoom (Some f) shape = (k : ℕ) → f shape k ≤ tree_room shape k

-- Over a device that tells, all blocks in use are those of a queue and this many others. The queue's room is
-- at most that of a tree, and its k at most this number, as that of a queue that was never called.
pub record HoldsAllBlocks (room : StatedRoom) (k size : ℕ) (c : QueueCounts) (s : RigState)
    : Type 0 where
  pub told : IsTrue s.device.told
  pub room_is : IsTreeRoom room s.pool.shape
  pub few : c.k ≤ k
  pub used : s.used ≡ c.blocks + size

-- at no moment more blocks were in use than the circuit's room, or than before
abbrev pub IsInRoom : Header → RigState → RigState → Type 0
IsInRoom h s t = t.most ≤ max s.most (circuit_room s h)

-- It is full only if the circuit's room is more than all blocks.
pub record FullInRoom (h : Header) (s : RigState) (fault : EmFault) : Type 0 where
  pub is : IfFull fault (λ used. used < circuit_room s h)

-- The lists of a circuit's parts are short.
pub record AreShortParts (s : RigState) (p : Parts) : Type 0 where
  pub defs : IsShort s p.defs
  pub gates : IsShort s p.gates
  pub uses : IsShort s p.uses

-- When making the graph of a circuit's parts is full, over a device that tells, and how many blocks are in
-- use then: if the parts and the queue stand alone, at most the circuit's room.
pub record BuildsInRoom {Q : Type 0} (q : QueueGhosts Q) (c : QueueCounts) (s t : RigState) (p : Parts)
    (result : Result Graph AigStop) : Type 0 where
  pub full : IfEm result (FullBeside q.room (parts_size p) (sort_peak s p) c
      (max c.k (c.since + sort_run p.header)) s)
  pub alone : HoldsAllBlocks q.room (2 * circuit_size p.header) (p.resets.blocks + parts_size p) c s
      → AreShortParts s p
      → IsInRoom p.header s t × IfEm result (FullInRoom p.header s)
