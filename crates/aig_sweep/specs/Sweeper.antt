-- A sweeper, which is a circuit whose edges can be swept, as it stands on a rig, and what making and ending it do.
use Rattle.std.specs.Prelude.{◌≡◌, ◌<◌, ◌≤◌, ℕ, ◌+◌, ◌*◌, Bool, List, [], ◌++◌, All, IsTrue, IfSome, max, Result, Ok, Err}
use Rattle.em_record.specs.declared.record.Record.{Record}
use Rattle.em_space.specs.Held.{Holds}
use Rattle.em_space.specs.Queue.{ending_most, Pays, QueueCounts, Shares}
use Rattle.em_space.specs.Rig.{RigState, Sound, Touches, Cause}
use Rattle.em_space.specs.declared.fault.EmFault.{EmFault}
use Rattle.em_space.specs.declared.queue.Queue.{Ghosts}
use Rattle.em_chain.specs.Chain.{IsChain, chain_items}
use Rattle.em_space.specs.Ledger.{Account}
use Rattle.em_queued.specs.Queued.{Called, RunsBeside}
use Rattle.em_queued.specs.Room.{FullBeside}
use Rattle.aig_defs.specs.Circuit.{Circuit, IsHeader, resets}
use Rattle.aig_defs.specs.Ranks.{IsOrder, ordered_edges}
use Rattle.aig_defs.specs.declared.circuit.Gate.{Gate}
use Rattle.aig_text.specs.Draft.{chains_blocks}
use Rattle.aig_edges.specs.Graph.{IsOrderedOf, edge_count, ordered_blocks, ordered_size}
use Rattle.aig_edges.specs.declared.graph.Ordered.{Ordered}
use Rattle.aig_sweep.specs.Bits.{bits_of}
use Rattle.aig_sweep.specs.Lists.{begin_moves, begin_room, latch_room, lists_account, sizes}
use Rattle.aig_sweep.specs.declared.sweeper.Sweeper.{Sweeper}
use Rattle.aig_words.specs.Words.{lane}

-- the blocks of a sweeper's three chains: its state, the edges from ranks whose words are given,
-- and those from gates
abbrev pub lists_blocks : {Q : Type 0} → RigState → Sweeper Q → List ℕ
lists_blocks s e = chains_blocks s e.state e.given e.gates

-- how many they are
abbrev pub lists_size : {Q : Type 0} → Sweeper Q → ℕ
lists_size e = sizes e.state e.given e.gates

-- the blocks of a sweeper: those of its queue and of its chains
abbrev pub sweeper_blocks : {Q : Type 0} → Ghosts Q → RigState → Sweeper Q → List ℕ
sweeper_blocks queue s e = queue.blocks e.queue s ++ lists_blocks s e

-- A sweeper between two steps. Its queue has no item. Its chains have as many records as the
-- header says, and all blocks are apart. Of a device that doesn't tell, the numbers alone.
pub record IsSweeper {Q : Type 0} (queue : Ghosts Q) (s : RigState) (e : Sweeper Q)
    : Type 0 where
  pub header : IsHeader e.header
  pub given : IsChain s e.given
  pub gates : IsChain s e.gates
  pub edges : e.given.count + e.gates.count ≡ edge_count e.header
  pub state : IsChain s e.state
  pub latches : e.state.count ≡ e.header.latches
  pub state_blocks : e.state.blocks ≡ latch_room e.header s
  pub is : queue.IsQueue e.queue s
  pub empty : (queue.counts e.queue).len ≡ 0
  pub holds : IsTrue s.device.told → Holds s (sweeper_blocks queue s e)

-- The frames of a sweeper are the pool's: what is left to ask after a stop. Its chains have
-- none.
pub record HasSweeperFrames {Q : Type 0} (queue : Ghosts Q) (s : RigState) (e : Sweeper Q)
    : Type 0 where
  pub is : queue.HasItsFrames e.queue s

-- It evaluates this circuit, with its gates in this order, and its latches have these bits, in lane 0 of
-- their words. The edges are cut before the first one that comes from a gate.
pub record Evaluates {Q : Type 0} (queue : Ghosts Q) (s : RigState) (e : Sweeper Q)
    (c : Circuit) (order : List Gate) (state : List Bool) : Type 0 where
  pub header : c.header ≡ e.header
  pub order_is : IsOrder c order
  pub edges : chain_items s e.given ++ chain_items s e.gates ≡ ordered_edges c order
  pub low : All (λ (x : Record). x.a ≤ e.header.inputs + e.header.latches) (chain_items s e.given)
  pub high : All (λ (x : Record). e.header.inputs + e.header.latches < x.a) (chain_items s e.gates)
  pub bits : bits_of (lane 0 (chain_items s e.state)) ≡ state
  pub none : queue.items e.queue s ≡ []

-- the numbers of a queue whose frames are back
abbrev pub without_frames : QueueCounts → QueueCounts
without_frames c = record c { frames = 0; areas = 0 }

-- Calls of a queue and beside it stopped, for whatever reason: at most this many calls, with at
-- most `peak` blocks at once beside the queue's, and `unstored` blocks more that aren't stored.
pub record Halted (calls peak unstored : ℕ) (held : List ℕ) (a : Account) (c d : QueueCounts)
    (first now : RigState) : Type 0 where
  pub sound : Sound now
  pub touches : Touches held first now
  pub frames : Shares c d first.pool now.pool
  pub called : Called calls c d
  pub most : now.most + (c.blocks + a.blocks)
      ≤ max (first.most + (c.blocks + a.blocks)) (first.used + (d.most + peak))
  pub moves : now.moves + (c.spent + a.paid) ≤ first.moves + (a.owed + d.spent)
  pub pays : Pays (c.unstored + a.unstored) (first.pool.shape.frames + unstored) first now

-- A sweeper was made over a queue, of which no call came.
pub record BeginsSweeper {Q : Type 0} (queue : Ghosts Q) (s t : RigState) (o : Ordered) (q : Q)
    (e : Sweeper Q) : Type 0 where
  pub is : IsSweeper queue t e
  pub header : e.header ≡ o.header
  pub queue_is : e.queue ≡ q
  pub size : lists_size e ≤ begin_room o
  pub runs : RunsBeside 0 (begin_room o) (queue.blocks q s ++ ordered_blocks s o)
      (sweeper_blocks queue t e) (lists_account (ordered_size o) (begin_moves o))
      (lists_account (lists_size e) 0) (queue.counts q) (queue.counts q) s t

-- It wasn't made: the queue's frames are back, and blocks stay in use.
pub record FailsToBegin {Q : Type 0} (queue : Ghosts Q) (s t : RigState) (o : Ordered) (q : Q)
    (fault : EmFault) : Type 0 where
  pub halted : Halted 0 (begin_room o) 1 (queue.blocks q s ++ ordered_blocks s o)
      (lists_account (ordered_size o) (begin_moves o)) (queue.counts q)
      (without_frames (queue.counts q)) s t
  pub cause : Cause s t fault
  pub full : FullBeside queue.room (ordered_size o) (begin_room o) (queue.counts q) (queue.counts q).k s
      fault

abbrev pub BeginsTo : {Q : Type 0} → Ghosts Q → RigState → RigState → Ordered → Q
    → Result (Sweeper Q) EmFault → Type 0
BeginsTo queue s t o q (Ok e) = BeginsSweeper queue s t o q e
BeginsTo queue s t o q (Err fault) = FailsToBegin queue s t o q fault

-- Each latch has its reset at first, in each circuit that the edges stand for.
abbrev pub BeginsFor : {Q : Type 0} → Ghosts Q → RigState → RigState → Ordered → Sweeper Q
    → Type 0
BeginsFor queue s t o e = (c : Circuit) (order : List Gate) → IsOrderedOf s o c order
    → Evaluates queue t e c order (resets c.latches)

-- A sweeper was used up, whether its end gave up or not: the queue's frames are back, and only
-- its own blocks may have changed. Over a device that tells its moves are two a block of its chains
-- beside what the queue is allowed.
pub record EndsSweeper {Q : Type 0} (queue : Ghosts Q) (s t : RigState) (e : Sweeper Q) :
    Type 0 where
  pub sound : Sound t
  pub touches : Touches (sweeper_blocks queue s e) s t
  pub frames : Shares (queue.counts e.queue) (without_frames (queue.counts e.queue)) s.pool t.pool
  pub spent : IsTrue s.device.told → IfSome queue.allowance (λ f.
      (queue.counts e.queue).spent + t.moves
      ≤ s.moves + f s.pool.shape (queue.counts e.queue).n (queue.counts e.queue).k
      + 2 * lists_size e)
  pub most : IsTrue s.device.told → t.most + (queue.counts e.queue).blocks
      ≤ max (s.most + (queue.counts e.queue).blocks)
      (s.used + ending_most queue.room s.pool.shape (queue.counts e.queue))

-- what its end did to blocks in use: all of its own are released, and after a fault as many blocks
-- as there are frames may not be stored
abbrev pub EndsTo : {Q : Type 0} → Ghosts Q → RigState → RigState → Sweeper Q
    → Result (Unit {0}) EmFault → Type 0
EndsTo queue s t e (Ok x) =
    (t.used + ((queue.counts e.queue).blocks + lists_size e) ≡ s.used)
    × Pays (queue.counts e.queue).unstored 0 s t
EndsTo queue s t e (Err fault) =
    Pays (queue.counts e.queue).unstored s.pool.shape.frames s t × Cause s t fault
