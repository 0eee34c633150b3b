-- The room of making a sweeper and of sweeping, if nothing but a sweeper is in use at first.
use Rattle.std.specs.Prelude.{ℕ, ◌+◌, ◌*◌, ◌≤◌, Result, IfErr}
use Rattle.em_space.specs.Rig.{RigState}
use Rattle.em_space.specs.declared.fault.EmFault.{EmFault}
use Rattle.em_space.specs.declared.queue.Queue.{Ghosts}
use Rattle.em_chain.specs.Chain.{payload_in}
use Rattle.em_chain.specs.Counts.{ceiling}
use Rattle.aig_defs.specs.Begun.{circuit_size}
use Rattle.aig_edges.specs.Graph.{edge_count, ordered_size}
use Rattle.aig_edges.specs.Room.{FullInRoom, HoldsAllBlocks, IsInRoom, IsShort}
use Rattle.aig_edges.specs.declared.graph.Ordered.{Ordered}
use Rattle.aig_edges.specs.declared.stop.StepStop.{StepStop}
use Rattle.aig_edges.specs.declared.stop.StepStop.TheVariants as stop
use Rattle.aig_sweep.specs.Sweeper.{lists_size}
use Rattle.aig_sweep.specs.declared.sweeper.Sweeper.{Sweeper}

-- P of the fault, if a call on the rig gave up
abbrev pub IfStepEm : StepStop → (EmFault → Type 0) → Type 0
IfStepEm (stop.Fault kind place) P = Unit {0}
IfStepEm stop.Read P = Unit {0}
IfStepEm stop.Write P = Unit {0}
IfStepEm (stop.Em fault) P = P fault

-- if the edges are a short list, and they and the queue stand alone, then making a sweeper kept to the
-- circuit's room
abbrev pub BeginsInRoom : {T Q : Type 0} → Ghosts Q → RigState → RigState → Ordered → Q
    → Result T EmFault → Type 0
BeginsInRoom queue s t o q result =
    HoldsAllBlocks queue.room (2 * circuit_size o.header) (ordered_size o) (queue.counts q) s
    → IsShort s o.edges
    → IsInRoom o.header s t × IfErr result (FullInRoom o.header s)

-- The two lists of a sweeper's edges are short, as those that short edges are cut into.
pub record IsShortSweeper {Q : Type 0} (s : RigState) (e : Sweeper Q) : Type 0 where
  pub edges : e.given.blocks + e.gates.blocks ≤ ceiling (edge_count e.header) (payload_in s) + 3

-- a sweeper stands alone, whose queue's k is at most this number: all blocks in use are its own
abbrev pub SweepsAlone : {Q : Type 0} → Ghosts Q → ℕ → RigState → Sweeper Q → Type 0
SweepsAlone queue k s e = HoldsAllBlocks queue.room k (lists_size e) (queue.counts e.queue) s
