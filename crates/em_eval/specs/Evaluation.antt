-- An evaluation, from the circuit in the first slot over the steps of the stimulus in the second.
use Rattle.std.specs.Prelude.{◌≡◌, ℕ, ◌+◌, ◌-◌, ◌*◌, ◌<◌, ◌≤◌, ◌^◌, ◌⊎◌, Bool, Option, List, [], false, max, IsTrue, Some, None, Result, Ok, Err, OnOk, IfErr}
use Rattle.em_record.specs.Count.{Rose}
use Rattle.em_record.specs.Shape.{fan_of}
use Rattle.em_io.specs.Shelf.{Leaves, SlotState, Stand}
use Rattle.em_io.specs.Sink.{Sent, SentPart}
use Rattle.em_io.specs.declared.shelf.Shelf.{Ghosts as ShelfGhosts}
use Rattle.em_io.specs.declared.shelf.Slot.TheVariants.{First, Second}
use Rattle.em_io.specs.declared.sink.Sink.{Ghosts as SinkGhosts}
use Rattle.em_space.specs.Ledger.{Session}
use Rattle.em_space.specs.Queue.{Shares}
use Rattle.em_space.specs.Rig.{RigState, Cause, Goes, Sound, Touches}
use Rattle.em_space.specs.declared.queue.Queue.{Ghosts as QueueGhosts}
use Rattle.em_chain.specs.Chain.{payload_in}
use Rattle.em_chain.specs.Counts.{ceiling}
use Rattle.aig_defs.specs.declared.circuit.Gate.{Gate}
use Rattle.aig_defs.specs.Begun.{circuit_size}
use Rattle.aig_defs.specs.Circuit.{Circuit}
use Rattle.aig_defs.specs.Items.{Reads}
use Rattle.aig_defs.specs.Stimulus.{Stimulus, output_lines, steps_begun, stimulus_of}
use Rattle.aig_defs.specs.TextFault.{either_text, text_fault}
use Rattle.aig_defs.specs.Value.{run_from, run_of}
use Rattle.aig_edges.specs.Graph.{IsOrdered, IsOrderedOf, edge_count, ordered_blocks, ordered_size}
use Rattle.aig_edges.specs.Room.{IsInRoom}
use Rattle.aig_edges.specs.declared.graph.Ordered.{Ordered}
use Rattle.aig_sweep.specs.Room.{IsShortSweeper, SweepsAlone}
use Rattle.aig_sweep.specs.Scene.{KeepsFront}
use Rattle.aig_sweep.specs.Sweeper.{Evaluates, HasSweeperFrames, IsSweeper, sweeper_blocks}
use Rattle.aig_sweep.specs.declared.sweeper.Sweeper.{Sweeper}
use Rattle.aig_forward.specs.Step.{step_calls, step_moves, step_room}
use Rattle.aig_wide.specs.Group.{group_calls, group_moves, group_room}
use Rattle.aig_order.specs.OrderGraph.{OrdersCircuit}
use Rattle.em_eval.specs.EvalMoves.{circuit_moves, making_moves, rounds_moves}
use Rattle.em_eval.specs.EvalSize.{circuit_read, eval_room, given_of, passes_read}
use Rattle.em_ends.specs.Opens.{IsAllRead, ReadsFirst}
use Rattle.em_ready.specs.Ready.{IsReady}
use Rattle.em_ends.specs.Stop.{Faults, IfStopsFull, fault_counts, OnDue, UnlessWrite}
use Rattle.em_ends.specs.declared.status.Malform.TheVariants.{Text, Base, Aig}
use Rattle.em_ends.specs.declared.stop.Stop.{Stop}
use Rattle.em_ends.specs.declared.stop.Stop.TheVariants.{Fault, Read, Write, Em}

-- The text spells a circuit, whose header the edges have. If the device tells, it has no fault, and the
-- edges are those between its ranks by (pass, variable), with the number of its passes.
pub record SpellsEdges (start : Option ℕ) (told : Bool) (text : List ℕ) (t : RigState) (o : Ordered) : Type 0 where
  pub circuit : Circuit
  pub place : ℕ
  pub reads : either_text start 0 text ≡ Reads circuit place []
  pub header : circuit.header ≡ o.header
  pub orders : IsTrue told → OrdersCircuit t o circuit

-- Edges between ranks were made of the whole text, in a packed list beside that of the resets, and all
-- blocks were stored.
pub record MakesEdges (start : Option ℕ) {H : Type 0} (h : ShelfGhosts H) (s t : RigState) (shelf shelf_after : H)
    (o : Ordered) : Type 0 where
  pub is : IsOrdered t o
  pub blocks : Session [] s t (ordered_blocks t o)
  pub used : t.used ≡ ordered_size o
  pub packed : o.edges.blocks ≤ ceiling (edge_count o.header) (payload_in t)
  pub paid : (2 ^ 64 - 1 ≤ t.moves) ⊎ (t.used ≤ t.moves)
  pub spells : IsTrue h.tells
      → SpellsEdges start s.device.told ((h.stand shelf).slot First).left t o
  pub all_read : IsAllRead h.tells ((h.stand shelf_after).slot First)
  pub size : IsTrue h.tells → circuit_size o.header
      ≤ circuit_read start ((h.stand shelf_after).slot First) ((h.stand shelf).slot First).left

-- why no edges were made: the first fault of the text, if shelf and device tell; the shelf's count of
-- faults rose; or what a call on the rig says
abbrev pub CircuitCause : Option ℕ → Bool → List ℕ → Faults → Faults → RigState → RigState → Stop → Type 0
CircuitCause start tells text faults after old new (Fault (Text kind) line) = ⊥
CircuitCause start tells text faults after old new (Fault (Base kind) line) = ⊥
CircuitCause start tells text faults after old new (Fault (Aig kind) place) =
    IsTrue tells → IsTrue old.device.told → text_fault start text ≡ Some (kind, place)
CircuitCause start tells text faults after old new Read = Rose faults.read after.read
CircuitCause start tells text faults after old new Write = ⊥
CircuitCause start tells text faults after old new (Em fault) = Cause old new fault

-- What a full device says of an evaluation: its blocks are at most the moves and two for each frame,
-- unless the count of moves stands at its end.
pub record FillsEval (new : RigState) (used : ℕ) : Type 0 where
  pub paid : (2 ^ 64 - 1 ≤ new.moves) ⊎ (used ≤ new.moves + 2 * new.pool.shape.frames)

-- No edges were made. If shelf and device tell, the device is full only if it has fewer blocks than the room of
-- what was read.
pub record StopsCircuit (start : Option ℕ) {H : Type 0} (h : ShelfGhosts H) (s t : RigState) (shelf shelf_after : H)
    (stop : Stop) : Type 0 where
  pub cause : CircuitCause start h.tells ((h.stand shelf).slot First).left
      (fault_counts (h.faults shelf) 0) (fault_counts (h.faults shelf_after) 0) s t stop
  pub full : IfStopsFull stop (FillsEval t)
  pub room : IsTrue h.tells → IsTrue s.device.told → IfStopsFull stop (λ used. used < eval_room s.pool.shape
      (circuit_read start ((h.stand shelf_after).slot First) ((h.stand shelf).slot First).left))

abbrev pub AnswersCircuit : Option ℕ → {H : Type 0} → ShelfGhosts H → RigState → RigState → H → H
    → Result Ordered Stop → Type 0
AnswersCircuit start h s t shelf shelf_after (Ok o) = MakesEdges start h s t shelf shelf_after o
AnswersCircuit start h s t shelf shelf_after (Err stop) = StopsCircuit start h s t shelf shelf_after stop

-- The circuit in the first slot was read, as far as the answer says, and nothing else of the shelf. At
-- every end the moves are those of a circuit of the size that was read, and at no moment more blocks were in use
-- than its room, if none was before.
pub record ReadsCircuit (start : Option ℕ) {H : Type 0} (h : ShelfGhosts H) (s t : RigState) (shelf shelf_after : H)
    (result : Result Ordered Stop) : Type 0 where
  pub answers : AnswersCircuit start h s t shelf shelf_after result
  pub moves : IsTrue h.tells → IsTrue s.device.told → t.moves ≤ s.moves + circuit_moves s.pool.shape
      (circuit_read start ((h.stand shelf_after).slot First) ((h.stand shelf).slot First).left)
      (passes_read start ((h.stand shelf).slot First).left)
  pub most : IsTrue h.tells → IsTrue s.device.told → t.most ≤ eval_room s.pool.shape
      (circuit_read start ((h.stand shelf_after).slot First) ((h.stand shelf).slot First).left)
  pub reads : ReadsFirst h.tells (h.stand shelf) (h.stand shelf_after)
  pub later : h.faults shelf ≤ h.faults shelf_after

-- Of the shelf only the second slot was read; whether it is lost didn't change.
pub record ReadsSecond (tells : Bool) (old new : Stand) : Type 0 where
  pub leaves : Leaves Second old new
  pub opened : (new.slot Second).opened ≡ (old.slot Second).opened
  pub ready : (new.slot Second).ready ≡ (old.slot Second).ready
  pub lost : IsTrue tells → (new.slot Second).lost ≡ (old.slot Second).lost

-- the fault with which steps ended, if it was one of the stimulus
abbrev pub EndsSteps : Stimulus → Result (Unit {0}) Stop → Type 0
EndsSteps stimulus (Ok u) = stimulus.fault ≡ None
EndsSteps stimulus (Err (Fault (Text kind) line)) = ⊥
EndsSteps stimulus (Err (Fault (Base kind) line)) = ⊥
EndsSteps stimulus (Err (Fault (Aig kind) place)) = stimulus.fault ≡ Some (kind, place)
EndsSteps stimulus (Err Read) = Unit {0}
EndsSteps stimulus (Err Write) = Unit {0}
EndsSteps stimulus (Err (Em fault)) = Unit {0}

-- What steps printed: all lines went out or are pending, if they ended as due; a front of them, unless
-- the output failed; and even then a front went out.
pub record PrintsLines (took : List ℕ → List ℕ → List ℕ) (lines old new pending : List ℕ)
    (result : Result (Unit {0}) Stop) : Type 0 where
  pub all : OnDue result (Sent took old lines new pending)
  pub front : UnlessWrite result (KeepsFront took old lines new pending)
  pub part : SentPart took old lines new

-- why steps stopped before they ended as due: a count of faults that rose, or what a call on the rig
-- says
abbrev pub StepsCause : Faults → Faults → RigState → RigState → Stop → Type 0
StepsCause faults after old new (Fault kind place) = Unit {0}
StepsCause faults after old new Read = Rose faults.read after.read
StepsCause faults after old new Write = Rose faults.write after.write
StepsCause faults after old new (Em fault) = Cause old new fault

-- An evaluation can begin: the blocks of these edges and resets, in packed lists, are all that is in use,
-- and were stored.
pub record CanBegin (s : RigState) (o : Ordered) : Type 0 where
  pub sound : Sound s
  pub is : IsOrdered s o
  pub ready : IsReady s.pool
  pub alone : s.used ≡ ordered_size o
  pub packed : o.edges.blocks ≤ ceiling (edge_count o.header) (payload_in s)
  pub paid : (2 ^ 64 - 1 ≤ s.moves) ⊎ (s.used ≤ s.moves)

-- An evaluator can make rounds. It has made no call of its queue, and all blocks in use are its own and
-- were stored, but those that its queue says.
pub record CanRunSteps {Q : Type 0} (queue : QueueGhosts Q) (s : RigState) (e : Sweeper Q)
    : Type 0 where
  pub sound : Sound s
  pub is : IsSweeper queue s e
  pub free : 2 * fan_of s.pool.shape + 10 ≤ s.pool.free
  pub areas : 1 ≤ s.pool.free_areas
  pub rack : s.pool.rack_out ≡ false
  pub new : (queue.counts e.queue).n ≡ 0
  pub alone : s.used
      ≡ (queue.counts e.queue).blocks + (e.given.blocks + (e.gates.blocks + e.state.blocks))
  pub paid : (2 ^ 64 - 1 ≤ s.moves) ⊎ (s.used ≤ s.moves + (queue.counts e.queue).unstored)

-- The numbers of a round of an evaluation, which is a step or a group: how many lines it reads at most, its
-- calls of the queue, and the blocks and moves beside the queue's.
pub record Round : Type 0 where
  pub lines : ℕ
  pub calls : ℕ
  pub room : ℕ
  pub moves : ℕ

-- a step reads a line
abbrev pub step_round : {Q : Type 0} → RigState → Sweeper Q → Round
step_round s e = record {
  lines = 1;
  calls = step_calls e.header;
  room = step_room s e;
  moves = step_moves s e;
}

-- a group reads up to 64
abbrev pub group_round : {Q : Type 0} → RigState → Sweeper Q → Round
group_round s e = record {
  lines = 64;
  calls = group_calls e.header;
  room = group_room s e;
  moves = group_moves s e;
}

-- how many steps were begun, by what is left of the second slot
abbrev pub steps_of : ℕ → List ℕ → SlotState → ℕ
steps_of inputs text slot = steps_begun inputs (given_of slot text) text

-- Rounds were begun, this many, and beside the queue's moves come those of so many rounds.
pub record RoundsMove {Q : Type 0} (queue : QueueGhosts Q) (s t : RigState) (e d : Sweeper Q)
    (round : Round) (rounds : ℕ) : Type 0 where
  pub some : 0 < rounds
  pub most : t.moves + (queue.counts e.queue).spent
      ≤ s.moves + (queue.counts d.queue).spent + rounds * round.moves

-- Steps over the stimulus in the second slot, a round of them at a time, from each state of a circuit that the
-- evaluator has. Between two moments at which its queue is empty come the calls of one round. Nothing is moved
-- before the first step is begun. If the evaluator stands alone, of short edges and with a queue that was never
-- called, at no moment more blocks were in use than the circuit's room, or than before, and the device is full only
-- if it has fewer blocks than that.
pub record PrintsSteps {H W Q : Type 0} (h : ShelfGhosts H) (w : SinkGhosts W) (queue : QueueGhosts Q)
    (round : Round) (s t : RigState) (e d : Sweeper Q) (shelf shelf_after : H) (out out_after : W)
    (pending : List ℕ) (result : Result (Unit {0}) Stop) : Type 0 where
  pub sound : Sound t
  pub touches : Touches (sweeper_blocks queue s e) s t
  pub frames : HasSweeperFrames queue t d
  pub shares : Shares (queue.counts e.queue) (queue.counts d.queue) s.pool t.pool
  pub reads : ReadsSecond h.tells (h.stand shelf) (h.stand shelf_after)
  pub read_later : h.faults shelf ≤ h.faults shelf_after
  pub write_later : w.faults out ≤ w.faults out_after
  pub ends : IsTrue h.tells
      → EndsSteps (stimulus_of e.header.inputs ((h.stand shelf).slot Second).left) result
  pub end : OnOk result (IsAllRead h.tells ((h.stand shelf_after).slot Second))
  pub prints : IsTrue h.tells → IsTrue s.device.told → (c : Circuit) (order : List Gate)
      (state : List Bool) → Evaluates queue s e c order state
      → PrintsLines w.took (output_lines (run_from c state
      (stimulus_of e.header.inputs ((h.stand shelf).slot Second).left).steps))
      (w.state out) (w.state out_after) pending result
  pub cause : IfErr result (StepsCause (fault_counts (h.faults shelf) (w.faults out))
      (fault_counts (h.faults shelf_after) (w.faults out_after)) s t)
  pub called : IsTrue h.tells → (queue.counts d.queue).n ≤ round.calls
      * ceiling (steps_of e.header.inputs ((h.stand shelf).slot Second).left
      ((h.stand shelf_after).slot Second)) round.lines
  pub run : (queue.counts d.queue).k ≤ max (queue.counts e.queue).k round.calls
  pub moves : IsTrue h.tells → (t.moves ≤ s.moves) ⊎ RoundsMove queue s t e d round
      (ceiling (steps_of e.header.inputs ((h.stand shelf).slot Second).left
      ((h.stand shelf_after).slot Second)) round.lines)
  pub paid : (2 ^ 64 - 1 ≤ t.moves) ⊎ (t.used ≤ t.moves + 2 * t.pool.shape.frames)
  pub most : SweepsAlone queue 0 s e → IsShortSweeper s e → IsInRoom e.header s t
  pub room : SweepsAlone queue 0 s e → IsShortSweeper s e → IfErr result (λ stop.
      IfStopsFull stop (λ used. used < eval_room s.pool.shape (circuit_size e.header)))

-- All lines went out, if steps ended as due; and in any case a front of them.
pub record PrintsAll (took : List ℕ → List ℕ → List ℕ) (lines old new : List ℕ)
    (result : Result (Unit {0}) Stop) : Type 0 where
  pub all : OnDue result (new ≡ took old lines)
  pub part : SentPart took old lines new

-- An evaluation by these edges, which are all that is on the rig: as `PrintsSteps`, with nothing pending,
-- for a circuit in any order of its gates, from the state in which each latch has its reset. At every end the
-- moves are those of making an evaluator, and of the rounds of the steps that were begun: of one step each, or
-- of up to 64 if it is wide. If the device tells, at no moment more blocks were in use than the circuit's room, or
-- than before, and it is full only if it has fewer blocks than that.
pub record RunsSteps {H W : Type 0} (wide : Bool) (h : ShelfGhosts H) (w : SinkGhosts W) (s t : RigState)
    (o : Ordered) (shelf shelf_after : H) (out out_after : W) (result : Result (Unit {0}) Stop)
    : Type 0 where
  pub goes : Goes (ordered_blocks s o) s t
  pub reads : ReadsSecond h.tells (h.stand shelf) (h.stand shelf_after)
  pub read_later : h.faults shelf ≤ h.faults shelf_after
  pub write_later : w.faults out ≤ w.faults out_after
  pub ends : IsTrue h.tells
      → EndsSteps (stimulus_of o.header.inputs ((h.stand shelf).slot Second).left) result
  pub end : OnOk result (IsAllRead h.tells ((h.stand shelf_after).slot Second))
  pub prints : IsTrue h.tells → IsTrue s.device.told → (c : Circuit) (order : List Gate)
      → IsOrderedOf s o c order → PrintsAll w.took (output_lines (run_of c
      (stimulus_of o.header.inputs ((h.stand shelf).slot Second).left).steps))
      (w.state out) (w.state out_after) result
  pub cause : IfErr result (StepsCause (fault_counts (h.faults shelf) (w.faults out))
      (fault_counts (h.faults shelf_after) (w.faults out_after)) s t)
  pub full : IfErr result (λ stop. IfStopsFull stop (FillsEval t))
  pub most : IsTrue s.device.told → IsInRoom o.header s t
  pub room : IsTrue s.device.told → IfErr result (λ stop.
      IfStopsFull stop (λ used. used < eval_room s.pool.shape (circuit_size o.header)))
  pub moves : IsTrue h.tells → IsTrue s.device.told
      → t.moves ≤ s.moves + (making_moves s.pool.shape (circuit_size o.header)
      + rounds_moves wide s.pool.shape (circuit_size o.header)
      (steps_of o.header.inputs ((h.stand shelf).slot Second).left
      ((h.stand shelf_after).slot Second)))
