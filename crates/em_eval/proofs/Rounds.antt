-- What a round of an evaluation says, whether it is a step or a group: what it read, printed and cost, by cases
-- on how it ended. It ends with the number of its lines, or with none at the stimulus's end, or stops.
use Rattle.std.proofs.Common.{◌≡◌, ℕ, ◌+◌, ◌<◌, ◌≤◌, ◌^◌, Bool, List, [], ◌++◌, IsTrue, Option, Some, None, Result, Ok, Err}
use Rattle.std.specs.Prelude.{IfErr, OnOk}
use Rattle.em_io.specs.Sink.{Sent, SentPart}
use Rattle.em_frames.specs.Pool.{PoolCounts}
use Rattle.em_space.specs.Rig.{RigState}
use Rattle.em_space.specs.declared.queue.Queue.{Ghosts as QueueGhosts}
use Rattle.em_queued.specs.Queued.{RunsBeside}
use Rattle.aig_defs.specs.Circuit.{Circuit}
use Rattle.aig_defs.specs.Stimulus.{begun_from}
use Rattle.aig_defs.specs.declared.circuit.Gate.{Gate}
use Rattle.aig_defs.specs.declared.fault.AigKind.{AigKind}
use Rattle.aig_text.specs.Reads.{Advances}
use Rattle.aig_text.specs.Source.{Source, left}
use Rattle.aig_edges.specs.Graph.{CanBuild}
use Rattle.aig_edges.specs.Room.{FullInRoom, IsInRoom}
use Rattle.aig_edges.specs.declared.stop.StepStop.{StepStop}
use Rattle.aig_edges.specs.declared.stop.StepStop.TheVariants as stop
use Rattle.aig_sweep.specs.Lists.{lists_account}
use Rattle.aig_sweep.specs.Room.{IfStepEm, IsShortSweeper, SweepsAlone}
use Rattle.aig_sweep.specs.Scene.{ActsAfterByte, EndsText, IsQuiet, Keeps, KeepsFront, Scene, StepCause}
use Rattle.aig_sweep.specs.Sweeper.{Evaluates, Halted, IsSweeper, lists_size, sweeper_blocks}
use Rattle.aig_sweep.specs.declared.sweeper.Sweeper.{Sweeper}
use Rattle.aig_wide.specs.Group.{after_steps, stimulus_at}
use Rattle.em_eval.specs.Evaluation.{Round}
use Rattle.em_ends.specs.Stop.{step_stop}
use Rattle.em_ends.specs.declared.stop.Stop.{Stop}
use Rattle.em_eval.proofs.Stepping.{lines_from, lines_next, state_after}

-- The frames of a round are free, and few calls of the queue came.
pub record CanRound {Q : Type 0} (queue : QueueGhosts Q) (p : PoolCounts) (e : Sweeper Q)
    (calls : ℕ) : Type 0 where
  pub free : CanBuild p
  pub few : (queue.counts e.queue).n + calls < 2 ^ 100

-- Lines were read whole: this many, fewer than `lines` only if nothing is left.
pub record TakesRound (lines inputs : ℕ) (old new : Source) (count : ℕ) (bits : List (List Bool))
    : Type 0 where
  pub some : left old ≡ [] → ⊥
  pub low : 0 < count
  pub high : count ≤ lines
  pub steps : stimulus_at inputs old ≡ after_steps bits (stimulus_at inputs new)
  pub last : count < lines → left new ≡ []
  pub begun : (given : ℕ) → new.feed.place ≤ given
      → begun_from inputs given old.feed.place (left old)
      ≡ count + begun_from inputs given new.feed.place (left new)

-- Lines were read whole, and the next one has this fault.
abbrev pub FaultsIn : ℕ → Source → AigKind → ℕ → List (List Bool) → Type 0
FaultsIn inputs old kind place bits =
    stimulus_at inputs old ≡ record { steps = bits; fault = Some (kind, place) }

-- The answer is as the stimulus says, unless the shelf, the sink or the rig failed first.
abbrev pub FollowsRound : ℕ → ℕ → Source → Source → Result (Option ℕ) StepStop → Type 0
FollowsRound lines inputs old new (Ok (Some count)) =
    (bits : List (List Bool)) × TakesRound lines inputs old new count bits
FollowsRound lines inputs old new (Ok None) = EndsText old new
FollowsRound lines inputs old new (Err (stop.Fault kind place)) =
    (bits : List (List Bool)) × FaultsIn inputs old kind place bits
FollowsRound lines inputs old new (Err stop.Read) = Unit {0}
FollowsRound lines inputs old new (Err stop.Write) = Unit {0}
FollowsRound lines inputs old new (Err (stop.Em fault)) = Unit {0}

-- Lines were read, those of their columns went out or are pending, and the latches changed.
pub record PrintsRound {Q : Type 0} (queue : QueueGhosts Q) (took : List ℕ → List ℕ → List ℕ)
    (c : Circuit) (order : List Gate) (state : List Bool) (old new : Scene Q) : Type 0 where
  pub bits : List (List Bool)
  pub steps : stimulus_at c.header.inputs old.text
      ≡ after_steps bits (stimulus_at c.header.inputs new.text)
  pub sent : Sent took old.taken (old.pending ++ lines_from c state bits) new.taken new.pending
  pub next : Evaluates queue new.rig new.evaluator c order (state_after c state bits)

-- A line has a fault, and exactly the lines before it were printed.
pub record FaultsRound {Q : Type 0} (took : List ℕ → List ℕ → List ℕ) (c : Circuit)
    (state : List Bool) (old new : Scene Q) (kind : AigKind) (place : ℕ) : Type 0 where
  pub bits : List (List Bool)
  pub lines : FaultsIn c.header.inputs old.text kind place bits
  pub sent : Sent took old.taken (old.pending ++ lines_from c state bits) new.taken new.pending

-- what a round of this circuit, from this state, did
abbrev pub AnswersRound : {Q : Type 0} → QueueGhosts Q → (List ℕ → List ℕ → List ℕ) → ℕ → Circuit
    → List Gate → List Bool → Scene Q → Scene Q → Result (Option ℕ) StepStop → Type 0
AnswersRound queue took lines c order state old new (Ok (Some count)) =
    PrintsRound queue took c order state old new
AnswersRound queue took lines c order state old new (Ok None) = IsQuiet old new
AnswersRound queue took lines c order state old new (Err (stop.Fault kind place)) =
    FaultsRound took c state old new kind place
AnswersRound queue took lines c order state old new (Err stop.Read) =
    KeepsFront took old.taken (old.pending ++ lines_next lines c state old.text) new.taken new.pending
AnswersRound queue took lines c order state old new (Err stop.Write) =
    SentPart took old.taken (old.pending ++ lines_next lines c state old.text) new.taken
AnswersRound queue took lines c order state old new (Err (stop.Em fault)) =
    KeepsFront took old.taken (old.pending ++ lines_next lines c state old.text) new.taken new.pending

-- What a round cost. After lines all blocks of the chains are stored, and they are as many as before. At the
-- stimulus's end nothing was done. After a stop as many blocks as there are frames, and one more, may not be
-- stored.
abbrev pub RoundCosts : {Q : Type 0} → QueueGhosts Q → Round → RigState → RigState → Sweeper Q
    → Sweeper Q → Result (Option ℕ) StepStop → Type 0
RoundCosts queue round s t e f (Ok (Some count)) =
    RunsBeside round.calls round.room (sweeper_blocks queue s e) (sweeper_blocks queue t f)
    (lists_account (lists_size e) round.moves) (lists_account (lists_size e) 0)
    (queue.counts e.queue) (queue.counts f.queue) s t
RoundCosts queue round s t e f (Ok None) = (t ≡ s) × (f ≡ e)
RoundCosts queue round s t e f (Err stopped) =
    Halted round.calls round.room 1 (sweeper_blocks queue s e)
    (lists_account (lists_size e) round.moves) (queue.counts e.queue) (queue.counts f.queue) s t

-- P, if lines were printed
abbrev pub IfLines : Result (Option ℕ) StepStop → Type 0 → Type 0
IfLines (Ok (Some count)) P = P
IfLines (Ok None) P = Unit {0}
IfLines (Err e) P = Unit {0}

-- it printed no line
abbrev pub IsLast : Result (Option ℕ) StepStop → Type 0
IsLast (Ok (Some count)) = ⊥
IsLast (Ok None) = Unit {0}
IsLast (Err stopped) = Unit {0}

-- the result of the loop, by that of the last round
abbrev pub result_of : Result (Option ℕ) StepStop → Result (Unit {0}) Stop
result_of (Ok end) = Ok tt
result_of (Err stopped) = Err (step_stop stopped)

-- What a round says, with the sink's counts of faults before and after it.
pub record RoundSays {Q : Type 0} (queue : QueueGhosts Q) (round : Round)
    (took : List ℕ → List ℕ → List ℕ) (tells : Bool) (old new : Scene Q) (faults after : ℕ)
    (r : Result (Option ℕ) StepStop) : Type 0 where
  pub keeps : Keeps queue new.rig old.evaluator new.evaluator
  pub is : OnOk r (IsSweeper queue new.rig new.evaluator)
  pub reads : Advances tells old.text new.text
  pub costs : RoundCosts queue round old.rig new.rig old.evaluator new.evaluator r
  pub follows : IsTrue tells
      → FollowsRound round.lines old.evaluator.header.inputs old.text new.text r
  pub prints : IsTrue tells → IsTrue old.rig.device.told → (c : Circuit) (order : List Gate)
      (state : List Bool) → Evaluates queue old.rig old.evaluator c order state
      → AnswersRound queue took round.lines c order state old new r
  pub later : faults ≤ after
  pub cause : IfErr r (StepCause old.text.faults new.text.faults faults after old.rig new.rig)
  pub further : IfLines r (old.text.feed.place < new.text.feed.place)
  pub idle : IfErr r (λ stopped. ActsAfterByte old.rig new.rig old.evaluator new.evaluator
      old.text.feed.place new.text.feed.place)
  pub most : SweepsAlone queue round.calls old.rig old.evaluator → IsShortSweeper old.rig old.evaluator
      → IsInRoom old.evaluator.header old.rig new.rig
  pub room : SweepsAlone queue round.calls old.rig old.evaluator → IsShortSweeper old.rig old.evaluator
      → IfErr r (λ stopped. IfStepEm stopped (FullInRoom old.evaluator.header old.rig))
