-- A call on an evaluator at two moments: what it read, printed and kept, and why it stopped.
use Rattle.std.specs.Prelude.{◌≡◌, ◌<◌, ◌≤◌, ℕ, ◌⊎◌, List, [], ◌++◌}
use Rattle.em_record.specs.Count.{Rose}
use Rattle.em_io.specs.Sink.{Sent}
use Rattle.em_space.specs.Rig.{RigState, Cause}
use Rattle.em_space.specs.declared.queue.Queue.{Ghosts}
use Rattle.aig_text.specs.Source.{Source, left}
use Rattle.aig_edges.specs.declared.stop.StepStop.{StepStop}
use Rattle.aig_edges.specs.declared.stop.StepStop.TheVariants as stop
use Rattle.aig_sweep.specs.Sweeper.{HasSweeperFrames}
use Rattle.aig_sweep.specs.declared.sweeper.Sweeper.{Sweeper}

-- A call at one moment: the rig, what the evaluator holds, the stimulus, what the sink has taken, and what the
-- printer holds back.
pub record Scene (Q : Type 0) : Type 0 where
  pub rig : RigState
  pub evaluator : Sweeper Q
  pub text : Source
  pub taken : List ℕ
  pub pending : List ℕ

abbrev pub scene : {Q : Type 0} → RigState → Sweeper Q → Source → List ℕ → List ℕ → Scene Q
scene rig evaluator text taken pending = record {
  rig = rig;
  evaluator = evaluator;
  text = text;
  taken = taken;
  pending = pending;
}

-- The edges and the header are what they were, and the queue's frames are the pool's.
pub record Keeps {Q : Type 0} (queue : Ghosts Q) (t : RigState) (e f : Sweeper Q) : Type 0 where
  pub header : f.header ≡ e.header
  pub given : f.given ≡ e.given
  pub gates : f.gates ≡ e.gates
  pub frames : HasSweeperFrames queue t f

-- Nothing was left, and nothing was taken.
pub record EndsText (old new : Source) : Type 0 where
  pub none_left : left old ≡ []
  pub left_is : left new ≡ []
  pub place : new.feed.place ≡ old.feed.place

-- Nothing was printed.
pub record IsQuiet {Q : Type 0} (old new : Scene Q) : Type 0 where
  pub taken : new.taken ≡ old.taken
  pub pending : new.pending ≡ old.pending

-- Of these bytes a front went out or is pending.
pub record KeepsFront (took : List ℕ → List ℕ → List ℕ) (old bytes new pending : List ℕ)
    : Type 0 where
  pub front : List ℕ
  pub behind : List ℕ
  pub all : front ++ behind ≡ bytes
  pub sent : Sent took old front new pending

-- the evaluator is what it was, and no block was moved, unless a byte of the stimulus was taken
abbrev pub ActsAfterByte : {Q : Type 0} → RigState → RigState → Sweeper Q → Sweeper Q → ℕ → ℕ
    → Type 0
ActsAfterByte s t e f place later = ((f ≡ e) × (t.moves ≤ s.moves)) ⊎ (place < later)

-- Why a call stopped: the shelf's or the sink's count of faults rose, or a call on the rig gave up.
abbrev pub StepCause : ℕ → ℕ → ℕ → ℕ → RigState → RigState → StepStop → Type 0
StepCause shelf shelf_after sink sink_after s t (stop.Fault kind place) = Unit {0}
StepCause shelf shelf_after sink sink_after s t stop.Read = Rose shelf shelf_after
StepCause shelf shelf_after sink sink_after s t stop.Write = Rose sink sink_after
StepCause shelf shelf_after sink sink_after s t (stop.Em fault) = Cause s t fault
