-- What a step of an evaluator does, and what it costs.
use Rattle.std.specs.Prelude.{◌≡◌, ◌<◌, ℕ, ◌+◌, ◌*◌, ◌^◌, Bool, List, [], ◌++◌, Result, Ok, Err}
use Rattle.em_io.specs.Sink.{Sent, SentPart}
use Rattle.em_frames.specs.Pool.{PoolCounts}
use Rattle.em_space.specs.Ledger.{Account}
use Rattle.em_space.specs.Rig.{RigState}
use Rattle.em_space.specs.declared.queue.Queue.{Ghosts}
use Rattle.em_queued.specs.Queued.{RunsBeside}
use Rattle.aig_defs.specs.Circuit.{Circuit}
use Rattle.aig_defs.specs.Items.{Reading, Reads, Fails}
use Rattle.aig_defs.specs.Stimulus.{output_line, stimulus_line}
use Rattle.aig_defs.specs.Value.{step_of}
use Rattle.aig_defs.specs.declared.circuit.Gate.{Gate}
use Rattle.aig_defs.specs.declared.circuit.Header.{Header}
use Rattle.aig_defs.specs.declared.fault.AigKind.{AigKind}
use Rattle.aig_text.specs.Source.{Source, left}
use Rattle.aig_edges.specs.Graph.{CanBuild, edge_count}
use Rattle.aig_edges.specs.declared.stop.StepStop.{StepStop}
use Rattle.aig_edges.specs.declared.stop.StepStop.TheVariants as stop
use Rattle.aig_sweep.specs.Sweeper.{Evaluates, Halted, lists_size, sweeper_blocks}
use Rattle.aig_sweep.specs.Lists.{input_room, latch_room, lists_account}
use Rattle.aig_sweep.specs.Scene.{EndsText, IsQuiet, KeepsFront, Scene}
use Rattle.aig_sweep.specs.declared.sweeper.Sweeper.{Sweeper}
use Rattle.aig_forward.specs.declared.step_end.StepEnd.{StepEnd}
use Rattle.aig_forward.specs.declared.step_end.StepEnd.TheVariants.{Printed, End}

-- The frames of a step are free, and few calls of the queue came.
pub record CanStep {Q : Type 0} (queue : Ghosts Q) (p : PoolCounts) (e : Sweeper Q) : Type 0 where
  pub free : CanBuild p
  pub few : (queue.counts e.queue).n + 2 * edge_count e.header < 2 ^ 100

-- the line of a stimulus that begins here
abbrev pub line_at : ℕ → Source → Reading (List Bool)
line_at inputs s = stimulus_line inputs s.feed.place (left s)

-- Something was left of the stimulus, and a whole line was taken.
pub record TakesLine (inputs : ℕ) (old new : Source) (bits : List Bool) : Type 0 where
  pub some : left old ≡ [] → ⊥
  pub reads : line_at inputs old ≡ Reads bits new.feed.place (left new)

-- A line begins here, and has this fault.
pub record FaultsLine (inputs : ℕ) (old : Source) (kind : AigKind) (place : ℕ) : Type 0 where
  pub some : left old ≡ [] → ⊥
  pub fails : line_at inputs old ≡ Fails kind place

-- The answer is as the stimulus says, unless the shelf, the sink or the rig failed first.
abbrev pub FollowsText : ℕ → Source → Source → Result StepEnd StepStop → Type 0
FollowsText inputs old new (Ok Printed) = (bits : List Bool) × TakesLine inputs old new bits
FollowsText inputs old new (Ok End) = EndsText old new
FollowsText inputs old new (Err (stop.Fault kind place)) = FaultsLine inputs old kind place
FollowsText inputs old new (Err stop.Read) = Unit {0}
FollowsText inputs old new (Err stop.Write) = (bits : List Bool) × TakesLine inputs old new bits
FollowsText inputs old new (Err (stop.Em fault)) = Unit {0}

-- the line that a step prints
abbrev pub line_of : Circuit → List Bool → List Bool → List ℕ
line_of c state bits = output_line (step_of c state bits).0

-- A line was read, the columns for its bits went out or are pending, and the latches changed.
pub record PrintsStep {Q : Type 0} (queue : Ghosts Q) (took : List ℕ → List ℕ → List ℕ)
    (c : Circuit) (order : List Gate) (state : List Bool) (old new : Scene Q) : Type 0 where
  pub bits : List Bool
  pub line : TakesLine c.header.inputs old.text new.text bits
  pub sent : Sent took old.taken (old.pending ++ line_of c state bits) new.taken new.pending
  pub next : Evaluates queue new.rig new.evaluator c order (step_of c state bits).1

-- Nothing was left of the stimulus, and nothing was done.
pub record EndsStep {Q : Type 0} (queue : Ghosts Q) (c : Circuit) (order : List Gate)
    (state : List Bool) (old new : Scene Q) : Type 0 where
  pub quiet : IsQuiet old new
  pub same : Evaluates queue new.rig new.evaluator c order state

-- The sink stopped it: of the line's columns a front went out, and nothing if the line has a fault, or if
-- nothing is left of the stimulus.
pub record StopsStep {Q : Type 0} (took : List ℕ → List ℕ → List ℕ) (c : Circuit)
    (state : List Bool) (old new : Scene Q) : Type 0 where
  pub part : (left old.text ≡ [] → ⊥) → (bits : List Bool) (place : ℕ) (rest : List ℕ)
      → line_at c.header.inputs old.text ≡ Reads bits place rest
      → SentPart took old.taken (old.pending ++ line_of c state bits) new.taken
  pub none : (kind : AigKind) (place : ℕ) → line_at c.header.inputs old.text ≡ Fails kind place
      → new.taken ≡ old.taken
  pub ended : left old.text ≡ [] → new.taken ≡ old.taken

-- The rig stopped it: of the line's columns a front went out or is pending, and nothing happened to the
-- output if the line has a fault, or if nothing is left of the stimulus.
pub record HaltsStep {Q : Type 0} (took : List ℕ → List ℕ → List ℕ) (c : Circuit)
    (state : List Bool) (old new : Scene Q) : Type 0 where
  pub front : (left old.text ≡ [] → ⊥) → (bits : List Bool) (place : ℕ) (rest : List ℕ)
      → line_at c.header.inputs old.text ≡ Reads bits place rest
      → KeepsFront took old.taken (old.pending ++ line_of c state bits) new.taken new.pending
  pub none : (kind : AigKind) (place : ℕ) → line_at c.header.inputs old.text ≡ Fails kind place
      → IsQuiet old new
  pub ended : left old.text ≡ [] → IsQuiet old new

-- P, if a line was printed
abbrev pub IfPrinted : Result StepEnd StepStop → Type 0 → Type 0
IfPrinted (Ok Printed) P = P
IfPrinted (Ok End) P = Unit {0}
IfPrinted (Err e) P = Unit {0}

-- what a step of this circuit, from this state, did
abbrev pub AnswersStep : {Q : Type 0} → Ghosts Q → (List ℕ → List ℕ → List ℕ) → Circuit → List Gate
    → List Bool → Scene Q → Scene Q → Result StepEnd StepStop → Type 0
AnswersStep queue took c order state old new (Ok Printed) =
    PrintsStep queue took c order state old new
AnswersStep queue took c order state old new (Ok End) = EndsStep queue c order state old new
AnswersStep queue took c order state old new (Err (stop.Fault kind place)) = IsQuiet old new
AnswersStep queue took c order state old new (Err stop.Read) = IsQuiet old new
AnswersStep queue took c order state old new (Err stop.Write) = StopsStep took c state old new
AnswersStep queue took c order state old new (Err (stop.Em fault)) = HaltsStep took c state old new

-- the most blocks of an evaluator's chains during a step: the edges, the bits of inputs and
-- latches, and the latches' next bits
abbrev pub step_room : {Q : Type 0} → RigState → Sweeper Q → ℕ
step_room s e =
    input_room e.header s + 2 * latch_room e.header s + (e.given.blocks + e.gates.blocks)

-- the moves of a step beside those of the queue: the edges are read, and lists of bits are written,
-- joined and taken
abbrev pub step_moves : {Q : Type 0} → RigState → Sweeper Q → ℕ
step_moves s e =
    e.given.blocks + e.gates.blocks + 4 * input_room e.header s + 4 * latch_room e.header s + 6

-- the account of an evaluator's chains before a step
abbrev pub step_account : {Q : Type 0} → RigState → Sweeper Q → Account
step_account s e = lists_account (lists_size e) (step_moves s e)

-- the calls of the queue in a step, at most: two for each edge
abbrev pub step_calls : Header → ℕ
step_calls h = 2 * edge_count h

-- What a step cost. After a line all blocks of the chains are stored, and they are as many as before. At
-- the stimulus's end nothing was done. After a stop as many blocks as there are frames, and one more, may
-- not be stored.
abbrev pub StepCosts : {Q : Type 0} → Ghosts Q → RigState → RigState → Sweeper Q → Sweeper Q
    → Result StepEnd StepStop → Type 0
StepCosts queue s t e f (Ok Printed) =
    RunsBeside (step_calls e.header) (step_room s e) (sweeper_blocks queue s e)
    (sweeper_blocks queue t f) (step_account s e) (lists_account (lists_size e) 0)
    (queue.counts e.queue) (queue.counts f.queue) s t
StepCosts queue s t e f (Ok End) = (t ≡ s) × (f ≡ e)
StepCosts queue s t e f (Err stopped) =
    Halted (step_calls e.header) (step_room s e) 1 (sweeper_blocks queue s e)
    (step_account s e) (queue.counts e.queue) (queue.counts f.queue) s t
