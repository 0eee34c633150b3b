-- A group of up to 64 steps of an evaluator: what it reads and prints, and what it costs.
use Rattle.std.specs.Prelude.{◌≡◌, ◌<◌, ◌≤◌, ℕ, ◌+◌, ◌*◌, ◌^◌, max, Bool, List, [], ◌++◌, length, take, Some, Result, Ok, Err}
use Rattle.em_io.specs.Sink.{Sent, SentPart}
use Rattle.em_frames.specs.Pool.{PoolCounts}
use Rattle.em_space.specs.Ledger.{Account}
use Rattle.em_space.specs.Rig.{RigState}
use Rattle.em_space.specs.declared.queue.Queue.{Ghosts}
use Rattle.em_queued.specs.Queued.{RunsBeside}
use Rattle.aig_defs.specs.Circuit.{Circuit, columns}
use Rattle.aig_defs.specs.Stimulus.{Stimulus, begun_from, output_lines, stimulus_from}
use Rattle.aig_defs.specs.Value.{run_of}
use Rattle.aig_defs.specs.declared.circuit.Gate.{Gate}
use Rattle.aig_defs.specs.declared.circuit.Header.{Header}
use Rattle.aig_defs.specs.declared.fault.AigKind.{AigKind}
use Rattle.aig_text.specs.Source.{Source, left}
use Rattle.aig_edges.specs.Graph.{CanBuild, edge_count}
use Rattle.aig_edges.specs.declared.stop.StepStop.{StepStop}
use Rattle.aig_edges.specs.declared.stop.StepStop.TheVariants as stop
use Rattle.aig_sweep.specs.Columns.{column_room}
use Rattle.aig_sweep.specs.Lists.{lists_account}
use Rattle.aig_sweep.specs.Scene.{EndsText, IsQuiet, KeepsFront, Scene}
use Rattle.aig_sweep.specs.Sweeper.{Evaluates, Halted, lists_size, sweeper_blocks}
use Rattle.aig_sweep.specs.declared.sweeper.Sweeper.{Sweeper}
use Rattle.aig_words.specs.Lines.{tiles}
use Rattle.aig_wide.specs.Sweeps.{input_room, sweep_moves}
use Rattle.aig_wide.specs.declared.group.GroupEnd.{GroupEnd}
use Rattle.aig_wide.specs.declared.group.GroupEnd.TheVariants.{Printed, End}

-- the calls of the queue in a group, at most: two for each edge, and two for each word of 64 lines
abbrev pub group_calls : Header → ℕ
group_calls h = 128 * (tiles h.inputs + tiles (columns h)) + 2 * edge_count h

-- The frames of a group are free, there is no latch, and few calls of the queue came.
pub record CanGroup {Q : Type 0} (queue : Ghosts Q) (p : PoolCounts) (e : Sweeper Q) : Type 0 where
  pub free : CanBuild p
  pub none : e.header.latches ≡ 0
  pub few : (queue.counts e.queue).n + group_calls e.header < 2 ^ 100

-- the most blocks of an evaluator's lists during a group: the edges, and a word for each input or for each column
abbrev pub group_room : {Q : Type 0} → RigState → Sweeper Q → ℕ
group_room s e = lists_size e + max (input_room e.header s) (column_room e.header s)

-- the moves of a group beside those of the queue: the edges are read, and two lists of words are written, read and released
abbrev pub group_moves : {Q : Type 0} → RigState → Sweeper Q → ℕ
group_moves s e = sweep_moves e.header e.given e.gates s

-- the account of an evaluator's lists before a group
abbrev pub group_account : {Q : Type 0} → RigState → Sweeper Q → Account
group_account s e = lists_account (lists_size e) (group_moves s e)

-- What a group cost. After its lines all blocks of the lists are stored, and they are as many as before. At the
-- stimulus's end nothing was done. After a stop as many blocks as there are frames, and one more, may not be stored.
abbrev pub GroupCosts : {Q : Type 0} → Ghosts Q → RigState → RigState → Sweeper Q → Sweeper Q
    → Result GroupEnd StepStop → Type 0
GroupCosts queue s t e f (Ok (Printed count)) =
    RunsBeside (group_calls e.header) (group_room s e) (sweeper_blocks queue s e)
    (sweeper_blocks queue t f) (group_account s e) (lists_account (lists_size e) 0)
    (queue.counts e.queue) (queue.counts f.queue) s t
GroupCosts queue s t e f (Ok End) = (t ≡ s) × (f ≡ e)
GroupCosts queue s t e f (Err stopped) =
    Halted (group_calls e.header) (group_room s e) 1 (sweeper_blocks queue s e)
    (group_account s e) (queue.counts e.queue) (queue.counts f.queue) s t

-- the stimulus from here on
abbrev pub stimulus_at : ℕ → Source → Stimulus
stimulus_at inputs s = stimulus_from inputs s.feed.place (left s)

-- some steps, and then these
abbrev pub after_steps : List (List Bool) → Stimulus → Stimulus
after_steps bits s = record { steps = bits ++ s.steps; fault = s.fault }

-- no line is whole from here on: nothing is left, or the first line has a fault
abbrev pub HasNoLine : ℕ → Source → Type 0
HasNoLine inputs s = (stimulus_at inputs s).steps ≡ []

-- Nothing went out, and what is pending is what it was.
pub record LeavesOutput (taken taken_after pending pending_after : List ℕ) : Type 0 where
  pub same : taken_after ≡ taken
  pub kept : pending_after ≡ pending

-- Lines were begun: this many, and those from here on, whatever was given beyond here.
abbrev pub BeginsLines : ℕ → Source → Source → ℕ → Type 0
BeginsLines inputs old new count = (given : ℕ) → new.feed.place ≤ given
    → begun_from inputs given old.feed.place (left old)
    ≡ count + begun_from inputs given new.feed.place (left new)

-- Lines were read whole: this many, fewer than 64 only if nothing is left.
pub record TakesLines (inputs : ℕ) (old new : Source) (count : ℕ) (bits : List (List Bool)) : Type 0 where
  pub some : left old ≡ [] → ⊥
  pub count_is : length bits ≡ count
  pub low : 0 < count
  pub high : count ≤ 64
  pub steps : stimulus_at inputs old ≡ after_steps bits (stimulus_at inputs new)
  pub last : count < 64 → left new ≡ []
  pub begun : BeginsLines inputs old new count

-- Fewer than 64 lines could be read whole, and the next one has this fault.
pub record FaultsAfter (inputs : ℕ) (old : Source) (kind : AigKind) (place : ℕ) (bits : List (List Bool)) : Type 0
  where
    pub some : left old ≡ [] → ⊥
    pub high : length bits < 64
    pub steps : stimulus_at inputs old ≡ record { steps = bits; fault = Some (kind, place) }

-- The answer is as the stimulus says, unless the shelf, the sink or the rig failed first.
abbrev pub FollowsGroup : ℕ → Source → Source → Result GroupEnd StepStop → Type 0
FollowsGroup inputs old new (Ok (Printed count)) = (bits : List (List Bool)) × TakesLines inputs old new count bits
FollowsGroup inputs old new (Ok End) = EndsText old new
FollowsGroup inputs old new (Err (stop.Fault kind place)) =
    (bits : List (List Bool)) × FaultsAfter inputs old kind place bits
FollowsGroup inputs old new (Err stop.Read) = Unit {0}
FollowsGroup inputs old new (Err stop.Write) = Unit {0}
FollowsGroup inputs old new (Err (stop.Em fault)) = Unit {0}

-- the lines that a circuit without latches prints for some steps
abbrev pub lines_of : Circuit → List (List Bool) → List ℕ
lines_of c bits = output_lines (run_of c bits)

-- the lines of the next group: those of the first 64 steps from here on
abbrev pub next_lines : Circuit → Source → List ℕ
next_lines c s = lines_of c (take 64 (stimulus_at c.header.inputs s).steps)

-- Lines were read, those of their columns went out or are pending, and the evaluator is what it was.
pub record PrintsGroup {Q : Type 0} (queue : Ghosts Q) (took : List ℕ → List ℕ → List ℕ) (c : Circuit)
    (order : List Gate) (old new : Scene Q) (count : ℕ) : Type 0 where
  pub bits : List (List Bool)
  pub lines : TakesLines c.header.inputs old.text new.text count bits
  pub sent : Sent took old.taken (old.pending ++ lines_of c bits) new.taken new.pending
  pub next : Evaluates queue new.rig new.evaluator c order []

-- Nothing was left of the stimulus, and nothing was printed.
pub record EndsGroup {Q : Type 0} (queue : Ghosts Q) (c : Circuit) (order : List Gate) (old new : Scene Q) : Type 0
  where
    pub quiet : IsQuiet old new
    pub same : Evaluates queue new.rig new.evaluator c order []

-- A line has a fault, and exactly the lines before it were printed.
pub record FaultsGroup {Q : Type 0} (took : List ℕ → List ℕ → List ℕ) (c : Circuit) (old new : Scene Q)
    (kind : AigKind) (place : ℕ) : Type 0 where
  pub bits : List (List Bool)
  pub lines : FaultsAfter c.header.inputs old.text kind place bits
  pub sent : Sent took old.taken (old.pending ++ lines_of c bits) new.taken new.pending

-- what a group of this circuit did
abbrev pub AnswersGroup : {Q : Type 0} → Ghosts Q → (List ℕ → List ℕ → List ℕ) → Circuit → List Gate
    → Scene Q → Scene Q → Result GroupEnd StepStop → Type 0
AnswersGroup queue took c order old new (Ok (Printed count)) = PrintsGroup queue took c order old new count
AnswersGroup queue took c order old new (Ok End) = EndsGroup queue c order old new
AnswersGroup queue took c order old new (Err (stop.Fault kind place)) = FaultsGroup took c old new kind place
AnswersGroup queue took c order old new (Err stop.Read) = IsQuiet old new
AnswersGroup queue took c order old new (Err stop.Write) =
    SentPart took old.taken (old.pending ++ next_lines c old.text) new.taken
AnswersGroup queue took c order old new (Err (stop.Em fault)) =
    KeepsFront took old.taken (old.pending ++ next_lines c old.text) new.taken new.pending

-- from 1 to 64 lines were printed, if any were
abbrev pub IsGroupSize : Result GroupEnd StepStop → Type 0
IsGroupSize (Ok (Printed count)) = (0 < count) × (count ≤ 64)
IsGroupSize (Ok End) = Unit {0}
IsGroupSize (Err e) = Unit {0}

-- P, if lines were printed
abbrev pub IfPrintedGroup : Result GroupEnd StepStop → Type 0 → Type 0
IfPrintedGroup (Ok (Printed count)) P = P
IfPrintedGroup (Ok End) P = Unit {0}
IfPrintedGroup (Err e) P = Unit {0}
