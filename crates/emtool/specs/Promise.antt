-- What the top call promises of a run: one definition for each of its clauses, by whether the words
-- name a job. If they name none, the report has no statistics, and nothing else is said here.
use Rattle.std.specs.Prelude.{◌≡◌, ℕ, ◌+◌, ◌-◌, ◌*◌, ◌<◌, ◌≤◌, ◌^◌, ◌⊎◌, Bool, IsTrue, IsFalse, List, Option, None, String, Result, Ok, Err}
use Rattle.std.specs.Global.{Global}
use Rattle.em_record.specs.Count.{Rose}
use Rattle.em_io.specs.Sink.{SentPart}
use Rattle.em_io.specs.declared.shelf.Shelf.{Ghosts as ShelfGhosts}
use Rattle.em_io.specs.declared.sink.Sink.{Ghosts as SinkGhosts}
use Rattle.em_frames.specs.declared.device.Device.{Ghosts as DeviceGhosts}
use Rattle.emtool.specs.Bound.{stated_room, transfer_bound}
use Rattle.em_ends.specs.Asked.{ToldIf}
use Rattle.em_run.specs.Due.{Due, due_of}
use Rattle.em_run.specs.Origin.{LeavesOutside, OnMade, slots_of, tells_of}
use Rattle.em_run.specs.Tasks.{OpensNamed}
use Rattle.em_ends.specs.Opens.{ReadsNamed}
use Rattle.em_words.specs.Job.{texts_of}
use Rattle.emtool.specs.Statistics.{HasStats}
use Rattle.em_ends.specs.Outcome.{report_text}
use Rattle.em_run.specs.Runs.{HasSizes}
use Rattle.em_ends.specs.Ended.{IsQuiet, Outside, outside}
use Rattle.em_ends.specs.Status.{IfEndsDamaged, IfEndsFull, OnBegun, OnEnd}
use Rattle.em_ends.specs.declared.outcome.Stats.{Stats}
use Rattle.em_ends.specs.declared.status.Status.{Status}
use Rattle.em_ends.specs.declared.status.Status.TheVariants.{NoMemory}
use Rattle.em_ends.specs.declared.status.Usage.{Usage}

-- A run: what is due, whether its texts are known (made ones are, and those of files if the shelf tells
-- them), the rule of the output, and the outside before and after.
pub record Run : Type 0 where
  pub due : Due
  pub tells : Bool
  pub took : List ℕ → List ℕ → List ℕ
  pub old : Outside
  pub new : Outside

-- the run of what is due, if the words name a job
abbrev pub run_for : Bool → (List ℕ → List ℕ → List ℕ) → Outside → Outside → Result Due Usage
    → Result Run Usage
run_for tells took old new (Ok due) = Ok (record {
  due = due;
  tells = tells_of due.job.origin tells;
  took = took;
  old = old;
  new = new;
})
run_for tells took old new (Err usage) = Err usage

-- the run that the words ask for, from device, shelf and output before and after, or the refusal of
-- the words
abbrev pub run_of : {D H W : Type 0} → DeviceGhosts D → ShelfGhosts H → SinkGhosts W
    → List (String Global) → D → H → W → D → H → W → Result Run Usage
run_of d h w words device shelf out device_after shelf_after out_after = run_for h.tells w.took
    (outside h w (d.state device) shelf out)
    (outside h w (d.state device_after) shelf_after out_after)
    (due_of (texts_of words) (h.stand shelf))

-- the texts are known, and the device tells what it holds
pub record IsTold (run : Run) : Type 0 where
  pub shelf : IsTrue run.tells
  pub device : IsTrue run.old.device.told

-- the block moves that were made
abbrev pub moves_of : Run → ℕ
moves_of run = run.new.device.moves - run.old.device.moves

-- the blocks that are enough for the run
abbrev pub room_of : Run → ℕ
room_of run = stated_room run.due.job.task run.due.job.shape run.due.texts
    (slots_of run.due.job.origin run.new.stand.slot)

-- If the status is Done or Malformed, status and output are the ones due.
abbrev pub GivesDue : Result Run Usage → Status → Type 0
GivesDue (Ok run) status = IsTold run
    → OnEnd status ((status ≡ run.due.asked.status)
    × (run.new.output ≡ run.took run.old.output run.due.asked.output))
GivesDue (Err usage) status = Unit {0}

-- If the status is Done or Malformed, the status is the one due, whether the
-- device tells its contents or not, unless the task says otherwise.
abbrev pub EndsAsDue : Result Run Usage → Status → Type 0
EndsAsDue (Ok run) status = IsTrue run.tells
    → ToldIf run.due.asked.status_told run.old.device.told
    → OnEnd status (status ≡ run.due.asked.status)
EndsAsDue (Err usage) status = Unit {0}

-- At every status but Usage, DeviceFault and NoMemory the device has the sizes of the job.
abbrev pub Begins : Result Run Usage → Status → Type 0
Begins (Ok run) status = OnBegun status (HasSizes run.due.job run.new.device)
Begins (Err usage) status = Unit {0}

-- At Done the slot of each file of the job was opened, and if the shelf tells, read to its end.
abbrev pub ReadsFiles : Result Run Usage → Status → Type 0
ReadsFiles (Ok run) status = ReadsNamed run.tells run.due.names run.new.stand status
ReadsFiles (Err usage) status = Unit {0}

-- If shelf and device tell, the output took a front of what is due, at every end.
abbrev pub SendsFront : Result Run Usage → Type 0
SendsFront (Ok run) = IsTold run
    → SentPart run.took run.old.output run.due.asked.output run.new.output
SendsFront (Err usage) = Unit {0}

-- At every status, if texts and device are told, the moves that were made are at most the transfer cost of what was
-- read.
abbrev pub KeepsCost : Result Run Usage → Type 0
KeepsCost (Ok run) = IsTold run → moves_of run
    ≤ transfer_bound run.due.job.task run.due.job.shape run.due.texts
    (slots_of run.due.job.origin run.new.stand.slot)
KeepsCost (Err usage) = Unit {0}

-- No slot is touched but those of the job's files.
abbrev pub Opens : Result Run Usage → Status → Type 0
Opens (Ok run) status =
    OpensNamed run.due.job.task run.tells run.old.device.told run.due.names run.old.stand run.new.stand status
Opens (Err usage) status = Unit {0}

-- A run on made texts leaves the shelf and its count of faults, and takes its summary alone of the
-- output.
abbrev pub LeavesAll : {H W : Type 0} → H → W → H → W → Result Run Usage → Status → Type 0
LeavesAll shelf out shelf_after out_after (Ok run) status =
    OnMade run.due.job.origin (LeavesOutside shelf out shelf_after out_after status)
LeavesAll shelf out shelf_after out_after (Err usage) status = Unit {0}

-- The device has `used` blocks and no more. They are at most the moves made plus two for each frame,
-- if the count of moves isn't at its end. If texts and device are told, they are fewer than the stated
-- room.
pub record IsFull (run : Run) (used : ℕ) : Type 0 where
  pub all : used ≡ run.due.job.blocks
  pub moves : run.new.device.moves < 2 ^ 64 - 1 → used + run.old.device.moves
      ≤ run.new.device.moves + 2 * run.due.job.shape.frames
  pub room : IsTold run → used < room_of run

-- If the run ends as full, the device is as small as `IsFull` says.
abbrev pub FullHasCause : Result Run Usage → Status → Type 0
FullHasCause (Ok run) status = IfEndsFull status (IsFull run)
FullHasCause (Err usage) status = Unit {0}

-- Damaged comes only over a device that doesn't tell what it holds, and names a block of it.
abbrev pub DamageHasCause : Result Run Usage → Status → Type 0
DamageHasCause (Ok run) status = IfEndsDamaged status
    (λ block. IsFalse run.old.device.told × (block < run.due.job.blocks))
DamageHasCause (Err usage) status = Unit {0}

-- If nothing failed and the device has the stated room, the status is the one due, or there was no
-- memory.
abbrev pub Completes : Result Run Usage → Status → Type 0
Completes (Ok run) status = IsTold run → IsQuiet run.old run.new → room_of run ≤ run.due.job.blocks
    → (status ≡ run.due.asked.status) ⊎ (status ≡ NoMemory)
Completes (Err usage) status = Unit {0}

-- There are statistics exactly if the job asks for them; of refused words there are none.
abbrev pub StatsOf : Result Run Usage → Status → Option Stats → Type 0
StatsOf (Ok run) status stats = HasStats run.due.job status (moves_of run) stats
StatsOf (Err usage) status stats = stats ≡ None

-- A sink took the message of a status and the line of the statistics.
pub record ReportsAll (took : List ℕ → List ℕ → List ℕ) (run : Result Run Usage) (status : Status)
    (old new : List ℕ) : Type 0 where
  pub stats : Option Stats
  pub are : StatsOf run status stats
  pub all : new ≡ took old (report_text status stats)

-- A sink took a front of them.
pub record ReportsPart (took : List ℕ → List ℕ → List ℕ) (run : Result Run Usage) (status : Status)
    (old new : List ℕ) : Type 0 where
  pub stats : Option Stats
  pub are : StatsOf run status stats
  pub part : SentPart took old (report_text status stats) new

-- If the error stream didn't fail, it took the status's message and the line of the statistics.
abbrev pub Reports : {E : Type 0} → SinkGhosts E → E → E → Result Run Usage → Status → Type 0
Reports e old new run status = (Rose (e.faults old) (e.faults new) → ⊥)
    → ReportsAll e.took run status (e.state old) (e.state new)

-- At every end the error stream took a front of that.
abbrev pub ReportsFront : {E : Type 0} → SinkGhosts E → E → E → Result Run Usage → Status → Type 0
ReportsFront e old new run status = ReportsPart e.took run status (e.state old) (e.state new)
