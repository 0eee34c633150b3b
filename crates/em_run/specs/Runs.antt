-- The run of a job, on files or on made texts.
use Rattle.std.specs.Prelude.{◌≡◌, ℕ, true, Option, List, Result, Ok, Err}
use Rattle.em_io.specs.Shelf.{SlotState, Stand}
use Rattle.em_io.specs.declared.shelf.Shelf.{Ghosts as ShelfGhosts}
use Rattle.em_io.specs.declared.shelf.Slot.{Slot}
use Rattle.em_io.specs.declared.sink.Sink.{Ghosts as SinkGhosts}
use Rattle.em_frames.specs.Device.{DeviceState}
use Rattle.em_space.specs.Rig.{RigState}
use Rattle.em_ends.specs.declared.status.Status.{Status}
use Rattle.em_ends.specs.declared.status.Status.TheVariants.{ReadFault}
use Rattle.em_ends.specs.declared.status.Usage.{Usage}
use Rattle.em_words.specs.declared.job.Job.{Job}
use Rattle.em_words.specs.declared.job.Origin.{Origin}
use Rattle.em_words.specs.declared.job.Origin.TheVariants.{Made}
use Rattle.em_words.specs.declared.job.Task.{Task}
use Rattle.em_run.specs.Due.{job_names, texts_on}
use Rattle.em_ends.specs.Opens.{ReadsNamed}
use Rattle.em_run.specs.Tasks.{OpensNamed}
use Rattle.em_run.specs.Made.{made_texts}
use Rattle.em_run.specs.Origin.{LeavesOutside, OnMade, UnlessSummed, asked_on, tells_of}
use Rattle.em_ends.specs.Status.{OnBegun, OnNoMemory, OnUsage}
use Rattle.em_ends.specs.Ended.{KeepsRoom, Outside, outside, Ended, Caused}

-- The outside of a run whose shelf tells this and failed this often.
abbrev pub beside : {W : Type 0} → Stand → ℕ → SinkGhosts W → DeviceState → W → Outside
beside stand faults w device out = record {
  device = device;
  output = w.state out;
  stand = stand;
  read_faults = faults;
  write_faults = w.faults out;
}

-- The run of a task on made texts, on such a rig and whatever stands on a shelf: how it ended, and why; and
-- how many blocks it took at most. It takes nothing of the output but its summary.
pub record RunsMade {W : Type 0} (w : SinkGhosts W) (task : Task) (start count : ℕ)
    (s t : RigState) (out out_after : W) (status : Status) : Type 0 where
  pub ended : (stand : Stand) (faults : ℕ) → Ended true w.took
      (asked_on (Made start count) task (made_texts task start count)) s.pool.shape s.blocks
      (beside stand faults w s.device out) (beside stand faults w t.device out_after) status
  pub caused : (stand : Stand) (faults : ℕ) → Caused (beside stand faults w s.device out)
      (beside stand faults w t.device out_after) status
  pub most : (slots : Slot → SlotState)
      → KeepsRoom (asked_on (Made start count) task (made_texts task start count)) true s t slots
  pub no_read : status ≡ ReadFault → ⊥
  pub prints : UnlessSummed status (out_after ≡ out)
  pub no_usage : OnUsage status ⊥
  pub no_memory : OnNoMemory status ⊥

-- The run of a task on texts of this origin, on such a rig: as `RunsTask` if they are those of the
-- files of these names; made ones leave the shelf.
pub record RunsOn {H W : Type 0} (h : ShelfGhosts H) (w : SinkGhosts W) (task : Task)
    (origin : Origin) (names : Slot → Option (List ℕ)) (s t : RigState) (shelf : H) (out : W)
    (shelf_after : H) (out_after : W) (status : Status) : Type 0 where
  pub ended : Ended (tells_of origin h.tells) w.took
      (asked_on origin task (texts_on origin task (h.stand shelf) names)) s.pool.shape s.blocks
      (outside h w s.device shelf out) (outside h w t.device shelf_after out_after) status
  pub caused : Caused (outside h w s.device shelf out)
      (outside h w t.device shelf_after out_after) status
  pub most : KeepsRoom (asked_on origin task (texts_on origin task (h.stand shelf) names))
      (tells_of origin h.tells) s t (h.stand shelf_after).slot
  pub opens : OpensNamed task (tells_of origin h.tells) s.device.told names (h.stand shelf)
      (h.stand shelf_after) status
  pub all_read : ReadsNamed (tells_of origin h.tells) names (h.stand shelf_after) status
  pub leaves : OnMade origin (LeavesOutside shelf out shelf_after out_after status)
  pub no_usage : OnUsage status ⊥
  pub no_memory : OnNoMemory status ⊥

-- The rig has the sizes of the job.
pub record HasRig (job : Job) (s : RigState) : Type 0 where
  pub shape : s.pool.shape ≡ job.shape
  pub blocks : s.blocks ≡ job.blocks

-- Words name a job, whose sizes the rig has.
abbrev pub NamesJob : Result Job Usage → RigState → Type 0
NamesJob (Ok job) s = HasRig job s
NamesJob (Err usage) s = ⊥

-- The run of the job that these words name, on such a rig: that of its task on texts of its origin, over the files that
-- the words name.
abbrev pub RunsWords : {H W : Type 0} → ShelfGhosts H → SinkGhosts W → List (List ℕ) → Result Job Usage
    → RigState → RigState → H → W → H → W → Status → Type 0
RunsWords h w words (Ok job) s t shelf out shelf_after out_after status =
    RunsOn h w job.task job.origin (job_names words job) s t shelf out shelf_after out_after status
RunsWords h w words (Err usage) s t shelf out shelf_after out_after status = Unit {0}

-- The device was begun with the sizes of the job.
pub record HasSizes (job : Job) (device : DeviceState) : Type 0 where
  pub blocks : device.blocks ≡ job.blocks
  pub block : device.block ≡ job.shape.block

-- The run of a job, over the files of these names or on made texts: how it ended, and why; which slots
-- were opened and read; and unless the device failed at once, it has the job's sizes.
pub record RunsJob {H W : Type 0} (h : ShelfGhosts H) (w : SinkGhosts W) (job : Job)
    (names : Slot → Option (List ℕ)) (device : DeviceState) (shelf : H) (out : W)
    (device_after : DeviceState) (shelf_after : H) (out_after : W) (status : Status)
    : Type 0 where
  pub ended : Ended (tells_of job.origin h.tells) w.took
      (asked_on job.origin job.task (texts_on job.origin job.task (h.stand shelf) names))
      job.shape job.blocks
      (outside h w device shelf out) (outside h w device_after shelf_after out_after) status
  pub caused : Caused (outside h w device shelf out)
      (outside h w device_after shelf_after out_after) status
  pub opens : OpensNamed job.task (tells_of job.origin h.tells) device.told names (h.stand shelf)
      (h.stand shelf_after) status
  pub all_read : ReadsNamed (tells_of job.origin h.tells) names (h.stand shelf_after) status
  pub leaves : OnMade job.origin (LeavesOutside shelf out shelf_after out_after status)
  pub begun : OnBegun status (HasSizes job device_after)
  pub no_usage : OnUsage status ⊥
