-- What the top call says of a job, from how its run ended.
use Rattle.std.proofs.Common.{◌≡◌, ℕ, ◌+◌, ◌-◌, ◌*◌, ◌<◌, ◌≤◌, ◌^◌, inl, inr, ⊎_elim, Bool, List, Option, refl, sym, ap, subst, ◌∙◌, arith, Ok, IfSome}
use Rattle.std.specs.Prelude.{String}
use Rattle.std.specs.Global.{Global}
use Rattle.em_record.specs.Shape.{ShapeNumbers}
use Rattle.em_io.specs.Shelf.{SlotState, Stand}
use Rattle.em_io.specs.declared.shelf.Shelf.{Ghosts as ShelfGhosts}
use Rattle.em_io.specs.declared.sink.Sink.{Ghosts as SinkGhosts}
use Rattle.em_frames.specs.Device.{DeviceState}
use Rattle.em_frames.specs.Pool.{PoolCounts}
use Rattle.em_space.specs.Rig.{Opens, RigState}
use Rattle.em_io.specs.declared.shelf.Slot.{Slot}
use Rattle.em_words.specs.declared.job.Job.{Job}
use Rattle.em_words.specs.declared.job.Origin.{Origin}
use Rattle.em_words.specs.declared.job.Origin.TheVariants.{Files, Made}
use Rattle.em_words.specs.declared.job.Task.{Task}
use Rattle.em_words.specs.declared.job.Task.TheVariants.{Answer, Eval}
use Rattle.em_ends.specs.declared.status.Status.{Status}
use Rattle.em_ends.specs.declared.status.Status.TheVariants.{Done, Malformed, ReadFault, WriteFault, DeviceFault, Full, NoMemory, Damaged}
use Rattle.em_ends.specs.declared.status.Status.TheVariants as status
use Rattle.em_ends.specs.Asked.{Asked}
use Rattle.em_run.specs.Tasks.{OpensNamed}
use Rattle.emtool.specs.Bound.{transfer_bound, stated_room}
use Rattle.em_run.specs.Due.{due_by, job_names, texts_on}
use Rattle.em_ends.specs.Opens.{ReadsNamed}
use Rattle.em_run.specs.Origin.{LeavesOutside, OnMade, asked_on, slots_of, tells_of}
use Rattle.emtool.specs.Promise.{Completes, EndsAsDue, FullHasCause, GivesDue, KeepsCost, Run, room_of, IsTold}
use Rattle.em_ends.specs.Ended.{Caused, Ended, Outside, outside}
use Rattle.em_run.specs.Runs.{HasRig, HasSizes, NamesJob, RunsJob, RunsOn, RunsWords}
use Rattle.em_words.specs.Job.{job_of, texts_of}
use Rattle.em_ends.specs.Status.{OnBegun, OnUsage}
use Rattle.em_ends.proofs.EndLaws.{ended_opened, full_by_moves}

-- The blocks of a full device are fewer than the stated room of a run on texts of this origin, if they are
-- fewer than the room that it is held to, and at most its transfer cost and two for each frame.
origin_room : (origin : Origin) (task : Task) (shape : ShapeNumbers) (texts : Slot → List ℕ)
    (slots : Slot → SlotState) (used : ℕ)
    → IfSome (asked_on origin task texts).room (λ f. used < f shape slots)
    → used ≤ transfer_bound task shape texts (slots_of origin slots) + 2 * shape.frames
    → used < stated_room task shape texts (slots_of origin slots)
origin_room Files (Answer kind combine early) shape texts slots used h k = omega (arith, h, k)
origin_room Files (Eval uninit wide) shape texts slots used h k = omega (arith, h, k)
origin_room (Made start count) (Answer kind combine early) shape texts slots used h k = omega (arith, h, k)
origin_room (Made start count) (Eval uninit wide) shape texts slots used h k = omega (arith, h, k)

-- the moves of a run on texts of this origin are within the transfer cost
origin_moves : (origin : Origin) (task : Task) (shape : ShapeNumbers) (texts : Slot → List ℕ)
    (slots : Slot → SlotState) (before after : ℕ)
    → IfSome (asked_on origin task texts).moves (λ f. after ≤ before + f shape slots)
    → after - before ≤ transfer_bound task shape texts (slots_of origin slots)
origin_moves Files (Answer kind combine early) shape texts slots before after h = omega (arith, h)
origin_moves Files (Eval uninit wide) shape texts slots before after h = omega (arith, h)
origin_moves (Made start count) (Answer kind combine early) shape texts slots before after h = omega (arith, h)
origin_moves (Made start count) (Eval uninit wide) shape texts slots before after h = omega (arith, h)

-- Where the device isn't begun or there is no memory, shelf and output stay.
pub leaves_unbegun : {H W : Type 0} (origin : Origin) (shelf : H) (out : W)
    → OnMade origin (LeavesOutside shelf out shelf out DeviceFault)
leaves_unbegun Files shelf out = tt
leaves_unbegun (Made start count) shelf out =
    record { stays = refl; no_read = λ e. cc; prints = refl }

pub leaves_no_memory : {H W : Type 0} (origin : Origin) (shelf : H) (out : W)
    → OnMade origin (LeavesOutside shelf out shelf out NoMemory)
leaves_no_memory Files shelf out = tt
leaves_no_memory (Made start count) shelf out =
    record { stays = refl; no_read = λ e. cc; prints = refl }

-- a run that is due what a job asks of the files of these names, or of made texts
module _ (tells : Bool) (took : List ℕ → List ℕ → List ℕ) (old new : Outside) (stand : Stand)
    (job : Job) (names : Slot → Option (List ℕ)) where
  abbrev the_run : Run
  the_run = record {
    due = due_by stand job names;
    tells = tells_of job.origin tells;
    took = took;
    old = old;
    new = new;
  }

  abbrev texts : Slot → List ℕ
  texts = texts_on job.origin job.task stand names

  abbrev asked : Asked
  asked = asked_on job.origin job.task texts

  abbrev RunEnded : Status → Type 0
  RunEnded s = Ended (tells_of job.origin tells) took asked job.shape job.blocks old new s

  small : (used : ℕ) → job.blocks ≤ 2 ^ 40 → old.device.moves ≡ 0 → RunEnded (Full used)
      → IsTold the_run → used < room_of the_run
  small used high none e told =
      let bound = transfer_bound job.task job.shape texts (slots_of job.origin new.stand.slot) in
      let moved : new.device.moves - old.device.moves ≤ bound =
      origin_moves job.origin job.task job.shape texts new.stand.slot old.device.moves new.device.moves
      (e.moves told.shelf told.device) in
      let all : used ≡ job.blocks = e.full in
      origin_room job.origin job.task job.shape texts new.stand.slot used (e.room told.shelf told.device)
      (full_by_moves job.blocks used new.device.moves bound job.shape.frames high all
      (omega (arith, moved, none)) e.paid)

  -- the end of a run says what is due
  pub answers_end : (s : Status) → RunEnded s → GivesDue (Ok the_run) s
  answers_end s e = λ told. e.answers told.shelf told.device

  pub due_end : (s : Status) → RunEnded s → EndsAsDue (Ok the_run) s
  due_end s e = e.due

  -- how many moves it made at most
  pub moves_end : (s : Status) → RunEnded s → KeepsCost (Ok the_run)
  moves_end s e = λ told. origin_moves job.origin job.task job.shape texts new.stand.slot
      old.device.moves new.device.moves (e.moves told.shelf told.device)

  -- and what a full device is
  pub full_end : (s : Status) → job.blocks ≤ 2 ^ 40 → RunEnded s → OnBegun s (old.device.moves ≡ 0)
      → FullHasCause (Ok the_run) s
  full_end (Full used) high e none = record {
    all = e.full;
    moves = λ below. ⊎_elim
        (λ (h : 2 ^ 64 - 1 ≤ new.device.moves). absurd (omega (arith, h)))
        (λ (h : used ≤ new.device.moves + 2 * job.shape.frames).
        omega (arith, h, none)) e.paid;
    room = small used high none e;
  }
  full_end Done high e none = tt
  full_end (status.Usage kind word) high e none = tt
  full_end (Malformed kind place) high e none = tt
  full_end ReadFault high e none = tt
  full_end WriteFault high e none = tt
  full_end DeviceFault high e none = tt
  full_end NoMemory high e none = tt
  full_end (Damaged block) high e none = tt

  -- where nothing failed and the device has room, the status is the one due
  pub complete_end : (s : Status) → job.blocks ≤ 2 ^ 40 → OnUsage s ⊥ → RunEnded s → Caused old new s
      → OnBegun s (old.device.moves ≡ 0) → Completes (Ok the_run) s
  complete_end Done high none e c first told quiet room = inl (e.answers told.shelf told.device).0
  complete_end (Malformed kind place) high none e c first told quiet room =
      inl (e.answers told.shelf told.device).0
  complete_end (status.Usage kind word) high none e c first told quiet room = absurd none
  complete_end ReadFault high none e c first told quiet room = absurd (quiet.read (c.read refl))
  complete_end WriteFault high none e c first told quiet room = absurd (quiet.write (c.write refl))
  complete_end DeviceFault high none e c first told quiet room = absurd (quiet.device (c.device refl))
  complete_end (Full used) high none e c first told quiet room =
      let all = e.full in
      let less = small used high first e told in
      absurd (omega (arith, all, less, room))
  complete_end NoMemory high none e c first told quiet room = inr refl
  complete_end (Damaged block) high none e c first told quiet room = cc (told.device, e.damaged.0)

-- what a run of a job promises besides its end
pub record Besides {H W : Type 0} (h : ShelfGhosts H) (w : SinkGhosts W) (job : Job)
    (names : Slot → Option (List ℕ)) (device : DeviceState) (shelf : H) (out : W)
    (device_after : DeviceState) (shelf_after : H)
    (out_after : W) (status : Status) : Type 0 where
  pub caused : Caused (outside h w device shelf out)
      (outside h w device_after shelf_after out_after) status
  pub opens : OpensNamed job.task (tells_of job.origin h.tells) device.told names (h.stand shelf)
      (h.stand shelf_after) status
  pub all_read : ReadsNamed (tells_of job.origin h.tells) names (h.stand shelf_after) status
  pub leaves : OnMade job.origin (LeavesOutside shelf out shelf_after out_after status)
  pub begun : OnBegun status (HasSizes job device_after)
  pub no_usage : OnUsage status ⊥

-- a run of a job, from its end and what it promises besides
pub job_run : {H W : Type 0} {h : ShelfGhosts H} {w : SinkGhosts W} {job : Job}
    {names : Slot → Option (List ℕ)} {device : DeviceState} {shelf : H} {out : W}
    {device_after : DeviceState} {shelf_after : H}
    {out_after : W} {status : Status}
    → Ended (tells_of job.origin h.tells) w.took
    (asked_on job.origin job.task (texts_on job.origin job.task (h.stand shelf) names))
    job.shape job.blocks
    (outside h w device shelf out) (outside h w device_after shelf_after out_after) status
    → Besides h w job names device shelf out device_after shelf_after out_after status
    → RunsJob h w job names device shelf out device_after shelf_after out_after status
job_run e b = record {
  ended = e;
  caused = b.caused;
  opens = b.opens;
  all_read = b.all_read;
  leaves = b.leaves;
  begun = b.begun;
  no_usage = b.no_usage;
}

-- a run of a job on a rig that was opened for it, from the run on the rig and what it promises besides
pub opened_run : {H W : Type 0} {h : ShelfGhosts H} {w : SinkGhosts W} {job : Job}
    {names : Slot → Option (List ℕ)} {device : DeviceState} {shelf : H} {out : W}
    {device_after : DeviceState} {shelf_after : H}
    {out_after : W} {status : Status} (pool : PoolCounts) (s t : RigState)
    → Opens device pool job.blocks s → pool.shape ≡ job.shape → t.device ≡ device_after
    → RunsOn h w job.task job.origin names s t shelf out shelf_after out_after status
    → Besides h w job names device shelf out device_after shelf_after out_after status
    → RunsJob h w job names device shelf out device_after shelf_after out_after status
opened_run {h = h} {w = w} {job = job} {names = names} {device = device} {shelf = shelf} {out = out}
    {shelf_after = shelf_after} {out_after = out_after} {status = status} pool s t o same closed r b =
    let tells = tells_of job.origin h.tells in
    let asked = asked_on job.origin job.task (texts_on job.origin job.task (h.stand shelf) names) in
    let old = outside h w device shelf out in
    let shape : s.pool.shape ≡ job.shape = ap (λ (p : PoolCounts). p.shape) o.pool_is ∙ same in
    job_run (subst (λ (d : DeviceState). Ended tells w.took asked job.shape job.blocks old
    (outside h w d shelf_after out_after) status) closed
    (ended_opened tells asked s.pool.shape job.shape s.blocks job.blocks old
    (outside h w s.device shelf out) (outside h w t.device shelf_after out_after) status shape
    o.blocks_is o.told o.unmoved refl r.ended)) b

-- The run of words that name this job is that of the job.
pub words_run : {H W : Type 0} {h : ShelfGhosts H} {w : SinkGhosts W} {s t : RigState} {shelf shelf_after : H} {out out_after : W}
    {status : Status} {job : Job} (words : List (String Global)) → job_of (texts_of words) ≡ Ok job
    → RunsWords h w (texts_of words) (job_of (texts_of words)) s t shelf out shelf_after out_after status
    → RunsOn h w job.task job.origin (job_names (texts_of words) job) s t shelf out shelf_after out_after status
words_run {h = h} {w = w} {s = s} {t = t} {shelf = shelf} {shelf_after = shelf_after} {out = out} {out_after = out_after}
    {status = status} words e r =
    subst (λ j. RunsWords h w (texts_of words) j s t shelf out shelf_after out_after status) e r

-- A rig of its sizes is one for these words.
pub words_rig : (s : RigState) (job : Job) (words : List (String Global)) → job_of (texts_of words) ≡ Ok job → HasRig job s
    → NamesJob (job_of (texts_of words)) s
words_rig s job words e h = subst (λ j. NamesJob j s) (sym e) h
