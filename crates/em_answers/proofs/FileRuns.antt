-- The run of a command file that was answered.
use Rattle.std.proofs.Common.{◌≡◌, ℕ, ◌+◌, ◌-◌, ◌*◌, ◌<◌, ◌≤◌, ◌^◌, List, [], ◌∷◌, ◌++◌, ap, sym, subst, ◌∙◌, refl, arith, Bool, true, IsTrue, Result, Ok, Err, IfErr, Some, None, inl, inr, ⊎_elim, IfSome, Option}
use Rattle.std.specs.Prelude.{OnOk}
use Rattle.em_record.specs.Count.{Rose}
use Rattle.em_record.specs.Shape.{ShapeNumbers}
use Rattle.em_io.specs.Feed.{Fed, rest}
use Rattle.em_io.specs.Shelf.{SlotState, Stand}
use Rattle.em_io.specs.declared.shelf.Shelf.{Ghosts as ShelfGhosts}
use Rattle.em_io.specs.declared.shelf.Slot.{Slot}
use Rattle.em_io.specs.declared.shelf.Slot.TheVariants.{First}
use Rattle.em_io.specs.declared.sink.Sink.{Ghosts as SinkGhosts}
use Rattle.em_space.specs.Rig.{RigState, Sound, Touches}
use Rattle.em_space.specs.declared.fault.EmFault.TheVariants as em
use Rattle.em_lines.specs.Reads.{Reads}
use Rattle.em_lines.specs.RunSize.{run_size}
use Rattle.em_lines.specs.declared.text.FileKind.{FileKind}
use Rattle.em_ends.specs.Ended.{GoesOn, outside}
use Rattle.em_ends.specs.Opens.{IsAllRead}
use Rattle.em_ends.specs.RunStop.{FillsRun, RunCause}
use Rattle.em_ends.specs.Status.{OnDone, OnNoMemory, OnUsage}
use Rattle.em_ends.specs.Stop.{Faults, IfStopsFull, fault_counts, stop_status}
use Rattle.em_ends.specs.declared.status.Malform.TheVariants.{Text, Base, Aig}
use Rattle.em_ends.specs.declared.status.Status.{Status}
use Rattle.em_ends.specs.declared.status.Status.TheVariants.{DeviceFault, Done, ReadFault, WriteFault}
use Rattle.em_ends.specs.declared.stop.Stop.{Stop}
use Rattle.em_ends.specs.declared.stop.Stop.TheVariants.{Fault, Read, Write, Em}
use Rattle.em_ends.proofs.EndLaws.{KeepsMoves, done_whole, ended_due, ended_stop}
use Rattle.em_answers.specs.FileDue.{output_text, status_for}
use Rattle.em_answers.specs.FileRun.{RunsWithin}
use Rattle.em_answers.specs.Limits.{Limits, asked_by, queue_limits, sized, taken_size}
use Rattle.em_answers.specs.Reading.{IsFilled, KeepsAllowance, KeepsRoom, ReadsAll, StopCause, StopsReading}
use Rattle.em_answers.specs.Serve.{Answers}
use Rattle.em_answers.proofs.ServiceMoves.{run_moves}
use Rattle.em_model.specs.Map.{Combiner}
use Rattle.em_model.specs.declared.command.Command.{Command}

-- nothing is left where a feed has nothing more to give
left_none : (ahead left : List ℕ) → ahead ++ left ≡ [] → left ≡ []
left_none [] left e = e
left_none (x ∷ xs) left e = cc

-- a reader of the open first slot that has nothing more to give read all of it
pub first_read : {tells : Bool} {a b : Stand} (f g : Fed) → f.slot ≡ First → Reads tells f a g b
    → (a.slot First).ready ≡ true → (IsTrue tells → rest g b ≡ []) → IsAllRead tells (b.slot First)
first_read {tells} {a} {b} f g e r ready end = record {
  opened = subst (λ (s : Slot). (b.slot s).ready ≡ (a.slot s).ready) e r.ready ∙ ready;
  nothing_left = λ t. left_none g.ahead _
      (subst (λ (s : Slot). g.ahead ++ (b.slot s).left ≡ []) (r.slot ∙ e) (end t));
}

-- The cause of a stop over a command file is one of the run.
pub file_cause : (apply : Combiner) (size : ShapeNumbers → (text left : List ℕ) → ℕ) (limits : Limits) (tells : Bool) (k : FileKind) (text : List ℕ)
    (faults later : Faults) (a c : RigState) (stop : Stop)
    → StopCause tells k text faults later a c stop
    → RunCause tells (asked_by apply size limits k text) faults later a c stop
file_cause apply size limits tells k text faults later a c (Fault (Text fault) line) cause =
    λ t d. ap status_for (cause t)
file_cause apply size limits tells k text faults later a c (Fault (Base fault) place) cause = absurd cause
file_cause apply size limits tells k text faults later a c (Fault (Aig fault) place) cause = absurd cause
file_cause apply size limits tells k text faults later a c Read cause = cause
file_cause apply size limits tells k text faults later a c Write cause = cause
file_cause apply size limits tells k text faults later a c (Em fault) cause = cause

-- the blocks that are enough, by the size or by how far each slot was read
fills_room : (room : Option (ShapeNumbers → ℕ → ℕ)) (k : FileKind) (text : List ℕ)
    (slots : Slot → SlotState) (c : RigState) (used : ℕ) → {tells : Bool}
    → (IsTrue tells → IsTrue c.device.told
    → IfSome room (λ f. used < f c.pool.shape (run_size k text (slots First).left)))
    → IsTrue tells → IsTrue c.device.told
    → IfSome (sized room (λ slots. run_size k text (slots First).left)) (λ f. used < f c.pool.shape slots)
fills_room None k text slots c used h t d = tt
fills_room (Some f) k text slots c used h t d = h t d

fills_file : (apply : Combiner) (size : ShapeNumbers → (text left : List ℕ) → ℕ) (limits : Limits) (tells : Bool) (k : FileKind) (text : List ℕ)
    (slots : Slot → SlotState) (c : RigState) (used : ℕ)
    → IsFilled limits tells k text (slots First).left c used
    → FillsRun tells (asked_by apply size limits k text) slots c used
fills_file apply size limits tells k text slots c used f = record {
  paid = ⊎_elim
      (λ (h : 2 ^ 64 - 1 ≤ c.moves). inl h)
      (λ (h : used ≤ c.moves + 2 * c.pool.shape.frames). inr (omega (arith, h)))
      f.paid;
  room = fills_room limits.room k text slots c used f.room;
}

-- So is what a full device says.
pub file_fills : (apply : Combiner) (size : ShapeNumbers → (text left : List ℕ) → ℕ) (limits : Limits) (tells : Bool) (k : FileKind) (text : List ℕ)
    (slots : Slot → SlotState) (c : RigState) (stop : Stop)
    → IfStopsFull stop (IsFilled limits tells k text (slots First).left c)
    → IfStopsFull stop (FillsRun tells (asked_by apply size limits k text) slots c)
file_fills apply size limits tells k text slots c (Fault fault place) f = tt
file_fills apply size limits tells k text slots c Read f = tt
file_fills apply size limits tells k text slots c Write f = tt
file_fills apply size limits tells k text slots c (Em em.DeviceFault) f = tt
file_fills apply size limits tells k text slots c (Em (em.Damaged block)) f = tt
file_fills apply size limits tells k text slots c (Em (em.Full used)) f =
    fills_file apply size limits tells k text slots c used f

-- What a call says that answers a command file from what a feed gives: how far it read, what it printed, and why it
-- stopped.
pub record AnswersFile (apply : Combiner) (size : ShapeNumbers → List Command → ℕ) {H W : Type 0} (h : ShelfGhosts H)
    (w : SinkGhosts W) (limits : Limits) (k : FileKind) (held : List ℕ) (shelf : H) (out : W) (feed_after : Fed) (shelf_after : H) (out_after : W) (s t : RigState)
    (result : Result (Unit {0}) Stop) (feed : Fed) : Type 0 where
  pub sound : Sound t
  pub touches : Touches held s t
  pub reads : Reads h.tells feed (h.stand shelf) feed_after (h.stand shelf_after)
  pub read_later : h.faults shelf ≤ h.faults shelf_after
  pub write_later : w.faults out ≤ w.faults out_after
  pub whole : IsTrue h.tells
      → OnOk result (ReadsAll k (rest feed (h.stand shelf)) (rest feed_after (h.stand shelf_after)))
  pub answers : IsTrue h.tells → IsTrue s.device.told → Answers w.took (output_text apply k (rest feed (h.stand shelf)))
      (w.state out) (w.state out_after) result
  pub stop : IfErr result (StopsReading h w limits k feed shelf shelf_after out out_after s t)
  pub moves : IsTrue h.tells → KeepsAllowance limits.moves size k (rest feed (h.stand shelf))
      ((h.stand shelf_after).slot feed.slot).left s t
  pub most : KeepsRoom limits.room h.tells k (rest feed (h.stand shelf))
      ((h.stand shelf_after).slot feed.slot).left t

-- the status of a run that answered its file so
abbrev pub answered_status : Result (Unit {0}) Stop → Status
answered_status (Ok u) = Done
answered_status (Err stop) = stop_status stop

-- a run that stopped isn't done
stopped_open : (stop : Stop) (P : Type 0) → OnDone (stop_status stop) P
stopped_open (Fault malform place) P = tt
stopped_open Read P = tt
stopped_open Write P = tt
stopped_open (Em em.DeviceFault) P = tt
stopped_open (Em (em.Full used)) P = tt
stopped_open (Em (em.Damaged block)) P = tt

stopped_usage : (stop : Stop) → OnUsage (stop_status stop) ⊥
stopped_usage (Fault malform place) = tt
stopped_usage Read = tt
stopped_usage Write = tt
stopped_usage (Em em.DeviceFault) = tt
stopped_usage (Em (em.Full used)) = tt
stopped_usage (Em (em.Damaged block)) = tt

stopped_memory : (stop : Stop) → OnNoMemory (stop_status stop) ⊥
stopped_memory (Fault malform place) = tt
stopped_memory Read = tt
stopped_memory Write = tt
stopped_memory (Em em.DeviceFault) = tt
stopped_memory (Em (em.Full used)) = tt
stopped_memory (Em (em.Damaged block)) = tt

-- a status that names the outside has its cause there
module _ (tells : Bool) (k : FileKind) (text : List ℕ) (faults later : Faults) (s t : RigState) where
  stopped_read : (stop : Stop) → StopCause tells k text faults later s t stop → stop_status stop ≡ ReadFault
      → Rose faults.read later.read
  stopped_read (Fault malform place) cause e = cc
  stopped_read Read cause e = cause
  stopped_read Write cause e = cc
  stopped_read (Em em.DeviceFault) cause e = cc
  stopped_read (Em (em.Full used)) cause e = cc
  stopped_read (Em (em.Damaged block)) cause e = cc

  stopped_write : (stop : Stop) → StopCause tells k text faults later s t stop → stop_status stop ≡ WriteFault
      → Rose faults.write later.write
  stopped_write (Fault malform place) cause e = cc
  stopped_write Read cause e = cc
  stopped_write Write cause e = cause
  stopped_write (Em em.DeviceFault) cause e = cc
  stopped_write (Em (em.Full used)) cause e = cc
  stopped_write (Em (em.Damaged block)) cause e = cc

  stopped_device : (stop : Stop) → StopCause tells k text faults later s t stop → stop_status stop ≡ DeviceFault
      → Rose s.device.faults t.device.faults
  stopped_device (Fault malform place) cause e = cc
  stopped_device Read cause e = cc
  stopped_device Write cause e = cc
  stopped_device (Em em.DeviceFault) cause e = cause
  stopped_device (Em (em.Full used)) cause e = cc
  stopped_device (Em (em.Damaged block)) cause e = cc

module _ (apply : Combiner) (size : ShapeNumbers → List Command → ℕ) {H W : Type 0} (h : ShelfGhosts H) (w : SinkGhosts W)
    (limits : Limits) (k : FileKind) (held : List ℕ)
    (shelf : H) (out : W) (feed_after : Fed) (shelf_after : H) (out_after : W) (s t : RigState)
    (ready : ((h.stand shelf).slot First).ready ≡ true) where
  -- a feed of the first slot that took nothing yet
  abbrev first_feed : Fed
  first_feed = record { slot = First; ahead = []; place = 0 }

  abbrev Said : Result (Unit {0}) Stop → Type 0
  Said result =
      AnswersFile apply size h w limits k held shelf out feed_after shelf_after out_after s t result first_feed

  abbrev text : List ℕ
  text = ((h.stand shelf).slot First).left

  went_on : (result : Result (Unit {0}) Stop) → Said result
      → GoesOn (outside h w s.device shelf out) (outside h w t.device shelf_after out_after)
  went_on result a = record {
    told = a.touches.told;
    read = a.read_later;
    write = a.write_later;
    device = a.touches.faults;
  }

  kept : (result : Result (Unit {0}) Stop) → Said result → KeepsMoves h.tells (asked_by apply (taken_size size k) limits k text)
      s.pool.shape (outside h w s.device shelf out) (outside h w t.device shelf_after out_after)
  kept result a =
      run_moves limits.moves size h.tells k text (h.stand shelf_after).slot s t a.sound.moves_is a.moves

  done : (u : Unit {0}) → Said (Ok u)
      → RunsWithin apply (taken_size size k) h w limits k s t shelf out shelf_after out_after Done
  done u a = record {
    ended = ended_due (asked_by apply (taken_size size k) limits k text) Done done_whole (λ z d. sym (ap status_for (a.whole z).fault))
        (λ z d. (a.answers z d).all) (λ z d. (a.answers z d).part) (kept (Ok u) a);
    caused = record { goes_on = went_on (Ok u) a; read = λ e. cc; write = λ e. cc; device = λ e. cc };
    most = a.most;
    reads = record { leaves = a.reads.leaves; lost = a.reads.lost };
    all_read = first_read first_feed feed_after refl a.reads ready (λ z. (a.whole z).end);
    no_usage = tt;
    no_memory = tt;
  }

  stopped : (stop : Stop) → Said (Err stop)
      → RunsWithin apply (taken_size size k) h w limits k s t shelf out shelf_after out_after (stop_status stop)
  stopped stop a =
      let faults = fault_counts (h.faults shelf) (w.faults out) in
      let later = fault_counts (h.faults shelf_after) (w.faults out_after) in
      record {
        ended = ended_stop h.tells (asked_by apply (taken_size size k) limits k text) (outside h w s.device shelf out)
            (outside h w t.device shelf_after out_after) s t a.touches a.sound refl refl (kept (Err stop) a) stop
            faults later (file_cause apply (taken_size size k) limits h.tells k text faults later s t stop a.stop.cause)
            (file_fills apply (taken_size size k) limits h.tells k text (h.stand shelf_after).slot t stop a.stop.full)
            (record { fault = λ z d. (a.answers z d).fault; part = λ z d. (a.answers z d).part });
        caused = record {
          goes_on = went_on (Err stop) a;
          read = stopped_read h.tells k text faults later s t stop a.stop.cause;
          write = stopped_write h.tells k text faults later s t stop a.stop.cause;
          device = stopped_device h.tells k text faults later s t stop a.stop.cause;
        };
        most = a.most;
        reads = record { leaves = a.reads.leaves; lost = a.reads.lost };
        all_read = stopped_open stop _;
        no_usage = stopped_usage stop;
        no_memory = stopped_memory stop;
      }

  by_first : (result : Result (Unit {0}) Stop) → Said result
      → RunsWithin apply (taken_size size k) h w limits k s t shelf out shelf_after out_after (answered_status result)
  by_first (Ok u) a = done u a
  by_first (Err stop) a = stopped stop a

  -- It began at the start of the first slot: this is its run.
  pub runs_answered : (feed : Fed) (result : Result (Unit {0}) Stop)
      → feed ≡ record { slot = First; ahead = []; place = 0 }
      → AnswersFile apply size h w limits k held shelf out feed_after shelf_after out_after s t result feed
      → RunsWithin apply (taken_size size k) h w limits k s t shelf out shelf_after out_after (answered_status result)
  runs_answered feed result e a = by_first result
      (subst (AnswersFile apply size h w limits k held shelf out feed_after shelf_after out_after s t result) e a)

-- A run whose moves have no limit is one by any size.
pub runs_sized : (apply : Combiner) (size other : ShapeNumbers → (text left : List ℕ) → ℕ) {H W : Type 0}
    {h : ShelfGhosts H} {w : SinkGhosts W} {room : Option (ShapeNumbers → ℕ → ℕ)} {k : FileKind} {s t : RigState}
    {shelf : H} {out : W} {shelf_after : H} {out_after : W} {end : Status}
    → RunsWithin apply size h w (queue_limits room) k s t shelf out shelf_after out_after end
    → RunsWithin apply other h w (queue_limits room) k s t shelf out shelf_after out_after end
runs_sized apply size other r = record {
  ended = r.ended;
  caused = r.caused;
  most = r.most;
  reads = r.reads;
  all_read = r.all_read;
  no_usage = r.no_usage;
  no_memory = r.no_memory;
}
