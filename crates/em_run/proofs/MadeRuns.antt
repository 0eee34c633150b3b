-- A run on made texts, from the run of its task over the shelf that makes them, whose output a tally took.
use Rattle.std.proofs.Common.{◌≡◌, ℕ, ◌≤◌, List, [], ap, subst, ◌∙◌, refl, arith, true, IfSome}
use Rattle.em_record.specs.Count.{Rose}
use Rattle.em_record.specs.Shape.{ShapeNumbers}
use Rattle.em_io.specs.Shelf.{SlotState, unopened}
use Rattle.em_io.specs.Sink.{IsRule, SentPart}
use Rattle.em_io.specs.declared.shelf.Slot.{Slot}
use Rattle.em_io.specs.declared.sink.Sink.{Ghosts as SinkGhosts}
use Rattle.em_gen.specs.Shelf.{GenState, stand_of}
use Rattle.em_gen.specs.Tally.{tallied, three}
use Rattle.em_gen.specs.declared.kind.GenKind.{GenKind}
use Rattle.em_frames.specs.Device.{DeviceState}
use Rattle.em_space.specs.Rig.{RigState}
use Rattle.em_ends.specs.Asked.{Asked}
use Rattle.em_run.specs.Tasks.{asked_of, names_of}
use Rattle.em_ends.specs.Opens.{texts_in}
use Rattle.em_run.specs.Made.{kind_for, made_texts, summary_text}
use Rattle.em_ends.specs.Ended.{Caused, Ended, KeepsRoom, Outside}
use Rattle.em_run.specs.Runs.{RunsMade, beside}
use Rattle.em_ends.specs.Status.{OnNoMemory, OnUsage}
use Rattle.em_run.specs.Origin.{UnlessSummed, asked_on}
use Rattle.em_words.specs.declared.job.Origin.TheVariants.{Made}
use Rattle.em_words.specs.declared.job.Task.{Task}
use Rattle.em_words.specs.declared.job.Task.TheVariants.{Answer, Eval}
use Rattle.em_lines.specs.declared.text.FileKind.TheVariants.{Map, Queue, Stab, Dump}
use Rattle.em_ends.specs.declared.status.Status.{Status}
use Rattle.em_ends.specs.declared.status.Status.TheVariants.{Done, Malformed, ReadFault, WriteFault, DeviceFault, Full, NoMemory, Damaged}
use Rattle.em_ends.specs.declared.status.Status.TheVariants as status
use Rattle.em_run.proofs.Summed.{ends_cut, ends_summed, ends_unsummed, most_whole}
use Rattle.em_run.proofs.WholeTexts.{most_rises, moves_rise}

-- the shelf that makes texts for a task
abbrev made_shelf : Task → ℕ → ℕ → GenState
made_shelf task start count = record {
  kind = kind_for task;
  start = start;
  count = count;
  first = unopened;
  second = unopened;
}

-- so is the one of the task's kind
pub shelf_made : (task : Task) (start count : ℕ) (kind : GenKind) (shelf : GenState)
    → kind ≡ kind_for task
    → shelf ≡ record { kind = kind; start = start; count = count; first = unopened; second = unopened }
    → shelf ≡ made_shelf task start count
shelf_made task start count kind shelf k e = e ∙ ap (λ (x : GenKind). record {
  kind = x;
  start = start;
  count = count;
  first = unopened;
  second = unopened;
}) k

-- a task asks of that shelf what it asks of the made texts
asked_made : (task : Task) (start count : ℕ)
    → asked_of task (texts_in (stand_of (made_shelf task start count)) (names_of task [] []))
    ≡ asked_of task (made_texts task start count)
asked_made (Answer Map combine early) start count = refl
asked_made (Answer Queue combine early) start count = refl
asked_made (Answer Stab combine early) start count = refl
asked_made (Answer Dump combine early) start count = refl
asked_made (Eval uninit wide) start count = refl

-- the outside of the task's run: the shelf and the tally never fail
abbrev within : DeviceState → GenState → List ℕ → Outside
within device shelf tally = record {
  device = device;
  output = tallied tally [];
  stand = stand_of shelf;
  read_faults = 0;
  write_faults = 0;
}

-- So the task's run ended over the made texts.
pub ended_made : (task : Task) (start count : ℕ) (shape : ShapeNumbers) (blocks : ℕ)
    (device later : DeviceState) (shelf after : GenState) (tally last : List ℕ) (s : Status)
    → shelf ≡ made_shelf task start count → tally ≡ three 0 0 0
    → Ended true tallied (asked_of task (texts_in (stand_of shelf) (names_of task [] []))) shape blocks
    (within device shelf tally) (within later after last) s
    → Ended true tallied (asked_of task (made_texts task start count)) shape blocks
    (within device shelf (three 0 0 0)) (within later after last) s
ended_made task start count shape blocks device later shelf after tally last s e f r =
    let same : asked_of task (texts_in (stand_of shelf) (names_of task [] []))
    ≡ asked_of task (made_texts task start count) =
    ap (λ (g : GenState). asked_of task (texts_in (stand_of g) (names_of task [] []))) e
    ∙ asked_made task start count in
    subst (λ (t : List ℕ). Ended true tallied (asked_of task (made_texts task start count)) shape blocks
    (within device shelf t) (within later after last) s) f
    (subst (λ (a : Asked). Ended true tallied a shape blocks (within device shelf tally)
    (within later after last) s) same r)

-- The blocks that a run on the made texts may have in use, by their sizes as if they were read whole.
abbrev MostMade : Task → ℕ → ℕ → RigState → RigState → Type 0
MostMade task start count s t = (slots : Slot → SlotState)
    → KeepsRoom (asked_on (Made start count) task (made_texts task start count)) true s t slots

-- The task's run had no more in use.
pub most_made : (task : Task) (start count : ℕ) (s t : RigState) (shelf after : GenState)
    → shelf ≡ made_shelf task start count
    → KeepsRoom (asked_of task (texts_in (stand_of shelf) (names_of task [] []))) true s t (stand_of after).slot
    → MostMade task start count s t
most_made task start count s t shelf after e most = λ slots told d.
    let same : asked_of task (texts_in (stand_of shelf) (names_of task [] []))
    ≡ asked_of task (made_texts task start count) =
    ap (λ (g : GenState). asked_of task (texts_in (stand_of g) (names_of task [] []))) e
    ∙ asked_made task start count in
    most_whole (asked_of task (made_texts task start count)).room s.pool.shape (stand_of after).slot slots t.most
    (most_rises task (made_texts task start count) s.pool.shape (stand_of after).slot)
    (subst (λ (a : Asked). IfSome a.room (λ f. t.most ≤ f s.pool.shape (stand_of after).slot)) same (most told d))

never : Rose 0 0 → ⊥
never r = omega (arith, r)

-- what is left unsaid of an end with no summary is that the output stays
unless_summed : (s : Status) (P : Type 0) → P → UnlessSummed s P
unless_summed Done P p = tt
unless_summed WriteFault P p = tt
unless_summed (status.Usage kind word) P p = p
unless_summed (Malformed kind place) P p = p
unless_summed ReadFault P p = p
unless_summed DeviceFault P p = p
unless_summed (Full used) P p = p
unless_summed NoMemory P p = p
unless_summed (Damaged block) P p = p

-- The run of a task on such a shelf, whose tally was `first` at its start and `last` at its end.
module _ {W : Type 0} (w : SinkGhosts W) {IsState : List ℕ → Type 0} (rule : IsRule IsState w.took)
    (task : Task) (start count : ℕ) (s t : RigState) (shelf after : GenState) (first last : List ℕ) where
  abbrev RunEnded : Status → Type 0
  RunEnded status = Ended true tallied (asked_of task (made_texts task start count)) s.pool.shape
      s.blocks (within s.device shelf (three 0 0 0)) (within t.device after last) status

  abbrev RunCaused : Status → Type 0
  RunCaused status = Caused (within s.device shelf first) (within t.device after last) status

  -- It isn't done.
  pub made_stops : (out : W) (status : Status) → IsState (w.state out) → (status ≡ Done → ⊥)
      → OnUsage status ⊥ → OnNoMemory status ⊥ → RunEnded status → RunCaused status
      → MostMade task start count s t → RunsMade w task start count s t out out status
  made_stops out status ok n u m e c most = record {
    ended = λ stand faults. ends_unsummed rule task count (asked_of task (made_texts task start count))
        s.pool.shape s.blocks (beside stand faults w s.device out) (beside stand faults w t.device out)
        (stand_of shelf) (stand_of after) (tallied last []) ok status n (λ x. never (c.write x)) u
        (most_rises task (made_texts task start count) s.pool.shape (stand_of after).slot)
        (moves_rise task (made_texts task start count) s.pool.shape (stand_of after).slot) refl e;
    caused = λ stand faults. record {
      goes_on = record {
        told = c.goes_on.told;
        read = omega arith;
        write = omega arith;
        device = c.goes_on.device;
      };
      read = λ x. absurd (never (c.read x));
      write = λ x. absurd (never (c.write x));
      device = c.device;
    };
    most = most;
    no_read = λ x. never (c.read x);
    prints = unless_summed status (out ≡ out) refl;
    no_usage = u;
    no_memory = m;
  }

  -- It is done, and the summary was printed.
  pub made_done : (out out_after : W) (status : Status) → status ≡ Done → RunEnded status
      → RunCaused status
      → w.state out_after ≡ w.took (w.state out) (summary_text task count (tallied last []))
      → w.faults out ≤ w.faults out_after
      → IsState (w.state out) → MostMade task start count s t
      → RunsMade w task start count s t out out_after Done
  made_done out out_after status d e c all more ok most = record {
    ended = λ stand faults. ends_summed rule task count (asked_of task (made_texts task start count))
        s.pool.shape s.blocks (beside stand faults w s.device out)
        (beside stand faults w t.device out_after) (stand_of shelf) (stand_of after) (tallied last [])
        ok (moves_rise task (made_texts task start count) s.pool.shape (stand_of after).slot)
        (subst (λ (z : Status). RunEnded z) d e) all;
    caused = λ stand faults. record {
      goes_on = record {
        told = c.goes_on.told;
        read = omega arith;
        write = more;
        device = c.goes_on.device;
      };
      read = λ x. cc;
      write = λ x. cc;
      device = λ x. cc;
    };
    most = most;
    no_read = λ x. cc;
    prints = tt;
    no_usage = tt;
    no_memory = tt;
  }

  -- It is done, and the output failed at the summary.
  pub made_cut : (out out_after : W) (status : Status) → status ≡ Done → RunEnded status
      → RunCaused status
      → SentPart w.took (w.state out) (summary_text task count (tallied last []))
      (w.state out_after)
      → w.faults out ≤ w.faults out_after → Rose (w.faults out) (w.faults out_after)
      → IsState (w.state out) → MostMade task start count s t
      → RunsMade w task start count s t out out_after WriteFault
  made_cut out out_after status d e c part more rose ok most = record {
    ended = λ stand faults. ends_cut rule task count (asked_of task (made_texts task start count))
        s.pool.shape s.blocks (beside stand faults w s.device out)
        (beside stand faults w t.device out_after) (stand_of shelf) (stand_of after) (tallied last [])
        ok (moves_rise task (made_texts task start count) s.pool.shape (stand_of after).slot)
        (subst (λ (z : Status). RunEnded z) d e) part;
    caused = λ stand faults. record {
      goes_on = record {
        told = c.goes_on.told;
        read = omega arith;
        write = more;
        device = c.goes_on.device;
      };
      read = λ x. cc;
      write = λ x. rose;
      device = λ x. cc;
    };
    most = most;
    no_read = λ x. cc;
    prints = tt;
    no_usage = tt;
    no_memory = tt;
  }
