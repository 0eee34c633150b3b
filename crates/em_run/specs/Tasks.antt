-- What each task asks of a run over its files.
use Rattle.std.specs.Prelude.{ℕ, List, Bool, Option, Some, None, ◌≡◌}
use Rattle.em_io.specs.declared.shelf.Slot.{Slot}
use Rattle.em_io.specs.declared.shelf.Slot.TheVariants.{First, Second}
use Rattle.em_words.specs.declared.job.Task.{Task}
use Rattle.em_words.specs.declared.job.Task.TheVariants.{Answer, Eval}
use Rattle.em_ends.specs.declared.status.Status.{Status}
use Rattle.em_eval.specs.EvalRun.{start_of, asked_of_eval}
use Rattle.em_io.specs.Shelf.{Stand, by_slot}
use Rattle.em_ends.specs.Asked.{Asked}
use Rattle.aig_defs.specs.declared.fault.AigKind.{AigKind}
use Rattle.em_ends.specs.Opens.{OpensSlots, text_in, texts_in}
use Rattle.em_io.specs.declared.shelf.Shelf.{Ghosts as ShelfGhosts}
use Rattle.em_io.specs.declared.sink.Sink.{Ghosts as SinkGhosts}
use Rattle.em_space.specs.Rig.{RigState}
use Rattle.em_ends.specs.Ended.{RunsFiles}
use Rattle.em_eval.specs.EvalDue.{job_fault}
use Rattle.em_answers.specs.Limits.{asked_of_file}
use Rattle.em_settle.specs.Add.{apply_of}

-- what a task asks, by the text of each slot
abbrev pub asked_of : Task → (Slot → List ℕ) → Asked
asked_of (Answer kind combine early) texts = asked_of_file (apply_of combine) early kind (texts First)
asked_of (Eval uninit wide) texts =
    asked_of_eval wide (start_of uninit) (texts First) (texts Second)

-- the name of each slot's file, if the task opens the slot, by the words of its operands
abbrev pub names_of : Task → List ℕ → List ℕ → Slot → Option (List ℕ)
names_of (Answer kind combine early) first second = by_slot (Some first) None
names_of (Eval uninit wide) first second = by_slot (Some first) (Some second)

-- the first fault of a circuit for a task
abbrev pub fault_for : Task → List ℕ → Option (AigKind × ℕ)
fault_for (Answer kind combine early) text = None
fault_for (Eval uninit wide) text = job_fault wide (start_of uninit) text

-- What a run does to the shelf, as `OpensSlots`: the second slot, that of a stimulus, is opened only if the
-- circuit has no fault for the task.
abbrev pub OpensNamed : Task → Bool → Bool → (Slot → Option (List ℕ)) → Stand → Stand → Status → Type 0
OpensNamed task tells told names old new status =
    OpensSlots (fault_for task (text_in old First (names First)) ≡ None) tells told names old new status

-- The run of a task over the files of these names, on a rig of which no block is or was in use.
abbrev pub RunsTask : {H W : Type 0} → ShelfGhosts H → SinkGhosts W → Task
    → (Slot → Option (List ℕ)) → RigState → RigState → H → W → H → W → Status → Type 0
RunsTask h w task names s t shelf out shelf_after out_after status =
    RunsFiles h w (asked_of task (texts_in (h.stand shelf) names))
    (fault_for task (text_in (h.stand shelf) First (names First)) ≡ None) names s t shelf out
    shelf_after out_after status
