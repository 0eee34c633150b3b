-- What an evaluation asks of a run, and the run of one.
use Rattle.std.specs.Prelude.{◌≡◌, ℕ, List, Bool, true, Option, Some, None, if◌then◌else◌}
use Rattle.em_io.specs.declared.shelf.Slot.TheVariants.{First, Second}
use Rattle.em_eval.specs.EvalDue.{eval_output, eval_status, job_fault}
use Rattle.em_eval.specs.EvalSize.{circuit_read, eval_cost, eval_room, passes_read, rounds_of, steps_read}
use Rattle.em_io.specs.Shelf.{by_slot}
use Rattle.em_io.specs.declared.shelf.Shelf.{Ghosts as ShelfGhosts}
use Rattle.em_io.specs.declared.sink.Sink.{Ghosts as SinkGhosts}
use Rattle.em_space.specs.Rig.{RigState}
use Rattle.em_ends.specs.Asked.{Asked}
use Rattle.em_ends.specs.Ended.{RunsFiles}
use Rattle.em_ends.specs.Opens.{text_in}
use Rattle.em_ends.specs.declared.status.Status.{Status}

-- What an evaluation asks, by the texts of the circuit and of the stimulus. Whether the circuit has
-- a fault is found from what the device gives back.
abbrev pub asked_of_eval : Bool → Option ℕ → List ℕ → List ℕ → Asked
asked_of_eval wide start circuit stimulus = record {
  status = eval_status wide start circuit stimulus;
  status_told = true;
  output = eval_output wide start circuit stimulus;
  moves = Some (λ shape slots. eval_cost shape (circuit_read start (slots First) circuit)
      (rounds_of wide (steps_read start circuit (slots Second) stimulus)) (passes_read start circuit));
  room = Some (λ shape slots. eval_room shape (circuit_read start (slots First) circuit));
}

-- the bit with which an uninitialised latch begins, as a number
abbrev pub start_of : Option Bool → Option ℕ
start_of None = None
start_of (Some bit) = Some (if bit then 1 else 0)

-- The run of an evaluation of the circuit of the first name on the stimulus of the second, on a rig of which no
-- block is or was in use. The stimulus is opened only if the circuit has no fault for the job.
abbrev pub RunsEval : {H W : Type 0} → ShelfGhosts H → SinkGhosts W → Option Bool → Bool → List ℕ → List ℕ
    → RigState → RigState → H → W → H → W → Status → Type 0
RunsEval h w uninit wide circuit stimulus s t shelf out shelf_after out_after status =
    RunsFiles h w (asked_of_eval wide (start_of uninit) (text_in (h.stand shelf) First (Some circuit))
    (text_in (h.stand shelf) Second (Some stimulus)))
    (job_fault wide (start_of uninit) (text_in (h.stand shelf) First (Some circuit)) ≡ None)
    (by_slot (Some circuit) (Some stimulus)) s t shelf out shelf_after out_after status
