-- The stated bounds of a run, by its size.
use Rattle.std.specs.Prelude.{ℕ, ◌+◌, ◌*◌, List, min}
use Rattle.em_record.specs.Cost.{room}
use Rattle.em_record.specs.Shape.{ShapeNumbers}
use Rattle.em_io.specs.Shelf.{SlotState}
use Rattle.em_io.specs.declared.shelf.Slot.{Slot}
use Rattle.em_io.specs.declared.shelf.Slot.TheVariants.{First, Second}
use Rattle.em_eval.specs.EvalSize.{circuit_read, eval_cost, eval_room, passes_read, rounds_of, steps_read}
use Rattle.em_lines.specs.RunSize.{run_size}
use Rattle.em_words.specs.declared.job.Task.{Task}
use Rattle.em_words.specs.declared.job.Task.TheVariants.{Answer, Eval}
use Rattle.em_eval.specs.EvalRun.{start_of}
use Rattle.em_answers.specs.Limits.{cost_for, moves_size, syncs_in}

-- the transfer cost of a run's size, by the text of each slot and how far it was read; of a map as often as syncs were
-- taken, and once more, and if its adds are joined early, of the size that joining leaves; of a dump twice as much as of a map
abbrev pub transfer_bound : Task → ShapeNumbers → (Slot → List ℕ) → (Slot → SlotState) → ℕ
transfer_bound (Answer kind combine early) shape texts slots = (syncs_in kind (texts First) (slots First).left + 1)
    * cost_for kind shape (moves_size kind early shape (texts First) (slots First).left)
transfer_bound (Eval uninit wide) shape texts slots =
    eval_cost shape (circuit_read (start_of uninit) (slots First) (texts First))
    (rounds_of wide (steps_read (start_of uninit) (texts First) (slots Second) (texts Second)))
    (passes_read (start_of uninit) (texts First))

-- the room of a run's size, by the same; of an evaluation that of twice its circuit's size
abbrev pub size_room : Task → ShapeNumbers → (Slot → List ℕ) → (Slot → SlotState) → ℕ
size_room (Answer kind combine early) shape texts slots = room shape (run_size kind (texts First) (slots First).left)
size_room (Eval uninit wide) shape texts slots =
    eval_room shape (circuit_read (start_of uninit) (slots First) (texts First))

-- The blocks that are enough for a run, by the same: the room of its size; or one more than can be in use,
-- if that is less, since all blocks but two for each frame were moved.
abbrev pub stated_room : Task → ShapeNumbers → (Slot → List ℕ) → (Slot → SlotState) → ℕ
stated_room task shape texts slots =
    min (size_room task shape texts slots) (transfer_bound task shape texts slots + 2 * shape.frames + 1)
