-- What a command file asks of a run, by the limits of the structure that answers it.
use Rattle.std.specs.Prelude.{ℕ, ◌+◌, ◌*◌, Bool, List, false, Option, Some, None, take}
use Rattle.em_record.specs.Cost.{cost, room}
use Rattle.em_record.specs.Shape.{ShapeNumbers}
use Rattle.em_io.specs.Shelf.{SlotState}
use Rattle.em_io.specs.declared.shelf.Slot.{Slot}
use Rattle.em_io.specs.declared.shelf.Slot.TheVariants.{First}
use Rattle.em_model.specs.Map.{Combiner}
use Rattle.em_model.specs.declared.command.Command.{Command}
use Rattle.em_answers.specs.FileDue.{due_status, output_text}
use Rattle.em_lines.specs.CommandLine.{good_commands}
use Rattle.em_lines.specs.RunSize.{commands_taken, run_size, syncs_taken}
use Rattle.em_lines.specs.declared.text.FileKind.{FileKind}
use Rattle.em_lines.specs.declared.text.FileKind.TheVariants.{Map, Queue, Stab, Dump}
use Rattle.em_ends.specs.Asked.{Asked}
use Rattle.em_services.specs.BatchService.{map_size}

-- The most moves of a command file's run, for the end and for each sync that was taken, and the blocks that are enough
-- for it, each if its structure keeps to a number. Both go by the shape and a size: the blocks by the size of the run, the
-- moves by one that stands beside the limits. Both are said of a device that tells.
pub record Limits : Type 0 where
  pub moves : Option (ShapeNumbers → ℕ → ℕ)
  pub room : Option (ShapeNumbers → ℕ → ℕ)

-- the most moves of a run by its size, as often as syncs were taken and once more: the transfer cost, and for a dump, whose pairs
-- are taken out of a tree and listed, twice that
abbrev pub cost_for : FileKind → ShapeNumbers → ℕ → ℕ
cost_for Map shape n = cost shape n
cost_for Queue shape n = cost shape n
cost_for Stab shape n = cost shape n
cost_for Dump shape n = 2 * cost shape n

-- those of a structure for such a file, whose moves are within that, and its blocks within the room
abbrev pub by_cost : FileKind → Limits
by_cost kind = record { moves = Some (cost_for kind); room = Some room }

-- a number by size as one by how far each slot was read
abbrev pub sized : Option (ShapeNumbers → ℕ → ℕ) → ((Slot → SlotState) → ℕ)
    → Option (ShapeNumbers → (Slot → SlotState) → ℕ)
sized None size = None
sized (Some f) size = Some (λ shape slots. f shape (size slots))

-- how many syncs were taken of a text of this kind, where this much of it is left: only a text of a map's commands has any
abbrev pub syncs_in : FileKind → (text left : List ℕ) → ℕ
syncs_in Map text left = syncs_taken Map text left
syncs_in Queue text left = 0
syncs_in Stab text left = 0
syncs_in Dump text left = syncs_taken Dump text left

-- the commands that were taken of a text, where this much of it is left
abbrev pub taken_commands : FileKind → (text left : List ℕ) → List Command
taken_commands kind text left = take (commands_taken kind text left) (good_commands kind text)

-- a size of commands as one by how far a text was read: that of the commands that were taken
abbrev pub taken_size : (ShapeNumbers → List Command → ℕ) → FileKind → ShapeNumbers → (text left : List ℕ) → ℕ
taken_size size kind shape text left = size shape (taken_commands kind text left)

-- The size by which the moves of a file's run go, by how far its text was read: of a map that of the commands that were
-- taken, by whether adds are joined early; else the size of the run. A dump never joins adds early.
abbrev pub moves_size : FileKind → (early : Bool) → ShapeNumbers → (text left : List ℕ) → ℕ
moves_size Map early shape text left = taken_size (map_size early) Map shape text left
moves_size Queue early shape text left = run_size Queue text left
moves_size Stab early shape text left = run_size Stab text left
moves_size Dump early shape text left = run_size Dump text left

-- a number by a size that has the shape as one by how far each slot was read: as often as syncs were taken, and once more
abbrev pub for_each : Option (ShapeNumbers → ℕ → ℕ) → (syncs : (Slot → SlotState) → ℕ)
    → (size : ShapeNumbers → (Slot → SlotState) → ℕ) → Option (ShapeNumbers → (Slot → SlotState) → ℕ)
for_each None syncs size = None
for_each (Some f) syncs size = Some (λ shape slots. (syncs slots + 1) * f shape (size shape slots))

-- What a command file whose adds are joined so asks of a run with these limits. Its moves go by this size of what was read.
abbrev pub asked_by : Combiner → (size : ShapeNumbers → (text left : List ℕ) → ℕ) → Limits → FileKind → List ℕ → Asked
asked_by apply size limits kind text = record {
  status = due_status kind text;
  status_told = false;
  output = output_text apply kind text;
  moves = for_each limits.moves (λ slots. syncs_in kind text (slots First).left)
      (λ shape slots. size shape text (slots First).left);
  room = sized limits.room (λ slots. run_size kind text (slots First).left);
}

-- what a command file asks whose adds are joined so, early or not: its run is held to the transfer cost for its kind, and the room
abbrev pub asked_of_file : Combiner → (early : Bool) → FileKind → List ℕ → Asked
asked_of_file apply early kind text = asked_by apply (moves_size kind early) (by_cost kind) kind text

-- What the run of a queue is held to by itself: the room that it states, if it does. Of its moves its
-- allowance tells.
abbrev pub queue_limits : Option (ShapeNumbers → ℕ → ℕ) → Limits
queue_limits room = record { moves = None; room = room }
