-- A run on made texts: docs/FORMATS.md, "Made texts" and "Output".
use Rattle.std.specs.Prelude.{ℕ, true, false, List, [], ◌∷◌, ◌++◌, Option, Some, None, codes, decimal, get_or}
use Rattle.em_record.specs.Shape.{ShapeNumbers}
use Rattle.em_io.specs.Shelf.{SlotState}
use Rattle.em_io.specs.declared.shelf.Slot.{Slot}
use Rattle.em_gen.specs.Tally.{tallied, three}
use Rattle.em_gen.specs.Texts.{made_text}
use Rattle.em_gen.specs.declared.kind.GenKind.{GenKind}
use Rattle.em_gen.specs.declared.kind.GenKind.TheVariants as gen
use Rattle.em_ends.specs.Asked.{Asked}
use Rattle.em_words.specs.Job.{task_name}
use Rattle.em_words.specs.declared.job.Task.{Task}
use Rattle.em_words.specs.declared.job.Task.TheVariants.{Answer, Eval}
use Rattle.em_ends.specs.declared.status.Status.{Status}
use Rattle.em_ends.specs.declared.status.Status.TheVariants.{Done}
use Rattle.em_lines.specs.declared.text.FileKind.TheVariants.{Map, Queue, Stab, Dump}

-- the kind of the texts that are made for a task; no words ask for made texts of a dump, which would be those of a map
abbrev pub kind_for : Task → GenKind
kind_for (Answer Map combine early) = gen.Map
kind_for (Answer Queue combine early) = gen.Queue
kind_for (Answer Stab combine early) = gen.Stab
kind_for (Answer Dump combine early) = gen.Map
kind_for (Eval uninit wide) = gen.Eval

-- the texts that are made for a task, by slot
abbrev pub made_texts : Task → ℕ → ℕ → Slot → List ℕ
made_texts task start count slot = made_text (kind_for task) slot start count

-- a slot that was read to its end
abbrev pub read_whole : SlotState
read_whole = record { opened = true; ready = true; lost = false; left = [] }

-- the tally of a text: its newlines, its bytes and their sum
abbrev pub tally_of : List ℕ → List ℕ
tally_of text = tallied (three 0 0 0) text

-- what stands before one of the numbers, and the number
abbrev pub labelled : List ℕ → List ℕ → ℕ → List ℕ
labelled line label number = (line ++ label) ++ decimal number

-- the summary of a task on made texts, by the three numbers of a tally
abbrev pub summary_text : Task → ℕ → List ℕ → List ℕ
summary_text task count tally =
    labelled
    (labelled
    (labelled
    (labelled (task_name task) (codes " ") count)
    (codes " lines ") (get_or tally 0 0))
    (codes " bytes ") (get_or tally 1 0))
    (codes " sum ") (get_or tally 2 0) ++ 10 ∷ []

-- the summary of a task on made texts, by what it prints
abbrev pub summary_of : Task → ℕ → List ℕ → List ℕ
summary_of task count answers = summary_text task count (tally_of answers)

-- the summary, if the task is due to be done
abbrev pub summary_if : Status → List ℕ → List ℕ
summary_if Done summary = summary
summary_if other summary = []

-- a number by how far each slot was read, if both texts are read whole
abbrev pub whole : Option (ShapeNumbers → (Slot → SlotState) → ℕ)
    → Option (ShapeNumbers → (Slot → SlotState) → ℕ)
whole None = None
whole (Some f) = Some (λ shape slots. f shape (λ slot. read_whole))

-- What a task on made texts asks, from what it asks of files with these texts: its status, its summary,
-- and the moves that it may make and the blocks that are enough for it if both texts are read whole.
abbrev pub summed_up : Task → ℕ → Asked → Asked
summed_up task count asked = record {
  status = asked.status;
  status_told = asked.status_told;
  output = summary_if asked.status (summary_of task count asked.output);
  moves = whole asked.moves;
  room = whole asked.room;
}
