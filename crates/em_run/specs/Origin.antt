-- Where the texts of a run come from, and what follows for what is due.
use Rattle.std.specs.Prelude.{◌≡◌, ℕ, Bool, true, List}
use Rattle.em_io.specs.Shelf.{SlotState}
use Rattle.em_io.specs.declared.shelf.Slot.{Slot}
use Rattle.em_ends.specs.Asked.{Asked}
use Rattle.em_run.specs.Tasks.{asked_of}
use Rattle.em_run.specs.Made.{read_whole, summed_up}
use Rattle.em_words.specs.declared.job.Origin.{Origin}
use Rattle.em_words.specs.declared.job.Origin.TheVariants.{Files, Made}
use Rattle.em_words.specs.declared.job.Task.{Task}
use Rattle.em_ends.specs.declared.status.Status.{Status}
use Rattle.em_ends.specs.declared.status.Status.TheVariants.{Done, ReadFault, WriteFault}

-- whether the texts are known: files are if the shelf tells them
abbrev pub tells_of : Origin → Bool → Bool
tells_of Files tells = tells
tells_of (Made start count) tells = true

-- how far each slot is read that a size is said of: made texts count whole
abbrev pub slots_of : Origin → (Slot → SlotState) → Slot → SlotState
slots_of Files slots = slots
slots_of (Made start count) slots = λ slot. read_whole

-- what a task asks over these texts
abbrev pub asked_on : Origin → Task → (Slot → List ℕ) → Asked
asked_on Files task texts = asked_of task texts
asked_on (Made start count) task texts = summed_up task count (asked_of task texts)

-- P, if the texts are made
abbrev pub OnMade : Origin → Type 0 → Type 0
OnMade Files P = Unit {0}
OnMade (Made start count) P = P

-- P, unless a summary was printed, or its printing began
abbrev pub UnlessSummed : Status → Type 0 → Type 0
UnlessSummed Done P = Unit {0}
UnlessSummed WriteFault P = Unit {0}
UnlessSummed other P = P

-- A run on made texts leaves the shelf as it was and has no fault of it. Of the output it takes its
-- summary alone, and nothing at an end without one.
pub record LeavesOutside {H W : Type 0} (shelf : H) (out : W) (shelf_after : H) (out_after : W)
    (status : Status) : Type 0 where
  pub stays : shelf_after ≡ shelf
  pub no_read : status ≡ ReadFault → ⊥
  pub prints : UnlessSummed status (out_after ≡ out)
