-- What a task asks of a run over the texts of its files.
use Rattle.std.specs.Prelude.{ℕ, List, Bool, true, false, IsTrue, Option}
use Rattle.em_record.specs.Shape.{ShapeNumbers}
use Rattle.em_io.specs.Shelf.{SlotState}
use Rattle.em_io.specs.declared.shelf.Slot.{Slot}
use Rattle.em_ends.specs.declared.status.Status.{Status}

-- The status and the output that are due at the end; the most moves that the run may make, and the blocks
-- that are enough for it, each if it is held to a number. Both are by the shape and by how far each slot was
-- read, and said of a device that tells what it holds. The status is said of every device, or only of such
-- a one.
pub record Asked : Type 0 where
  pub status : Status
  pub status_told : Bool
  pub output : List ℕ
  pub moves : Option (ShapeNumbers → (Slot → SlotState) → ℕ)
  pub room : Option (ShapeNumbers → (Slot → SlotState) → ℕ)

-- the device tells, if that is needed
abbrev pub ToldIf : Bool → Bool → Type 0
ToldIf false told = Unit {0}
ToldIf true told = IsTrue told
