-- Why a run stopped, by what was asked of it, and what a full device says then.
use Rattle.std.specs.Prelude.{◌≡◌, ℕ, ◌+◌, ◌-◌, ◌*◌, ◌≤◌, ◌^◌, ◌⊎◌, Bool, IsTrue, ◌<◌, IfSome}
use Rattle.em_record.specs.Count.{Rose}
use Rattle.em_io.specs.Shelf.{SlotState}
use Rattle.em_io.specs.declared.shelf.Slot.{Slot}
use Rattle.em_space.specs.Rig.{RigState, Cause}
use Rattle.em_ends.specs.Asked.{Asked, ToldIf}
use Rattle.em_ends.specs.Stop.{Faults}
use Rattle.em_ends.specs.declared.status.Status.TheVariants.{Malformed}
use Rattle.em_ends.specs.declared.stop.Stop.{Stop}
use Rattle.em_ends.specs.declared.stop.Stop.TheVariants.{Fault, Read, Write, Em}

-- A stop of a run has its cause: the fault that is due, if the shelf tells it and, if that is needed,
-- the device; a count of faults that rose; or what a call on the rig says.
abbrev pub RunCause : Bool → Asked → Faults → Faults → RigState → RigState → Stop → Type 0
RunCause tells asked faults after old new (Fault kind place) = IsTrue tells
    → ToldIf asked.status_told old.device.told → asked.status ≡ Malformed kind place
RunCause tells asked faults after old new Read = Rose faults.read after.read
RunCause tells asked faults after old new Write = Rose faults.write after.write
RunCause tells asked faults after old new (Em fault) = Cause old new fault

-- What a full device says of a run, by how far each slot was read: its blocks are at most the moves
-- and two for each frame, and fewer than those that are enough for the run.
pub record FillsRun (tells : Bool) (asked : Asked) (slots : Slot → SlotState) (new : RigState)
    (used : ℕ) : Type 0 where
  pub paid : (2 ^ 64 - 1 ≤ new.moves) ⊎ (used ≤ new.moves + 2 * new.pool.shape.frames)
  pub room : IsTrue tells → IsTrue new.device.told
      → IfSome asked.room (λ f. used < f new.pool.shape slots)
