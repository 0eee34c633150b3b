-- What calls on chains leave of a rig.
use Rattle.std.specs.Prelude.{◌≡◌, ℕ, ◌+◌, ◌-◌, ◌^◌, ◌≤◌, ◌⊎◌, List, [], IsTrue, Result, IsOk}
use Rattle.em_record.specs.Count.{Rose}
use Rattle.em_frames.specs.Pool.{LentFrames, GivenFrames, singles_of}
use Rattle.em_space.specs.Rig.{RigState, Sound, Touches, SameBlocks}
use Rattle.em_space.specs.declared.fault.EmFault.{EmFault}
use Rattle.em_space.specs.declared.fault.EmFault.TheVariants.{DeviceFault, Full, Damaged}

-- A frame was lent, and no block was changed.
pub record LendsFrame (old new : RigState) : Type 0 where
  pub sound : Sound new
  pub touches : Touches [] old new
  pub frames : LentFrames 1 old.pool new.pool
  pub within : old.pool.free ≤ singles_of old.pool.shape

-- A frame came back, and only these blocks may have changed.
pub record GivesFrame (held : List ℕ) (old new : RigState) : Type 0 where
  pub sound : Sound new
  pub touches : Touches held old new
  pub frames : GivenFrames 1 old.pool new.pool

-- The device and all numbers are as they were.
pub record Unmoved (old new : RigState) : Type 0 where
  pub device : new.device ≡ old.device
  pub spare : new.spare ≡ old.spare
  pub same : SameBlocks old new
  pub moves : new.moves ≡ old.moves

-- No block was taken or freed, and at most this many moves were made.
pub record OnlyMoves (most : ℕ) (old new : RigState) : Type 0 where
  pub same : SameBlocks old new
  pub moves : new.moves ≤ old.moves + most

-- Over a device that tells what it holds and counts no fault in the call, the call is Ok.
abbrev pub Completes : {A : Type 0} → RigState → RigState → Result A EmFault → Type 0
Completes old new result = IsTrue old.device.told
    → (Rose old.device.faults new.device.faults → ⊥) → IsOk result

-- The blocks in use rose by at least this number less than the moves made, or the count of moves
-- stands at its end: what was owed is paid.
pub record Repays (n : ℕ) (old new : RigState) : Type 0 where
  pub is : (2 ^ 64 - 1 ≤ new.moves) ⊎ (new.used + old.moves + n ≤ old.used + new.moves)

-- P, where a block was needed and all are in use
abbrev pub OnFull : EmFault → Type 0 → Type 0
OnFull DeviceFault P = Unit {0}
OnFull (Full used) P = P
OnFull (Damaged block) P = Unit {0}
