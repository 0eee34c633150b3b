-- The effects of the calls on a cell, of a rig before and after.
use Rattle.std.specs.Prelude.{◌≡◌, ◌↔◌, ℕ, ◌+◌, ◌<◌, ◌≤◌, [], ◌∷◌, max, Result, Err, IfErr, IfOk, IsOk, IsTrue, OnOk}
use Rattle.em_record.specs.Count.{Rose, next_count}
use Rattle.em_frames.specs.Pool.{SameFrames, LentFrames}
use Rattle.em_space.specs.Rig.{RigState, BlockCause, Cause, Goes, IfDamaged, Owes, SameBlocks}
use Rattle.em_space.specs.Held.{NoneInUse}
use Rattle.em_space.specs.declared.fault.EmFault.{EmFault}
use Rattle.em_space.specs.declared.fault.EmFault.TheVariants.{DeviceFault, Full}
use Rattle.em_cell.specs.Cell.{IsPending, Keeps, blocks_of, pending_blocks, pending_number}
use Rattle.em_cell.specs.declared.cell.Cell.{Cell}
use Rattle.em_cell.specs.declared.pending.Pending.{Pending}

-- One block was moved, or was to be; no block was taken, and none was freed.
pub record MovesOne (old new : RigState) : Type 0 where
  pub blocks : SameBlocks old new
  pub moves : new.moves ≡ next_count old.moves

-- A cell of this number was made in a block that wasn't in use. The block is stored by one move,
-- and at most one more reads it where it was in use before.
pub record Makes (old new : RigState) (number : ℕ) (cell : Cell) : Type 0 where
  pub keeps : Keeps new number cell
  pub fresh : IsTrue old.device.told → NoneInUse old (blocks_of cell)
  pub used : new.used ≡ old.used + 1
  pub none_freed : old.head ≡ 0 → new.moves ≡ next_count old.moves
  pub some_freed : 0 < old.head → new.moves ≤ old.moves + 2

-- No cell was made. At most one block was taken, and none where no call of the device failed.
pub record MakesNone (old new : RigState) (fault : EmFault) : Type 0 where
  pub used_low : old.used ≤ new.used
  pub used_high : new.used ≤ old.used + 1
  pub others : (fault ≡ DeviceFault → ⊥) → SameBlocks old new

-- Why a call gave up that needs a new block. A block that isn't laid out is the first of those that
-- were freed.
pub record MakeCause (old new : RigState) (fault : EmFault) : Type 0 where
  pub cause : Cause old new fault
  pub damaged : IfDamaged fault (λ block. old.head ≡ block + 1)

-- A cell of this number was made, in a block that it stores and so pays for, or none was; no block
-- that was in use before was changed.
pub record MakesCell (number : ℕ) (old new : RigState) (result : Result Cell EmFault)
    : Type 0 where
  pub goes : Goes [] old new
  pub made : IfOk result (Makes old new number)
  pub none : IfErr result (MakesNone old new)
  pub paid : OnOk result (Owes 0 old new)

-- A new block was asked for: `Full` comes exactly if all blocks are in use, and over a device that
-- tells and counts no fault a call with another block left is Ok.
pub record TakesBlock {T : Type 0} (old new : RigState) (result : Result T EmFault)
    : Type 0 where
  pub most : new.most ≡ max old.most new.used
  pub full : (result ≡ Err (Full old.used)) ↔ (old.used ≡ old.blocks)
  pub complete : IsTrue old.device.told → old.used < old.blocks
      → (Rose old.device.faults new.device.faults → ⊥) → IsOk result
  pub cause : IfErr result (MakeCause old new)

-- The block of a cell was needed: over a device that tells and counts no fault it is as it was left,
-- and if a block isn't, it is the cell's.
pub record NeedsBlock {T : Type 0} (cell : Cell) (old new : RigState) (result : Result T EmFault)
    : Type 0 where
  pub complete : IsTrue old.device.told → (Rose old.device.faults new.device.faults → ⊥)
      → IsOk result
  pub cause : IfErr result (BlockCause old new)
  pub damaged : IfErr result (λ fault. IfDamaged fault (λ block. blocks_of cell ≡ block ∷ []))

-- A number waits with a frame for a block that wasn't in use.
pub record Awaits (old new : RigState) (number : ℕ) (p : Pending) : Type 0 where
  pub is : IsPending new p
  pub number_is : pending_number p ≡ number
  pub fresh : IsTrue old.device.told → NoneInUse old (pending_blocks p)
  pub used : new.used ≡ old.used + 1
  pub frames : LentFrames 1 old.pool new.pool

-- No block was taken, and no frame.
pub record AwaitsNone (old new : RigState) : Type 0 where
  pub blocks : SameBlocks old new
  pub frames : SameFrames old.pool new.pool

-- The number that waited is stored in its block.
pub record Finishes (new : RigState) (p : Pending) (cell : Cell) : Type 0 where
  pub keeps : Keeps new (pending_number p) cell
  pub blocks : blocks_of cell ≡ pending_blocks p

-- The block of the cell isn't in use any more.
pub record Ends (old new : RigState) (cell : Cell) : Type 0 where
  pub gone : IsTrue old.device.told → NoneInUse new (blocks_of cell)
  pub used : new.used + 1 ≡ old.used
