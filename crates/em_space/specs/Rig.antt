-- A rig: a device of which some blocks are in use, and the frames of a run.
use Rattle.std.specs.Prelude.{◌≡◌, ℕ, ◌+◌, ◌-◌, ◌^◌, ◌<◌, ◌≤◌, ◌⊎◌, IsTrue, IsFalse, List, [], length, get_or}
use base.Fml.{GName}
use Rattle.em_record.specs.Count.{next_count, Rose}
use Rattle.em_record.specs.Shape.{IsShape}
use Rattle.em_record.specs.declared.record.Record.{Record}
use Rattle.em_frames.specs.Device.{DeviceState, block_at, fresh_contents}
use Rattle.em_frames.specs.Pool.{PoolCounts, SameFrames, singles_of}
use Rattle.em_frames.specs.declared.device.BeginFault.{BeginFault}
use Rattle.em_frames.specs.declared.device.BeginFault.TheVariants as begin
use Rattle.em_space.specs.Free.{Off, AreBelow, AreSpare, IsFreeList, IsTaken}
use Rattle.em_space.specs.declared.fault.EmFault.{EmFault}
use Rattle.em_space.specs.declared.fault.EmFault.TheVariants.{DeviceFault, Full, Damaged}

-- The name of the borrowed device, what the device tells, and the pool; the number of blocks, the
-- link to the first block that was freed and written as free, the numbers of those that were freed and
-- are kept in memory, how many are in use, the greatest number that were in use at once, and the
-- moves, since the rig was opened.
pub record RigState : Type 0 where
  pub name : GName
  pub device : DeviceState
  pub pool : PoolCounts
  pub blocks : ℕ
  pub head : ℕ
  pub spare : List ℕ
  pub used : ℕ
  pub most : ℕ
  pub moves : ℕ

-- The numbers of a rig: a device has 1 to 2 ^ 40 blocks. Of the first blocks, up to the most that
-- were in use at once, this many free ones are kept in memory, and some more are free exactly if there
-- is a link to one.
pub record AreNumbers (blocks head spare used most : ℕ) : Type 0 where
  pub blocks_low : 0 < blocks
  pub blocks_high : blocks ≤ 2 ^ 40
  pub used_most : used ≤ most
  pub most_high : most ≤ blocks
  pub head_high : head ≤ blocks
  pub spare_most : used + spare ≤ most
  pub none_freed : head ≡ 0 → used + spare ≡ most
  pub some_freed : 0 < head → used + spare < most

-- the blocks to which no link leads, of those that were ever in use
abbrev pub unlinked : RigState → ℕ
unlinked s = s.used + length s.spare

-- this many blocks of this many records are told
pub record IsLaidOut (contents : List (List Record)) (blocks block : ℕ) : Type 0 where
  pub length_is : length contents ≡ blocks
  pub lens : (k : ℕ) → k < blocks → length (get_or contents k []) ≡ block

-- The numbers, the pool and the device agree. It holds after `open` and at every exit of a call.
pub record Sound (s : RigState) : Type 0 where
  pub blocks_is : s.device.blocks ≡ s.blocks
  pub block_is : s.device.block ≡ s.pool.shape.block
  pub moves_is : s.device.moves ≡ s.moves
  pub shape : IsShape s.pool.shape
  pub singles : s.pool.free ≤ singles_of s.pool.shape
  pub areas : s.pool.free_areas ≤ 2
  pub numbers : AreNumbers s.blocks s.head (length s.spare) s.used s.most
  pub told : IsTrue s.device.told → IsLaidOut s.device.contents s.blocks s.pool.shape.block
  pub free : IsTrue s.device.told → IsFreeList s.device.contents s.most (unlinked s) s.head
  pub spare_below : AreBelow s.blocks s.spare
  pub spare : IsTrue s.device.told
      → AreSpare s.device.contents s.most (unlinked s) s.head s.spare

-- The block of this number is in use. Of a device that doesn't tell, only the range is known.
pub record InUse (s : RigState) (k : ℕ) : Type 0 where
  pub told : IsTrue s.device.told
      → IsTaken s.device.contents s.most (unlinked s) s.head k × Off k s.spare
  pub untold : IsFalse s.device.told → k < s.blocks

-- the block stays in use with its contents
pub record Stays (old new : RigState) (k : ℕ) : Type 0 where
  pub in_use : InUse new k
  pub contents : block_at new.device k ≡ block_at old.device k

-- The frame condition: of the blocks in use only those of a list may have changed or been released.
pub record Touches (held : List ℕ) (old new : RigState) : Type 0 where
  pub name : new.name ≡ old.name
  pub told : new.device.told ≡ old.device.told
  pub blocks : new.blocks ≡ old.blocks
  pub shape : new.pool.shape ≡ old.pool.shape
  pub faults : old.device.faults ≤ new.device.faults
  pub most : old.most ≤ new.most
  pub moves : old.moves ≤ new.moves
  pub others : IsTrue old.device.told → (k : ℕ) → InUse old k → Off k held → Stays old new k

-- What holds after a call that may have changed the blocks of a list, whether it gave up or not.
pub record Goes (held : List ℕ) (old new : RigState) : Type 0 where
  pub sound : Sound new
  pub touches : Touches held old new
  pub frames : SameFrames old.pool new.pool

-- Why a call gave up: the device's count of faults rose; all blocks are in use, also if a call of the
-- device failed before; or, over a device that doesn't tell what it holds, a block isn't laid out as
-- it was left.
abbrev pub Cause : RigState → RigState → EmFault → Type 0
Cause old new DeviceFault = Rose old.device.faults new.device.faults
Cause old new (Full used) = (used ≡ new.blocks) × (new.used ≡ new.blocks)
Cause old new (Damaged block) = IsFalse new.device.told × (block < new.blocks)

-- why a call gave up that needs no new block
abbrev pub BlockCause : RigState → RigState → EmFault → Type 0
BlockCause old new DeviceFault = Rose old.device.faults new.device.faults
BlockCause old new (Full used) = ⊥
BlockCause old new (Damaged block) = IsFalse new.device.told × (block < new.blocks)

-- P of the number of blocks, where all are in use
abbrev pub IfFull : EmFault → (ℕ → Type 0) → Type 0
IfFull DeviceFault P = Unit {0}
IfFull (Full used) P = P used
IfFull (Damaged block) P = Unit {0}

-- P of the block, where one isn't laid out
abbrev pub IfDamaged : EmFault → (ℕ → Type 0) → Type 0
IfDamaged DeviceFault P = Unit {0}
IfDamaged (Full used) P = Unit {0}
IfDamaged (Damaged block) P = P block

-- why a call gave up that needs no new block and tests none
pub record DeviceCause (old new : RigState) (fault : EmFault) : Type 0 where
  pub is : fault ≡ DeviceFault
  pub rose : Rose old.device.faults new.device.faults

-- The blocks in use rose by at most this number more than the moves made, or the count of moves
-- stands at its end. A call that stores the blocks that it takes owes none; one that keeps some in
-- frames, to store them later, owes those.
pub record Owes (n : ℕ) (old new : RigState) : Type 0 where
  pub is : (2 ^ 64 - 1 ≤ new.moves) ⊎ (new.used + old.moves ≤ old.used + new.moves + n)

-- A rig was opened over a device: no block is or was in use, none was moved, and the pool is as it
-- was given.
pub record Opens (device : DeviceState) (pool : PoolCounts) (blocks : ℕ) (new : RigState)
    : Type 0 where
  pub sound : Sound new
  pub told : new.device.told ≡ device.told
  pub faults : device.faults ≤ new.device.faults
  pub unmoved : new.device.moves ≡ device.moves
  pub contents : new.device.contents ≡ fresh_contents device.told pool.shape.block blocks
  pub pool_is : new.pool ≡ pool
  pub blocks_is : new.blocks ≡ blocks
  pub none_used : new.used ≡ 0
  pub none_ever : new.most ≡ 0
  pub none_freed : new.head ≡ 0
  pub none_spare : new.spare ≡ []
  pub none_moved : new.moves ≡ 0

-- A device wasn't begun, and the pool goes back.
pub record Refuses (old new : DeviceState) (pool back : PoolCounts) (fault : BeginFault)
    : Type 0 where
  pub told : new.told ≡ old.told
  pub faults : old.faults ≤ new.faults
  pub unmoved : new.moves ≡ old.moves
  pub pool_is : back ≡ pool
  pub cause : fault ≡ begin.Failed → Rose old.faults new.faults

-- No block came to be in use.
pub record NoneNew (old new : RigState) : Type 0 where
  pub is : IsTrue old.device.told → (j : ℕ) → InUse new j → InUse old j

-- The block wasn't in use, and is from now on; no other came to be in use.
pub record Allocates (old new : RigState) (k : ℕ) : Type 0 where
  pub fresh : IsTrue old.device.told → InUse old k → ⊥
  pub in_use : InUse new k
  pub others : IsTrue old.device.told → (j : ℕ) → InUse new j → (j ≡ k) ⊎ InUse old j
  pub below : k < new.blocks
  pub used : new.used ≡ old.used + 1

-- The block was in use, and isn't any more.
pub record Releases (old new : RigState) (k : ℕ) : Type 0 where
  pub gone : IsTrue old.device.told → InUse new k → ⊥
  pub used : new.used + 1 ≡ old.used

-- As many blocks are in use, and were at most, and the first of those that were freed is the same.
pub record SameBlocks (old new : RigState) : Type 0 where
  pub head : new.head ≡ old.head
  pub used : new.used ≡ old.used
  pub most : new.most ≡ old.most

-- A block comes with no move where its number is in memory, or where none is linked; else the first of
-- those that are is read.
pub record MovesToAlloc (old new : RigState) : Type 0 where
  pub none_freed : old.head ≡ 0 → new.moves ≡ old.moves
  pub some_freed : 0 < old.head → new.moves ≤ old.moves + 1
  pub some_spare : 0 < length old.spare → new.moves ≡ old.moves
  pub none_spare : length old.spare ≡ 0 → 0 < old.head → new.moves ≡ next_count old.moves

-- One block was moved, or was to be; the blocks in use and the frames are the same.
pub record Transfers (old new : RigState) : Type 0 where
  pub blocks : SameBlocks old new
  pub none_new : NoneNew old new
  pub used : new.used ≡ old.used
  pub moves : new.moves ≡ next_count old.moves
  pub pool : new.pool ≡ old.pool

-- At most one move, and none where a number has room in memory; but none, and nothing else either,
-- where no block is in use, which only a device that doesn't tell what it holds allows.
pub record MovesToRelease (old new : RigState) : Type 0 where
  pub none_used : old.used ≡ 0 → new ≡ old
  pub some_used : 0 < old.used → new.moves ≤ old.moves + 1
  pub has_room : length old.spare < 512 → new.moves ≡ old.moves
  pub has_none : 0 < old.used → 512 ≤ length old.spare → new.moves ≡ next_count old.moves
