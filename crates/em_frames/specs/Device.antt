-- What a device tells of itself: the external memory of Aggarwal and Vitter's model, with faults.
use Rattle.std.specs.Prelude.{◌≡◌, ℕ, ◌≤◌, Bool, List, [], length, get_or, set, replicate, if◌then◌else◌, Result, OnErr}
use Rattle.em_record.specs.Count.{next_count, Rose}
use Rattle.em_record.specs.declared.record.Record.{Record}

-- Whether the device tells its contents, and the contents where it does; its number of blocks,
-- which is 0 before it was begun, and the records of a block; how often it failed, and how many
-- blocks it moved.
pub record DeviceState : Type 0 where
  pub told : Bool
  pub contents : List (List Record)
  pub blocks : ℕ
  pub block : ℕ
  pub faults : ℕ
  pub moves : ℕ

-- the contents of the block of this number
abbrev pub block_at : DeviceState → ℕ → List Record
block_at s at = get_or s.contents at []

abbrev pub zero_record : Record
zero_record = record { a = 0; b = 0; c = 0; d = 0 }

-- this many blocks of zero records
abbrev pub zero_blocks : ℕ → ℕ → List (List Record)
zero_blocks block blocks = replicate blocks (replicate block zero_record)

-- what a device tells once it was begun
abbrev pub fresh_contents : Bool → ℕ → ℕ → List (List Record)
fresh_contents told block blocks = if told then zero_blocks block blocks else []

-- The device was begun with these sizes.
pub record IsBegun (old new : DeviceState) (block blocks : ℕ) : Type 0 where
  pub block_is : new.block ≡ block
  pub blocks_is : new.blocks ≡ blocks
  pub contents : new.contents ≡ fresh_contents old.told block blocks

-- One block was moved, or was to be: the move is counted, the sizes stay, and a failure is a
-- counted fault.
pub record IsMove {T E : Type 0} (old new : DeviceState) (result : Result T E) : Type 0 where
  pub told : new.told ≡ old.told
  pub blocks : new.blocks ≡ old.blocks
  pub block : new.block ≡ old.block
  pub moves : new.moves ≡ next_count old.moves
  pub faults : old.faults ≤ new.faults
  pub cause : OnErr result (Rose old.faults new.faults)

-- The block of this number may have changed, and has this many records; no other changed.
pub record ChangesOnly (at len : ℕ) (old new : DeviceState) : Type 0 where
  pub left : List Record
  pub length_is : length left ≡ len
  pub is : new.contents ≡ set old.contents at left
