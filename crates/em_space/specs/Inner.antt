-- The effects of the steps that the calls of a rig are made of.
use Rattle.std.specs.Prelude.{◌≡◌, ◌↔◌, ℕ, ◌≤◌, List, length, set}
use Rattle.em_record.specs.Count.{next_count}
use Rattle.em_record.specs.declared.record.Record.{Record}
use Rattle.em_space.specs.Free.{header, free_header}
use Rattle.em_space.specs.Rig.{RigState, SameBlocks}

-- The first of this many linked blocks has this header: a link to another exactly if there is one
-- more, and to a block of the device.
pub record IsFreeHeader (first : Record) (blocks count : ℕ) : Type 0 where
  pub is : first ≡ free_header first.a
  pub within : first.a ≤ blocks
  pub last : (first.a ≡ 0) ↔ (count ≤ 1)

-- A block was read, or was to be. Nothing but counts and the pool may have changed.
pub record Reads (old new : RigState) : Type 0 where
  pub name : new.name ≡ old.name
  pub told : new.device.told ≡ old.device.told
  pub contents : new.device.contents ≡ old.device.contents
  pub faults : old.device.faults ≤ new.device.faults
  pub blocks : new.blocks ≡ old.blocks
  pub same : SameBlocks old new
  pub spare : new.spare ≡ old.spare
  pub moves : new.moves ≡ next_count old.moves
  pub later : old.moves ≤ new.moves

-- The block has the header of a free one, with a link to those that were freed before.
pub record WritesLink (block : ℕ) (old new : RigState) : Type 0 where
  pub left : List Record
  pub header_is : header left ≡ free_header old.head
  pub length_is : length left ≡ old.pool.shape.block
  pub is : new.device.contents ≡ set old.device.contents block left
