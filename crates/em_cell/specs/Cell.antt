-- A number in one block of the device: what a cell holds, and what it means.
use Rattle.std.specs.Prelude.{◌≡◌, ℕ, List, [], ◌∷◌, length, IsTrue}
use Rattle.em_record.specs.declared.record.Record.{Record}
use Rattle.em_frames.specs.Device.{block_at}
use Rattle.em_frames.specs.Pool.{HasFrames}
use Rattle.em_space.specs.Free.{header}
use Rattle.em_space.specs.Rig.{RigState}
use Rattle.em_space.specs.Held.{Holds}
use Rattle.em_cell.specs.declared.cell.Cell.{Cell}
use Rattle.em_cell.specs.declared.pending.Pending.{Pending}

-- the first record of a block that keeps this number
abbrev pub cell_header : ℕ → Record
cell_header number = record { a = number; b = 0; c = 4; d = 0 }

-- the word c has the mark of a cell
abbrev pub HasMark : Record → Type 0
HasMark first = first.c ≡ 4

-- the blocks that a cell holds
abbrev pub blocks_of : Cell → List ℕ
blocks_of cell = cell.block ∷ []

-- the first record of its block, if the device tells
abbrev pub first_of : RigState → Cell → Record
first_of s cell = header (block_at s.device cell.block)

-- the number that it keeps, if the device tells
abbrev pub value : RigState → Cell → ℕ
value s cell = (first_of s cell).a

-- A cell holds its block, which has the mark.
pub record IsCell (s : RigState) (cell : Cell) : Type 0 where
  pub holds : Holds s (blocks_of cell)
  pub mark : IsTrue s.device.told → HasMark (first_of s cell)

-- It is a cell, of this number.
pub record Keeps (s : RigState) (number : ℕ) (cell : Cell) : Type 0 where
  pub is : IsCell s cell
  pub value_is : IsTrue s.device.told → value s cell ≡ number

-- the blocks that a number holds which isn't stored yet
abbrev pub pending_blocks : Pending → List ℕ
pending_blocks p = p.block ∷ []

-- the number that is to be stored
abbrev pub pending_number : Pending → ℕ
pending_number p = (header p.frame).a

-- its frame is the pool's, and is out
abbrev pub HasItsFrame : RigState → Pending → Type 0
HasItsFrame s p = HasFrames 1 (length p.frame) s.pool

-- A number that isn't stored yet holds its block, and a frame that has the mark.
pub record IsPending (s : RigState) (p : Pending) : Type 0 where
  pub holds : Holds s (pending_blocks p)
  pub frame_out : HasItsFrame s p
  pub mark : HasMark (header p.frame)
