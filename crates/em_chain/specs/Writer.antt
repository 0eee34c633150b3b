-- A list that is being written: the words of a chain, and its last block in a frame.
use Rattle.std.specs.Prelude.{◌≡◌, ℕ, zero, suc, ◌+◌, ◌-◌, ◌*◌, ◌≤◌, ◌<◌, ◌^◌, ◌⊎◌, List, [], ◌∷◌, ◌++◌, IsTrue, length}
use Rattle.em_record.specs.declared.record.Record.{Record}
use Rattle.em_frames.specs.Pool.{HasFrames}
use Rattle.em_space.specs.Free.{header, linked_from}
use Rattle.em_space.specs.Rig.{RigState}
use Rattle.em_space.specs.Held.{Holds, AllInUse, contents_of}
use Rattle.em_chain.specs.List.{Words, IsList, IsPackedIn, AllButLast, items_of, block_header}
use Rattle.em_chain.specs.Chain.{payload_in}
use Rattle.em_chain.specs.declared.writer.Writer.{Writer}

abbrev pub writer_words : Writer → Words
writer_words w = record {
  head = w.head;
  skip = w.skip;
  tail = w.tail;
  count = w.count;
  blocks = w.blocks;
}

-- the block that a link leads to, if any
abbrev pub linked : ℕ → List ℕ
linked zero = []
linked (suc k) = k ∷ []

-- what it will hold
abbrev pub pending : ℕ → List Record → List (List Record)
pending zero b = []
pending (suc k) b = b ∷ []

-- the blocks before the last
abbrev pub front : RigState → Writer → List ℕ
front s w = linked_from (w.blocks - 1) s.device.contents w.head

-- the blocks that the writer holds
abbrev pub writer_blocks : RigState → Writer → List ℕ
writer_blocks s w = front s w ++ linked w.tail

-- what the blocks will hold once the last one is stored
abbrev pub writer_contents : RigState → Writer → List (List Record)
writer_contents s w = contents_of s (front s w) ++ pending w.tail w.frame

-- the list that was written so far
abbrev pub writer_items : RigState → Writer → List Record
writer_items s w = items_of (writer_words w) (writer_contents s w)

-- What ties a writer to blocks of a device that tells.
pub record IsWritten (s : RigState) (w : Writer) : Type 0 where
  pub holds : Holds s (writer_blocks s w)
  pub list : IsList (payload_in s) (writer_words w) (writer_blocks s w) (writer_contents s w)

-- The last block is there exactly if a block is, and the frame has it.
pub record HasLast (s : RigState) (w : Writer) : Type 0 where
  pub none : w.blocks ≡ 0 → w.tail ≡ 0
  pub none_count : w.blocks ≡ 0 → w.count ≡ 0
  pub none_skip : w.blocks ≡ 0 → w.skip ≡ 0
  pub some : 0 < w.blocks → 0 < w.tail
  pub in_use : AllInUse s (linked w.tail)
  pub fill_is : 0 < w.tail → (header w.frame).b ≡ w.fill
  pub fill_low : 0 < w.tail → 1 ≤ w.fill
  pub fill_none : w.tail ≡ 0 → w.fill ≡ 0
  pub fill_most : w.fill ≤ payload_in s
  pub last : 0 < w.tail → header w.frame ≡ block_header 0 w.fill

-- A writer, its blocks and its frame. Of a device that doesn't tell, its numbers and its frame.
pub record IsWriter (s : RigState) (w : Writer) : Type 0 where
  pub count_most : w.count ≤ 2 ^ 56
  pub blocks_most : w.blocks ≤ 2 ^ 56
  pub frame : HasFrames 1 (length w.frame) s.pool
  pub last : HasLast s w
  pub told : IsTrue s.device.told → IsWritten s w

-- The frame is the pool's: what is left to ask after a fault.
abbrev pub WriterHasFrame : RigState → Writer → Type 0
WriterHasFrame s w = HasFrames 1 (length w.frame) s.pool

-- every block but the last is full, whatever is passed over
pub record IsTightSoFar (s : RigState) (w : Writer) : Type 0 where
  pub full : AllButLast (payload_in s) (writer_contents s w)

-- nothing is passed over, and every block but the last is full
pub record IsPackedSoFar (s : RigState) (w : Writer) : Type 0 where
  pub is : IsPackedIn (payload_in s) (writer_words w) (writer_contents s w)

-- places of its blocks that were gone through: full blocks, and the records of the last one
abbrev pub filled : RigState → Writer → ℕ
filled s w = payload_in s * (w.blocks - 1) + w.fill

-- the next record needs a block: there is none yet, or the last one is full
abbrev pub NeedsBlock : RigState → Writer → Type 0
NeedsBlock s w = (w.blocks ≡ 0) ⊎ (w.fill ≡ payload_in s)

-- a record and a block more are within the limits of a chain
pub record CanGrow (w : Writer) : Type 0 where
  pub count : w.count < 2 ^ 56
  pub blocks : w.blocks < 2 ^ 56

-- A call left the blocks of a writer alone.
pub record WriterStays (s t : RigState) (w : Writer) : Type 0 where
  pub is : IsWriter t w
  pub items : IsTrue s.device.told → writer_items t w ≡ writer_items s w
  pub blocks : IsTrue s.device.told → writer_blocks t w ≡ writer_blocks s w
  pub packed : IsTrue s.device.told → IsPackedSoFar s w → IsPackedSoFar t w
  pub tight : IsTrue s.device.told → IsTightSoFar s w → IsTightSoFar t w
  pub filled_is : filled t w ≡ filled s w
