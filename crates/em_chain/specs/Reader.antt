-- A list that is being read: the words of what is left, and its first block in a frame.
use Rattle.std.specs.Prelude.{◌≡◌, ℕ, ◌+◌, ◌-◌, ◌*◌, ◌≤◌, ◌<◌, List, [], IsTrue, length, if◌then◌else◌, Bool, true, false}
use Rattle.em_record.specs.declared.record.Record.{Record}
use Rattle.em_frames.specs.Device.{block_at}
use Rattle.em_frames.specs.Pool.{HasFrames}
use Rattle.em_space.specs.Free.{header}
use Rattle.em_space.specs.Rig.{RigState, InUse}
use Rattle.em_chain.specs.List.{block_header}
use Rattle.em_chain.specs.Chain.{payload_in, IsChain, IsTight, chain_blocks, chain_items}
use Rattle.em_chain.specs.View.{IsView}
use Rattle.em_chain.specs.declared.reader.Reader.{Reader}
use Rattle.em_chain.specs.declared.chain.Chain.{Chain}

-- what is left
abbrev pub rest_of : Reader → Chain
rest_of r = record {
  head = r.head;
  skip = r.skip;
  tail = r.tail;
  count = r.count;
  blocks = r.blocks;
}

abbrev pub reader_items : RigState → Reader → List Record
reader_items s r = chain_items s (rest_of r)

-- the blocks that it holds: none where it leaves them to a chain
abbrev pub reader_blocks : RigState → Reader → List ℕ
reader_blocks s r = if r.taking then chain_blocks s (rest_of r) else []

-- The frame has the first block of what is left.
pub record IsLoaded (s : RigState) (r : Reader) : Type 0 where
  pub blocks : 0 < r.blocks
  pub count : 0 < r.count
  pub head : 0 < r.head
  pub in_use : InUse s (r.head - 1)
  pub is : header r.frame ≡ block_header (header r.frame).a (header r.frame).b
  pub skip : r.skip < (header r.frame).b
  pub most : (header r.frame).b ≤ payload_in s
  pub same : IsTrue s.device.told → r.frame ≡ block_at s.device (r.head - 1)

-- A reader: what is left is a view, or a chain if the reader takes it, and the reader has a frame.
pub record IsReader (s : RigState) (r : Reader) : Type 0 where
  pub chain : IsView s (rest_of r)
  pub closed : r.taking ≡ true → IsChain s (rest_of r)
  pub frame : HasFrames 1 (length r.frame) s.pool
  pub loaded : IsTrue r.loaded → IsLoaded s r

-- The frame is the pool's: what is left to ask after a fault.
abbrev pub ReaderHasFrame : RigState → Reader → Type 0
ReaderHasFrame s r = HasFrames 1 (length r.frame) s.pool

-- the moves that reading the rest may still take
abbrev pub owed : Reader → ℕ
owed r = (if r.taking then 2 * r.blocks else r.blocks) - (if r.loaded then 1 else 0)

-- a record is left, and the first block has to be loaded
pub record NeedsLoad (r : Reader) : Type 0 where
  pub count : 0 < r.count
  pub unloaded : r.loaded ≡ false

-- a reader with the first block in its frame
pub record IsReady (s : RigState) (r : Reader) : Type 0 where
  pub is : IsReader s r
  pub loaded : IsLoaded s r

-- the next record is the last one of that block
pub record IsAtLast (s : RigState) (r : Reader) : Type 0 where
  pub ready : IsReady s r
  pub last : r.skip + 1 ≡ (header r.frame).b

-- A call left the blocks of what is left alone.
pub record ReaderStays (s t : RigState) (r : Reader) : Type 0 where
  pub is : IsReader t r
  pub items : IsTrue s.device.told → reader_items t r ≡ reader_items s r
  pub blocks : IsTrue s.device.told
      → chain_blocks t (rest_of r) ≡ chain_blocks s (rest_of r)
  pub tight : IsTrue s.device.told → IsTight s (rest_of r) → IsTight t (rest_of r)
  pub closed : IsChain s (rest_of r) → IsChain t (rest_of r)

-- how the last record of a block leads on
pub record LeadsOn (link blocks count : ℕ) (taking : Bool) : Type 0 where
  pub last : blocks ≡ 1 → count ≡ 1
  pub closed : blocks ≡ 1 → taking ≡ true → link ≡ 0
  pub more : 1 < blocks → (0 < link) × (1 < count)
