-- The block of a leaf: a chain block of one record, the first four words of the leaf's chain.
use Rattle.std.specs.Prelude.{◌≡◌, ℕ, ◌+◌, ◌≤◌, List, [], ◌∷◌, get_or, set, IsTrue, Result, Ok, Err}
use Rattle.em_record.specs.Count.{next_count}
use Rattle.em_record.specs.Shape.{ShapeNumbers}
use Rattle.em_record.specs.declared.record.Record.{Record}
use Rattle.em_frames.specs.Device.{block_at, zero_record}
use Rattle.em_space.specs.Free.{header}
use Rattle.em_space.specs.Rig.{RigState, BlockCause, Goes, InUse, SameBlocks}
use Rattle.em_space.specs.declared.fault.EmFault.{EmFault}
use Rattle.em_chain.specs.Chain.{payload_in}
use Rattle.em_chain.specs.Counts.{ceiling}
use Rattle.em_chain.specs.List.{block_header}
use Rattle.em_chain.specs.declared.chain.Chain.{Chain}
use Rattle.em_leaf.specs.Leaf.{IsLeafChain, leaf_most}
use Rattle.em_tree_blocks.specs.Reading.{IsLeafAt, stored_chain}
use Rattle.em_tree_walk.specs.Reads.{ReadsFailing, ReadsOnly}

-- the record of a leaf block
abbrev pub leaf_record : Chain → Record
leaf_record x = record { a = x.head; b = x.skip; c = x.tail; d = x.count }

-- a frame that was made the block of a leaf with this chain
abbrev pub with_leaf : List Record → Chain → List Record
with_leaf block x = set (set block 0 (block_header 0 1)) 1 (leaf_record x)

-- A block is that of a leaf with at most 4·w·B records, of which none is passed over.
pub record IsLeafBlock (shape : ShapeNumbers) (block : List Record) : Type 0 where
  pub head : header block ≡ block_header 0 1
  pub skip : (get_or block 1 zero_record).b ≡ 0
  pub few : (get_or block 1 zero_record).d ≤ leaf_most shape

-- A block is that of a leaf between two loads, with at most 4·w·B records.
pub record IsSmallLeaf (s : RigState) (k : ℕ) : Type 0 where
  pub is : IsLeafAt s k
  pub few : (stored_chain s k).count ≤ leaf_most s.pool.shape

-- A block in use is that of a leaf. Of a device that doesn't tell, its range alone is known.
pub record LeadsToLeaf (s : RigState) (k : ℕ) : Type 0 where
  pub in_use : InUse s k
  pub told : IsTrue s.device.told → IsSmallLeaf s k

-- The chain of a leaf was read.
pub record ReadLeaf (s t : RigState) (k : ℕ) (stored : Chain) : Type 0 where
  pub reads : ReadsOnly 1 s t
  pub chain : IsLeafChain t stored
  pub is : IsTrue s.device.told → stored ≡ stored_chain s k

-- what reading it did, by its result
abbrev pub ReadsLeaf : RigState → RigState → ℕ → Result Chain EmFault → Type 0
ReadsLeaf s t k (Ok stored) = ReadLeaf s t k stored
ReadsLeaf s t k (Err fault) = ReadsFailing s t k fault

-- A move of a leaf's block: no block was taken or freed.
pub record MovesLeaf (s t : RigState) (k : ℕ) : Type 0 where
  pub goes : Goes (k ∷ []) s t
  pub same : SameBlocks s t
  pub moves : t.moves ≤ s.moves + 1
  pub moved : t.moves ≡ next_count s.moves

-- The block of a leaf with this chain was stored.
pub record StoredLeaf (s t : RigState) (k : ℕ) (stored : Chain) : Type 0 where
  pub moves : MovesLeaf s t k
  pub in_use : InUse t k
  pub head : IsTrue s.device.told → header (block_at t.device k) ≡ block_header 0 1
  pub is : IsTrue s.device.told → stored.blocks ≡ ceiling stored.count (payload_in s)
      → stored_chain t k ≡ stored

-- It couldn't be.
pub record StopsLeaf (s t : RigState) (k : ℕ) (fault : EmFault) : Type 0 where
  pub moves : MovesLeaf s t k
  pub cause : BlockCause s t fault

-- what storing it did, by its result
abbrev pub StoresLeaf : {T : Type 0} → RigState → RigState → ℕ → Chain → Result T EmFault → Type 0
StoresLeaf s t k stored (Ok x) = StoredLeaf s t k stored
StoresLeaf s t k stored (Err fault) = StopsLeaf s t k fault
