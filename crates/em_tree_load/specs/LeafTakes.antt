-- The first records of a leaf, taken out of it into an area.
use Rattle.std.specs.Prelude.{◌≡◌, ℕ, ◌+◌, ◌-◌, ◌*◌, ◌%◌, ◌≤◌, nat_le, if◌then◌else◌, List, ◌++◌, drop, take, IsTrue, Result, Ok, Err}
use Rattle.em_record.specs.declared.record.Record.{Record}
use Rattle.em_frames.specs.Pool.{SameFrames}
use Rattle.em_space.specs.Held.{Holds}
use Rattle.em_space.specs.Ledger.{Session}
use Rattle.em_space.specs.Queue.{Pays}
use Rattle.em_space.specs.Rig.{BlockCause, Goes, InUse, RigState}
use Rattle.em_space.specs.declared.fault.EmFault.{EmFault}
use Rattle.em_chain.specs.Chain.{chain_items, payload_in}
use Rattle.em_chain.specs.Counts.{ceiling}
use Rattle.em_chain.specs.declared.chain.Chain.{Chain}
use Rattle.em_leaf.specs.Leaf.{IsLeafChain}
use Rattle.em_tree_blocks.specs.Reading.{IsLeafAt, stored_chain, tree_blocks}
use Rattle.em_tree_load.specs.Peaks.{Peaks}
use Rattle.em_tree_walk.specs.Paid.{LosesNone}

-- how many of n records are taken if at most this many may be: all; if that is too many, as many as
-- fill whole blocks of this payload
abbrev pub taken_count : ℕ → ℕ → ℕ → ℕ
taken_count payload most n = if nat_le n most then n else most - most % payload

-- The chain of a leaf's block, whose blocks nobody else holds.
pub record HoldsLeaf (s : RigState) (leaf : ℕ) (stored : Chain) : Type 0 where
  pub stored_is : stored ≡ stored_chain s leaf
  pub at_leaf : IsLeafAt s leaf
  pub holds : Holds s (tree_blocks 0 s leaf)

-- What taking records asks. Of a device that doesn't tell, the range of the leaf's block and the numbers
-- of its chain are known.
pub record CanTakeLeaf (s : RigState) (leaf : ℕ) (stored : Chain) : Type 0 where
  pub in_use : InUse s leaf
  pub chain : IsLeafChain s stored
  pub told : IsTrue s.device.told → HoldsLeaf s leaf stored

-- Over a device that tells: the leaf's first n records stand in the area from a place on, and the
-- others are stored in the leaf.
pub record TakesRecords (s t : RigState) (leaf : ℕ) (area : List Record) (from n : ℕ) : Type 0 where
  pub at_leaf : IsLeafAt t leaf
  pub items : chain_items s (stored_chain s leaf)
      ≡ take n (drop from area) ++ chain_items t (stored_chain t leaf)
  pub count : (stored_chain t leaf).count + n ≡ (stored_chain s leaf).count
  pub moves : t.moves ≤ s.moves + 2 * ceiling n (payload_in s) + 3

-- Records were taken out of a leaf: as many as were due. What stood in the area before that place stays. If
-- all were taken, each block of the chain cost two moves, and the leaf's one.
pub record TookLeaf (s t : RigState) (leaf : ℕ) (stored : Chain) (old new : List Record)
    (from most n : ℕ) : Type 0 where
  pub count : n ≡ taken_count (payload_in s) most stored.count
  pub session : Session (tree_blocks 0 s leaf) s t (tree_blocks 0 t leaf)
  pub frames : SameFrames s.pool t.pool
  pub pays : Pays 0 0 s t
  pub loses : LosesNone (tree_blocks 0 s leaf) (tree_blocks 0 t leaf) s t
  pub kept : take from new ≡ take from old
  pub moves : t.moves ≤ s.moves + 2 * stored.blocks + 1
  pub peaks : Peaks 0 s t
  pub told : IsTrue s.device.told → TakesRecords s t leaf new from n

-- They couldn't be. No block was needed, so it was never full.
pub record StopsTakingLeaf (s t : RigState) (leaf : ℕ) (stored : Chain) (fault : EmFault)
    : Type 0 where
  pub goes : Goes (tree_blocks 0 s leaf) s t
  pub pays : Pays 0 0 s t
  pub moves : t.moves ≤ s.moves + 2 * stored.blocks + 1
  pub peaks : Peaks 0 s t
  pub cause : BlockCause s t fault

-- what taking did, by its result: the number of records
abbrev pub TakesLeaf : RigState → RigState → ℕ → Chain → List Record → List Record → ℕ → ℕ
    → Result ℕ EmFault → Type 0
TakesLeaf s t leaf stored old new from most (Ok n) = TookLeaf s t leaf stored old new from most n
TakesLeaf s t leaf stored old new from most (Err fault) = StopsTakingLeaf s t leaf stored fault
