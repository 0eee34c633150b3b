-- A leaf's stored records, and what a load may ask of them.
use Rattle.std.specs.Prelude.{◌≡◌, ℕ, ◌+◌, ◌-◌, ◌*◌, ◌/◌, ◌≤◌, ◌^◌, nat_le, if◌then◌else◌, List, [], length, take, IsTrue, Option, Some, None}
use Rattle.em_record.specs.Order.{in_order}
use Rattle.em_record.specs.Shape.{ShapeNumbers}
use Rattle.em_record.specs.declared.record.Record.{Record}
use Rattle.em_frames.specs.Pool.{load_of}
use Rattle.em_space.specs.Held.{Apart}
use Rattle.em_space.specs.Rig.{RigState}
use Rattle.em_chain.specs.Chain.{IsChain, IsPacked, chain_blocks, chain_items}
use Rattle.em_chain.specs.Writer.{IsWriter, writer_blocks}
use Rattle.em_chain.specs.declared.chain.Chain.{Chain}
use Rattle.em_chain.specs.declared.writer.Writer.{Writer}
use Rattle.em_settle.specs.Rising.{RisesByKey}
use Rattle.em_leaf.specs.declared.change.LeafChange.{LeafChange}

-- the most records of a leaf: 4·w·B
abbrev pub leaf_most : ShapeNumbers → ℕ
leaf_most shape = 4 * load_of shape

-- how many of n records go to the low part: all that a leaf may have, else the first half,
-- rounded up
abbrev pub low_count : ℕ → ℕ → ℕ
low_count most n = if nat_le n most then n else n - n / 2

-- the operations of a load: its first n records, in order
abbrev pub ops_of : List Record → ℕ → List Record
ops_of load n = in_order (take n load)

-- A chain is packed and its keys rise, so that each key has one record at most.
pub record IsLeafList (key : Record → Record) (s : RigState) (c : Chain) : Type 0 where
  pub packed : IsPacked s c
  pub rises : RisesByKey key (chain_items s c)

-- n records and n blocks more are within the limits of a writer's list
pub record CanGrowBy (n : ℕ) (w : Writer) : Type 0 where
  pub count : w.count + n ≤ 2 ^ 56
  pub blocks : w.blocks + n ≤ 2 ^ 56

-- A load of n operations can be settled over a leaf's chain. Of a device that doesn't tell, the
-- numbers of the chain and of the writer are known.
pub record CanLoad (key : Record → Record) (s : RigState) (stored : Chain) (load : List Record)
    (n : ℕ)
    (answers : Writer) : Type 0 where
  pub chain : IsChain s stored
  pub most : stored.count ≤ leaf_most s.pool.shape
  pub list : IsTrue s.device.told → IsLeafList key s stored
  pub area : length load ≡ load_of s.pool.shape
  pub few : n ≤ load_of s.pool.shape
  pub writer : IsWriter s answers
  pub grow : CanGrowBy n answers
  pub apart : IsTrue s.device.told → Apart (writer_blocks s answers) (chain_blocks s stored)

-- the records of the high part, none if there is none
abbrev pub high_items : RigState → Option (Record × Chain) → List Record
high_items s None = []
high_items s (Some p) = chain_items s p.1

-- the blocks that it holds,
abbrev pub high_blocks : RigState → Option (Record × Chain) → List ℕ
high_blocks s None = []
high_blocks s (Some p) = chain_blocks s p.1

-- and how many these are
abbrev pub high_count : Option (Record × Chain) → ℕ
high_count None = 0
high_count (Some p) = p.1.blocks

-- A chain of a leaf: packed, with at most 4·w·B records.
pub record IsLeafChain (s : RigState) (c : Chain) : Type 0 where
  pub chain : IsChain s c
  pub packed : IsTrue s.device.told → IsPacked s c
  pub most : c.count ≤ leaf_most s.pool.shape

-- so is the high part, if there is one
abbrev pub IsHighChain : RigState → Option (Record × Chain) → Type 0
IsHighChain s None = Unit {0}
IsHighChain s (Some p) = IsLeafChain s p.1

-- Both parts are chains of leaves.
pub record AreLeafChains (s : RigState) (change : LeafChange) : Type 0 where
  pub low : IsLeafChain s change.low
  pub high : IsHighChain s change.high
