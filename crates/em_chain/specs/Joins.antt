-- One chain after another.
use Rattle.std.specs.Prelude.{◌≡◌, ℕ, ◌+◌, ◌<◌, ◌≤◌, ◌^◌, ◌++◌, IsTrue}
use Rattle.em_frames.specs.Device.{block_at}
use Rattle.em_space.specs.Free.{header}
use Rattle.em_space.specs.Rig.{RigState, InUse}
use Rattle.em_space.specs.Held.{Apart}
use Rattle.em_chain.specs.List.{IsBlock, with_link, shifted}
use Rattle.em_chain.specs.Chain.{payload_in, IsChain, chain_items, chain_blocks}
use Rattle.em_chain.specs.declared.chain.Chain.{Chain}

-- the records and the blocks of both are within the limits of a chain
pub record CanJoin (f g : Chain) : Type 0 where
  pub count : f.count + g.count ≤ 2 ^ 56
  pub blocks : f.blocks + g.blocks ≤ 2 ^ 56

-- The second list stands after the first. Of a device that doesn't tell, a chain with no block
-- counts as empty.
pub record Joins (s t : RigState) (f g c : Chain) : Type 0 where
  pub is : IsChain t c
  pub items : IsTrue s.device.told → chain_items t c ≡ chain_items s f ++ chain_items s g
  pub blocks : IsTrue s.device.told → chain_blocks t c ≡ chain_blocks s f ++ chain_blocks s g
  pub blocks_is : c.blocks ≡ f.blocks + g.blocks
  pub count_most : c.count ≤ f.count + g.count

-- Two chains that a link from the first to the second joins.
pub record AreLinkable (s : RigState) (f g : Chain) : Type 0 where
  pub first : IsChain s f
  pub second : IsChain s g
  pub apart : IsTrue s.device.told → Apart (chain_blocks s f) (chain_blocks s g)
  pub room : CanJoin f g
  pub first_some : 0 < f.blocks
  pub second_some : 0 < g.blocks
  pub skip : g.skip ≡ 0

-- The same list from the first record of its first block.
pub record Unskips (s t : RigState) (f c : Chain) : Type 0 where
  pub is : IsChain t c
  pub items : IsTrue s.device.told → chain_items t c ≡ chain_items s f
  pub blocks : IsTrue s.device.told → chain_blocks t c ≡ chain_blocks s f
  pub skip_is : c.skip ≡ 0
  pub count_is : c.count ≡ f.count
  pub blocks_is : c.blocks ≡ f.blocks

-- a block in use, and a frame of its length
pub record CanMove (s : RigState) (block len : ℕ) : Type 0 where
  pub in_use : InUse s block
  pub len_is : len ≡ s.pool.shape.block

-- a chain block that has more than this many records, with a link to a block of the device
pub record CanShift (s : RigState) (block skip : ℕ) : Type 0 where
  pub is : IsBlock (payload_in s) (block_at s.device block)
  pub link_is : (header (block_at s.device block)).a ≤ s.blocks
  pub skip_fits : skip < (header (block_at s.device block)).b

-- The block is without its first records.
pub record Shifts (s t : RigState) (block skip : ℕ) : Type 0 where
  pub in_use : InUse t block
  pub is : IsTrue s.device.told → block_at t.device block
      ≡ shifted (block_at s.device block) skip (header (block_at s.device block)).a
      (header (block_at s.device block)).b

-- a chain block that leads to no other
pub record IsLastBlock (s : RigState) (block : ℕ) : Type 0 where
  pub is : IsBlock (payload_in s) (block_at s.device block)
  pub link_is : (header (block_at s.device block)).a ≡ 0

-- The block leads to another.
pub record Links (s t : RigState) (block link : ℕ) : Type 0 where
  pub in_use : InUse t block
  pub is : IsTrue s.device.told → block_at t.device block
      ≡ with_link link (header (block_at s.device block)).b (block_at s.device block)
