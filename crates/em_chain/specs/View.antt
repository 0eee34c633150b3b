-- Blocks that may be read: those of a chain, or those that are stored of a list that is being written.
use Rattle.std.specs.Prelude.{◌≡◌, ◌-◌, ◌≤◌, ◌^◌, IsTrue}
use Rattle.em_space.specs.Rig.{RigState}
use Rattle.em_space.specs.Held.{Holds}
use Rattle.em_chain.specs.List.{IsOpenList}
use Rattle.em_chain.specs.Chain.{payload_in, IsChain, IsTight, words_of, chain_blocks, chain_contents, chain_items}
use Rattle.em_chain.specs.declared.chain.Chain.{Chain}
use Rattle.em_chain.specs.declared.writer.Writer.{Writer}

-- What ties words to blocks of a device that tells, of which the last may lead on.
pub record IsOpenStored (s : RigState) (c : Chain) : Type 0 where
  pub holds : Holds s (chain_blocks s c)
  pub list : IsOpenList (payload_in s) (words_of c) (chain_blocks s c) (chain_contents s c)

-- A view: words as those of a chain, of which neither the last block's link nor the word for the last
-- block is asked. Of a device that doesn't tell, its numbers alone.
pub record IsView (s : RigState) (c : Chain) : Type 0 where
  pub count_most : c.count ≤ 2 ^ 56
  pub blocks_most : c.blocks ≤ 2 ^ 56
  pub told : IsTrue s.device.told → IsOpenStored s c

-- A call left the blocks of a view alone.
pub record ViewStays (s t : RigState) (c : Chain) : Type 0 where
  pub is : IsView t c
  pub items : IsTrue s.device.told → chain_items t c ≡ chain_items s c
  pub blocks : IsTrue s.device.told → chain_blocks t c ≡ chain_blocks s c
  pub tight : IsTrue s.device.told → IsTight s c → IsTight t c
  pub closed : IsChain s c → IsChain t c

-- what is stored of a list that is being written: all blocks but the last
abbrev pub stored_part : Writer → Chain
stored_part w = record {
  head = w.head;
  skip = w.skip;
  tail = 0;
  count = w.count - w.fill;
  blocks = w.blocks - 1;
}
