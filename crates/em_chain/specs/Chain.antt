-- A chain: a list of records on the device. Its five words lead to its blocks.
use Rattle.std.specs.Prelude.{◌≡◌, ℕ, ◌≤◌, ◌^◌, List, [], ◌∷◌, IsTrue}
use Rattle.em_record.specs.Shape.{payload_of}
use Rattle.em_record.specs.declared.record.Record.{Record}
use Rattle.em_space.specs.Free.{linked_from}
use Rattle.em_space.specs.Rig.{RigState}
use Rattle.em_space.specs.Held.{Holds, contents_of}
use Rattle.em_chain.specs.List.{Words, IsList, IsPackedIn, AllButLast, items_of}
use Rattle.em_chain.specs.declared.chain.Chain.{Chain}

abbrev pub words_of : Chain → Words
words_of c = record {
  head = c.head;
  skip = c.skip;
  tail = c.tail;
  count = c.count;
  blocks = c.blocks;
}

-- the words one after another, as they are kept in records
abbrev pub word_list : Chain → List ℕ
word_list c = c.head ∷ c.skip ∷ c.tail ∷ c.count ∷ c.blocks ∷ []

abbrev pub empty_chain : Chain
empty_chain = record { head = 0; skip = 0; tail = 0; count = 0; blocks = 0 }

-- the payload records of a block of this rig
abbrev pub payload_in : RigState → ℕ
payload_in s = payload_of s.pool.shape

-- the blocks to which the links lead: those that the chain holds
abbrev pub chain_blocks : RigState → Chain → List ℕ
chain_blocks s c = linked_from c.blocks s.device.contents c.head

abbrev pub chain_contents : RigState → Chain → List (List Record)
chain_contents s c = contents_of s (chain_blocks s c)

-- the list that the chain is
abbrev pub chain_items : RigState → Chain → List Record
chain_items s c = items_of (words_of c) (chain_contents s c)

-- What ties words to blocks of a device that tells.
pub record IsStored (s : RigState) (c : Chain) : Type 0 where
  pub holds : Holds s (chain_blocks s c)
  pub list : IsList (payload_in s) (words_of c) (chain_blocks s c) (chain_contents s c)

-- A chain and its blocks. Of a device that doesn't tell, its numbers alone.
pub record IsChain (s : RigState) (c : Chain) : Type 0 where
  pub count_most : c.count ≤ 2 ^ 56
  pub blocks_most : c.blocks ≤ 2 ^ 56
  pub told : IsTrue s.device.told → IsStored s c

-- every block but the last is full, whatever is passed over
pub record IsTight (s : RigState) (c : Chain) : Type 0 where
  pub full : AllButLast (payload_in s) (chain_contents s c)

-- nothing is passed over, and every block but the last is full
pub record IsPacked (s : RigState) (c : Chain) : Type 0 where
  pub is : IsPackedIn (payload_in s) (words_of c) (chain_contents s c)

-- A call left the blocks of a chain alone.
pub record ChainStays (s t : RigState) (c : Chain) : Type 0 where
  pub is : IsChain t c
  pub items : IsTrue s.device.told → chain_items t c ≡ chain_items s c
  pub blocks : IsTrue s.device.told → chain_blocks t c ≡ chain_blocks s c
  pub packed : IsTrue s.device.told → IsPacked s c → IsPacked t c
  pub tight : IsTrue s.device.told → IsTight s c → IsTight t c
