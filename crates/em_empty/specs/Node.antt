-- The buffers of a node's entries: chains of operations on the way to the children.
use Rattle.std.specs.Prelude.{◌≡◌, ℕ, ◌+◌, ◌*◌, ◌<◌, ◌≤◌, ◌^◌, List, [], ◌∷◌, ◌++◌, length, IsTrue}
use Rattle.em_record.specs.Shape.{fan_of}
use Rattle.em_frames.specs.Device.{block_at}
use Rattle.em_space.specs.Held.{Holds}
use Rattle.em_space.specs.Rig.{RigState, InUse}
use Rattle.em_chain.specs.Chain.{IsChain, IsPacked, IsTight, chain_blocks, word_list}
use Rattle.em_chain.specs.declared.chain.Chain.{Chain}
use Rattle.em_node.specs.declared.entry.Entry.{Entry}
use Rattle.em_node.specs.Node.{IsNodeBlock}
use Rattle.em_tree_blocks.specs.Node.{buffer_of}
use Rattle.em_tree_blocks.specs.Reading.{entries_at}

-- the blocks of each entry's buffer, one buffer after another
abbrev pub buffer_blocks : RigState → List Entry → List ℕ
buffer_blocks s [] = []
buffer_blocks s (e ∷ es) = chain_blocks s (buffer_of e) ++ buffer_blocks s es

-- how many blocks these are
abbrev pub buffer_count : List Entry → ℕ
buffer_count [] = 0
buffer_count (e ∷ es) = (buffer_of e).blocks + buffer_count es

-- the blocks of a node, of a chain, and of the buffers of the node's entries
abbrev pub given_blocks : RigState → ℕ → Chain → List ℕ
given_blocks s node c = node ∷ (chain_blocks s c ++ buffer_blocks s (entries_at s node))

-- the blocks of a node and of its entries' buffers
abbrev pub node_blocks : RigState → ℕ → List ℕ
node_blocks s node = node ∷ buffer_blocks s (entries_at s node)

-- each entry's buffer is a chain
abbrev pub AreBuffers : RigState → List Entry → Type 0
AreBuffers s [] = Unit {0}
AreBuffers s (e ∷ es) = IsChain s (buffer_of e) × AreBuffers s es

-- the entry with another buffer
abbrev pub with_buffer : Entry → Chain → Entry
with_buffer e c = record { low = e.low; child = e.child; buffer = word_list c }

-- the same low keys and children, whatever the buffers
abbrev pub SameLinks : List Entry → List Entry → Type 0
SameLinks [] [] = Unit {0}
SameLinks [] (f ∷ fs) = ⊥
SameLinks (e ∷ es) [] = ⊥
SameLinks (e ∷ es) (f ∷ fs) = (f.low ≡ e.low) × (f.child ≡ e.child) × SameLinks es fs

-- A chain is packed or tight if another one was.
pub record KeepsForm (s t : RigState) (c d : Chain) : Type 0 where
  pub packed : IsTrue s.device.told → IsPacked s c → IsPacked t d
  pub tight : IsTrue s.device.told → IsTight s c → IsTight t d

-- the same of each buffer
abbrev pub KeepForms : RigState → RigState → List Entry → List Entry → Type 0
KeepForms s t [] fs = Unit {0}
KeepForms s t (e ∷ es) [] = ⊥
KeepForms s t (e ∷ es) (f ∷ fs) = KeepsForm s t (buffer_of e) (buffer_of f) × KeepForms s t es fs

-- this many records more are within the limits of a chain
pub record HasPlaces (n : ℕ) (c : Chain) : Type 0 where
  pub count : c.count + n ≤ 2 ^ 56
  pub blocks : c.blocks + n ≤ 2 ^ 56

-- the same of each buffer
abbrev pub HavePlaces : ℕ → List Entry → Type 0
HavePlaces n [] = Unit {0}
HavePlaces n (e ∷ es) = HasPlaces n (buffer_of e) × HavePlaces n es

-- A block is a node with an entry. The node, the chain and the buffers of the entries have no
-- block in common.
pub record IsOver (s : RigState) (node : ℕ) (buffer : Chain) : Type 0 where
  pub block : IsNodeBlock (2 * fan_of s.pool.shape) s.blocks (block_at s.device node)
  pub some : 0 < length (entries_at s node)
  pub buffers : AreBuffers s (entries_at s node)
  pub holds : Holds s (given_blocks s node buffer)

-- A chain can be emptied into a node. Of a device that doesn't tell, the block's range and the
-- chain's numbers alone are known.
pub record CanEmpty (s : RigState) (node : ℕ) (buffer : Chain) : Type 0 where
  pub in_use : InUse s node
  pub chain : IsChain s buffer
  pub told : IsTrue s.device.told → IsOver s node buffer
