-- A node that is full, and a root over which a new one is to be made.
use Rattle.std.specs.Prelude.{◌≡◌, ℕ, true, ◌+◌, ◌*◌, ◌<◌, ◌≤◌, List, [], ◌∷◌, length, IsTrue}
use Rattle.em_record.specs.Shape.{ShapeNumbers, fan_of}
use Rattle.em_record.specs.declared.record.Record.{Record}
use Rattle.em_record.specs.Order.{is_below}
use Rattle.em_frames.specs.Device.{block_at}
use Rattle.em_space.specs.Rig.{RigState, InUse}
use Rattle.em_chain.specs.Chain.{empty_chain, word_list}
use Rattle.em_node.specs.declared.entry.Entry.{Entry}
use Rattle.em_node.specs.Node.{IsLimited, IsNodeBlock, entries_of, level_of}
use Rattle.em_tree_blocks.specs.Node.{linked_block}
use Rattle.em_tree_blocks.specs.Reading.{IsNodeAt, entries_at}

-- the level of the node in a block
abbrev pub level_at : RigState → ℕ → ℕ
level_at s k = level_of (block_at s.device k)

-- A block is a node with as many entries as it may have.
pub record IsFullNode (shape : ShapeNumbers) (blocks : ℕ) (block : List Record) : Type 0 where
  pub node : IsNodeBlock (2 * fan_of shape) blocks block
  pub full : length (entries_of block) ≡ 2 * fan_of shape

-- A block can be split. Of a device that doesn't tell, its range alone is known.
pub record CanSplit (s : RigState) (node : ℕ) : Type 0 where
  pub in_use : InUse s node
  pub told : IsTrue s.device.told → IsFullNode s.pool.shape s.blocks (block_at s.device node)

-- the entry from a low key on that leads to a block, with nothing in its buffer
abbrev pub entry_to : Record → ℕ → Entry
entry_to low block = record { low = low; child = block + 1; buffer = word_list empty_chain }

-- An entry for a block of the device, with nothing in its buffer.
pub record IsFreshEntry (blocks : ℕ) (e : Entry) : Type 0 where
  pub child_some : 1 ≤ e.child
  pub child_most : e.child ≤ blocks
  pub empty : e.buffer ≡ word_list empty_chain

-- each of these low keys is below a key
abbrev pub LowsBelow : List Entry → Record → Type 0
LowsBelow [] key = Unit {0}
LowsBelow (e ∷ es) key = (is_below e.low key ≡ true) × LowsBelow es key

-- A root with an entry, over which there may be another level, was split: an entry leads to its
-- split part, another node of its level, whose low key is above those of the root.
pub record IsSplitRoot (s : RigState) (root : ℕ) (upper : Entry) : Type 0 where
  pub node : IsNodeAt s (level_at s root) root
  pub some : 0 < length (entries_at s root)
  pub not_last : level_at s root < 63
  pub below : LowsBelow (entries_at s root) upper.low
  pub linked : 1 ≤ upper.child
  pub child : IsNodeAt s (level_at s root) (linked_block upper.child)
  pub other : linked_block upper.child ≡ root → ⊥

-- A new root can be made. Of a device that doesn't tell, the old root's range and the limits of
-- the entry's buffer alone are known.
pub record CanGrowUp (s : RigState) (root : ℕ) (upper : Entry) : Type 0 where
  pub in_use : InUse s root
  pub limited : IsLimited upper
  pub told : IsTrue s.device.told → IsSplitRoot s root upper
