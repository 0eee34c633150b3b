-- A node in a frame, into which records can be put.
use Rattle.std.specs.Prelude.{◌≡◌, ℕ, ◌*◌, ◌<◌, List, length, IsTrue}
use Rattle.em_record.specs.Shape.{ShapeNumbers, fan_of}
use Rattle.em_record.specs.declared.record.Record.{Record}
use Rattle.em_frames.specs.Device.{block_at}
use Rattle.em_space.specs.Rig.{RigState}
use Rattle.em_chain.specs.declared.chain.Chain.{Chain}
use Rattle.em_node.specs.Node.{IsNodeBlock, entries_of}
use Rattle.em_empty.specs.Node.{HavePlaces}

-- A block is a node with an entry, whose buffers have places for all records of a chain. The
-- chain has no block if it has no record.
pub record IsReceiver (shape : ShapeNumbers) (blocks : ℕ) (c : Chain)
    (block : List Record) : Type 0 where
  pub node : IsNodeBlock (2 * fan_of shape) blocks block
  pub some : 0 < length (entries_of block)
  pub places : HavePlaces c.count (entries_of block)
  pub whole : c.count ≡ 0 → c.blocks ≡ 0

-- A node was loaded, into which the records of a chain can be put. No block was changed.
pub record LoadsNode (s t : RigState) (node : ℕ) (buffer : Chain)
    (block : List Record) : Type 0 where
  pub is : IsReceiver s.pool.shape s.blocks buffer block
  pub loaded : IsTrue s.device.told → block ≡ block_at s.device node
  pub kept : t.device.contents ≡ s.device.contents
