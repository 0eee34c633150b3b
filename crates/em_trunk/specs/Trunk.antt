-- A tree on a rig: what it is read as, the blocks that it holds, its numbers, and what ties these.
use Rattle.std.specs.Prelude.{◌≡◌, ℕ, ◌+◌, ◌*◌, ◌^◌, ◌<◌, ◌≤◌, min, List, [], ◌++◌, length, None, IsTrue}
use Rattle.em_record.specs.Shape.{ShapeNumbers, fan_of, wide_of}
use Rattle.em_record.specs.declared.record.Record.{Record}
use Rattle.em_frames.specs.Pool.{singles_of}
use Rattle.em_space.specs.Held.{Holds}
use Rattle.em_space.specs.Rig.{RigState}
use Rattle.em_chain.specs.Writer.{IsPackedSoFar, IsWriter, writer_blocks, writer_items}
use Rattle.em_tree_model.specs.Meaning.{InTurn}
use Rattle.em_tree_model.specs.Ranges.{IsTree, least_record}
use Rattle.em_tree_model.specs.Tree.{Tree}
use Rattle.em_tree_model.specs.Tree.Tree.{end, entry}
use Rattle.em_tree_blocks.specs.Reading.{IsTreeAt, tree_at, tree_blocks}
use Rattle.em_tree_cost.specs.Books.{Balanced, TreeCounts}
use Rattle.em_tree_cost.specs.Counters.{Sums}
use Rattle.em_tree_cost.specs.Outline.{sums_of}
use Rattle.em_tree_outline.specs.Outline.{outline_of}
use Rattle.em_tree_walk.specs.Lows.{LowsKeep}
use Rattle.em_trunk.specs.Buffers.{IsBounded, IsThin}
use Rattle.em_trunk.specs.Entries.{EachEntry}
use Rattle.em_tree_walk.specs.Forms.{AreFormed}
use Rattle.em_trunk.specs.Sized.{IsSized}
use Rattle.em_trunk.specs.declared.trunk.Trunk.{Trunk}

-- the nodes and leaves, as they are read from the root's block on
abbrev pub root_of : RigState → Trunk → Tree
root_of s v = tree_at v.level s v.root

-- The whole tree: one entry over the root, with the root's buffer.
abbrev pub model_of : RigState → Trunk → Tree
model_of s v = entry least_record (writer_items s v.buffer) (root_of s v) end

-- the answers that were given
abbrev pub given_by : RigState → Trunk → List Record
given_by s v = writer_items s v.answers

-- the blocks that a tree holds: of its nodes and leaves, and of the two lists that are being
-- written
abbrev pub trunk_blocks : RigState → Trunk → List ℕ
trunk_blocks s v =
    tree_blocks v.level s v.root ++ (writer_blocks s v.buffer ++ writer_blocks s v.answers)

-- its blocks that weren't stored since they came into use: the last one of each list
abbrev pub trunk_unstored : Trunk → ℕ
trunk_unstored v = min v.buffer.blocks 1 + min v.answers.blocks 1

-- its numbers: operations pushed, moves made, resets, calls that settled all, records that it was adopted with
abbrev pub counts_of : Trunk → TreeCounts
counts_of v = record {
  n = v.pushed;
  k = v.longest;
  since = v.since;
  spent = v.spent;
  z = v.resets;
  y = v.settled;
  adopted = v.adopted;
  counted = v.counted;
}

-- the operations of a full buffer: f · B
abbrev pub full_limit : ShapeNumbers → ℕ
full_limit shape = fan_of shape * shape.block

-- the sums over its parts
abbrev pub sums_in : RigState → Trunk → Sums
sums_in s v = sums_of (2 * wide_of s.pool.shape * s.pool.shape.block) v.level
    (outline_of (root_of s v)) v.buffer.count v.buffer.blocks

-- The two frames of the lists that are being written are out: what is left to ask after a fault.
pub record TrunkHasFrames (s : RigState) (v : Trunk) : Type 0 where
  pub buffer : length v.buffer.frame ≡ s.pool.shape.block
  pub answers : length v.answers.frame ≡ s.pool.shape.block
  pub out : s.pool.free + 2 ≤ singles_of s.pool.shape

-- Its numbers are in their ranges, over any device. `longest` is at most 2 ^ 100 above `pushed`; over a device that
-- tells the books say that it is at most `pushed` and `adopted`.
pub record AreTrunkNumbers (s : RigState) (v : Trunk) : Type 0 where
  pub level_some : 1 ≤ v.level
  pub level_most : v.level ≤ 24
  pub since_most : v.since ≤ v.longest
  pub longest_most : v.longest ≤ v.pushed + 2 ^ 100
  pub pushed_most : v.pushed ≤ 2 ^ 100
  pub settled_most : v.settled ≤ 2 ^ 100
  pub resets_most : v.resets ≤ 2 ^ 100
  pub adopted_most : v.adopted ≤ 2 ^ 64
  pub counted_most : v.counted ≤ v.adopted
  pub spent_most : v.spent ≤ s.moves
  pub root_below : v.root < s.blocks

-- Over a device that tells, its parts are laid out in blocks that nobody else holds. Its keys are
-- in their ranges, its operations wait in turn, and its parts have their sizes.
pub record IsStanding (key : Record → Record) (IsOp IsKept : Record → Type 0) (s : RigState)
    (v : Trunk) : Type 0 where
  pub holds : Holds s (trunk_blocks s v)
  pub stored : IsTreeAt v.level s v.root
  pub formed : AreFormed v.level s v.root
  pub is : IsTree key (model_of s v) least_record None
  pub turn : InTurn key IsOp IsKept (model_of s v)
  pub lows : LowsKeep least_record (root_of s v)
  pub sized : IsSized s.pool.shape (outline_of (model_of s v))
  pub bounded : EachEntry (IsBounded v.level (full_limit s.pool.shape)) v.level least_record None
      (root_of s v)
  pub packed : IsPackedSoFar s v.buffer
  pub answers_packed : IsPackedSoFar s v.answers

-- What holds of a tree inside a call, too: the frames and numbers, and how it stands.
pub record IsRunning (key : Record → Record) (IsOp IsKept : Record → Type 0) (s : RigState)
    (v : Trunk) : Type 0 where
  pub frames : TrunkHasFrames s v
  pub numbers : AreTrunkNumbers s v
  pub buffer : IsWriter s v.buffer
  pub answers : IsWriter s v.answers
  pub stands : IsTrue s.device.told → IsStanding key IsOp IsKept s v

-- What ties a tree to its rig at each exit that is Ok: no buffer is full, and its moves are paid for. The
-- root's buffer never holds more blocks than operations. A tree that counts no operation (`longest` is 0) has no
-- block in it, and no answer was given.
pub record IsTrunk (key : Record → Record) (IsOp IsKept : Record → Type 0) (s : RigState)
    (v : Trunk) : Type 0 where
  pub running : IsRunning key IsOp IsKept s v
  pub few : v.buffer.count < full_limit s.pool.shape
  pub unused : v.longest ≡ 0 → v.buffer.blocks ≡ 0
  pub silent : IsTrue s.device.told → v.longest ≡ 0 → given_by s v ≡ []
  pub blocks : v.buffer.blocks ≤ v.buffer.count
  pub thin : IsTrue s.device.told
      → EachEntry (IsThin (full_limit s.pool.shape)) v.level least_record None (root_of s v)
  pub books : IsTrue s.device.told → Balanced s.pool.shape (counts_of v) (sums_in s v)
