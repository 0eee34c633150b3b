-- A queue that keeps its least items in a heap, and the others in a tree on blocks: what it is read as, its numbers,
-- and what ties it to its rig.
use Rattle.std.specs.Prelude.{◌≡◌, ◌⊎◌, ⊤, ℕ, ◌+◌, ◌/◌, ◌^◌, ◌<◌, ◌≤◌, false, List, [], ◌++◌, length, IsTrue}
use Rattle.em_record.specs.Order.{is_below}
use Rattle.em_record.specs.Shape.{IsShape, ShapeNumbers}
use Rattle.em_record.specs.declared.record.Record.{Record}
use Rattle.em_settle.specs.Bag.{bag_key_of}
use Rattle.em_frames.specs.Pool.{load_of}
use Rattle.em_space.specs.Queue.{QueueCounts}
use Rattle.em_space.specs.Rig.{RigState}
use Rattle.em_tree_cost.specs.ExtQueue.{ExtQueueCounts, ExtQueueFits}
use Rattle.em_tree_cost.specs.Shares.{queue_share, tree_room}
use Rattle.em_trunk.specs.Trunk.{IsTrunk, TrunkHasFrames, given_by, model_of, trunk_blocks, trunk_unstored}
use Rattle.em_trunk.specs.Trunk as trunks
use Rattle.em_trunk.specs.declared.trunk.Trunk.{Trunk}
use Rattle.em_pqueue.specs.Items.{tree_items}
use Rattle.em_pqueue.specs.Parts.{AreParts}
use Rattle.em_pqueue.specs.declared.queue.ExtQueue.{ExtQueue}

-- any record may be an item
abbrev pub AnyItem : Record → Type 0
AnyItem x = ⊤

-- the tree of a queue, what ties it to a rig, and the items in it
abbrev pub trunk_of : ExtQueue → Trunk
trunk_of q = q.tree.trunk

abbrev pub IsBagTree : RigState → Trunk → Type 0
IsBagTree s v = IsTrunk bag_key_of AnyItem AnyItem s v

abbrev pub items_in_tree : RigState → ExtQueue → List Record
items_in_tree s q = tree_items (model_of s (trunk_of q))

-- its items, in ascending order, and the blocks that it holds
abbrev pub queue_items : RigState → ExtQueue → List Record
queue_items s q = q.heap.items ++ items_in_tree s q

abbrev pub queue_blocks : RigState → ExtQueue → List ℕ
queue_blocks s q = trunk_blocks s (trunk_of q)

-- its numbers; it holds the tree's two frames and the heap's area
abbrev pub counts_of : ExtQueue → QueueCounts
counts_of q = record {
  len = q.len;
  n = q.calls;
  k = q.longest;
  since = q.since;
  spent = q.tree.trunk.spent;
  frames = 2;
  areas = 1;
  blocks = q.blocks;
  unstored = trunk_unstored (trunk_of q);
  most = q.most;
}

-- The frames of its tree and the area of its heap are out, and its numbers are in their ranges.
pub record ExtQueueHasFrames (s : RigState) (q : ExtQueue) : Type 0 where
  pub tree : TrunkHasFrames s (trunk_of q)
  pub area : q.heap.capacity ≡ load_of s.pool.shape
  pub out : s.pool.free_areas + 1 ≤ 2
  pub spent_most : q.tree.trunk.spent ≤ s.moves
  pub k_most : q.longest ≤ q.calls
  pub since_most : q.since ≤ q.longest
  pub share : IsTrue s.device.told
      → q.tree.trunk.spent ≤ queue_share s.pool.shape q.calls q.longest

-- They are out, and at no moment of its calls it held more blocks than its room.
pub record HoldsFrames (s : RigState) (q : ExtQueue) : Type 0 where
  pub has : ExtQueueHasFrames s q
  pub fits : IsTrue s.device.told → q.most ≤ tree_room s.pool.shape q.longest

-- what a spill takes out of a full heap
abbrev pub half_of : ShapeNumbers → ℕ
half_of shape = load_of shape / 2

-- these numbers are those of the queue and of its tree
pub record Shows (n : ExtQueueCounts) (q : ExtQueue) : Type 0 where
  pub calls : n.n ≡ q.calls
  pub longest : n.k ≡ q.longest
  pub since : n.since ≡ q.since
  pub heap : n.heap ≡ q.heap.len
  pub in_tree : n.tree_len ≡ q.in_tree
  pub pushed : n.tree_n ≡ (trunks.counts_of (trunk_of q)).n
  pub tree_longest : n.tree_k ≡ (trunks.counts_of (trunk_of q)).k
  pub tree_since : n.tree_since ≡ (trunks.counts_of (trunk_of q)).since
  pub resets : n.z ≡ (trunks.counts_of (trunk_of q)).z
  pub unsettled : (trunks.counts_of (trunk_of q)).y ≡ 0
  pub none_adopted : (trunks.counts_of (trunk_of q)).adopted ≡ 0

-- Over a device that tells: heap and tree are the two parts of the items, and the tree answered nothing.
pub record PartsStand (s : RigState) (q : ExtQueue) : Type 0 where
  pub are : AreParts q.bound q.heap.items (items_in_tree s q)
  pub in_tree : q.in_tree ≡ length (items_in_tree s q)
  pub given : given_by s (trunk_of q) ≡ []

-- What ties a queue to its rig, also inside a call: then its numbers are those that `counted` makes of numbers that fit
-- its tree.
pub record Stands (counted : ExtQueueCounts → ExtQueueCounts) (s : RigState) (q : ExtQueue)
    : Type 0 where
  pub shape : IsShape s.pool.shape
  pub tree : IsBagTree s (trunk_of q)
  pub area : q.heap.capacity ≡ load_of s.pool.shape
  pub out : s.pool.free_areas + 1 ≤ 2
  pub heap_len : q.heap.len ≡ length q.heap.items
  pub numbers : ExtQueueCounts
  pub shown : Shows (counted numbers) q
  pub fits : ExtQueueFits (load_of s.pool.shape) (half_of s.pool.shape) numbers
  pub some : 0 < q.in_tree → 0 < q.tree.trunk.since
  pub parts : IsTrue s.device.told → PartsStand s q

-- Its count of blocks, and the most that they were.
pub record CountsBlocks (s : RigState) (q : ExtQueue) : Type 0 where
  pub blocks : IsTrue s.device.told → q.blocks ≡ length (queue_blocks s q)
  pub few : q.blocks ≤ 2 ^ 41
  pub most : q.blocks ≤ q.most
  pub fits : IsTrue s.device.told → q.most ≤ tree_room s.pool.shape q.longest

-- What ties a queue to its rig between two calls.
pub record IsExtQueue (s : RigState) (q : ExtQueue) : Type 0 where
  pub stands : Stands (λ n. n) s q
  pub counts : CountsBlocks s q
  pub len : q.len ≡ q.heap.len + q.in_tree
  pub few : q.len ≤ 2 ^ 56
  pub since_none : q.len ≡ 0 → q.since ≡ 0

-- no number of free blocks is promised to be enough for a call
abbrev pub any_blocks : ShapeNumbers → QueueCounts → ℕ
any_blocks shape counts = 2 ^ 64

-- the item belongs into the tree
abbrev pub GoesDown : ExtQueue → Record → Type 0
GoesDown q item = (0 < q.in_tree) × (is_below item q.bound ≡ false)

-- a push of the item gives items to the tree: this one, or those of a full heap
abbrev pub GivesDown : ExtQueue → Record → Type 0
GivesDown q item = GoesDown q item ⊎ (q.heap.len ≡ q.heap.capacity)

-- a pop takes items out of the tree first, since all are there
abbrev pub WantsRefill : ExtQueue → Type 0
WantsRefill q = (q.heap.len ≡ 0) × (0 < q.in_tree)
