-- What the parts of a call on a queue leave.
use Rattle.std.specs.Prelude.{◌≡◌, ◌⊎◌, ◌==◌, ℕ, ◌+◌, ◌-◌, ◌^◌, ◌<◌, ◌≤◌, max, if◌then◌else◌, List, [], ◌∷◌, ◌++◌, length, slice_index_or, take, Option, option_to_list, IfNone, IsTrue, Result, Ok, Err}
use Rattle.em_record.specs.Order.{in_order, with_record, with_records}
use Rattle.em_record.specs.declared.record.Record.{Record}
use Rattle.em_frames.specs.Pool.{SameFrames}
use Rattle.em_space.specs.Ledger.{Session}
use Rattle.em_space.specs.Queue.{Pays}
use Rattle.em_space.specs.Rig.{Cause, Goes, RigState}
use Rattle.em_space.specs.declared.fault.EmFault.{EmFault}
use Rattle.em_space.specs.declared.fault.EmFault.TheVariants.{Damaged}
use Rattle.em_tree_cost.specs.Books.{TreeCounts}
use Rattle.em_tree_cost.specs.ExtQueue.{after_call}
use Rattle.em_tree.specs.Calls.{KeepsShare}
use Rattle.em_tree_walk.specs.Paid.{LosesNone}
use Rattle.em_trunk.specs.Trunk.{TrunkHasFrames, given_by, trunk_unstored}
use Rattle.em_trunk.specs.Trunk as trunks
use Rattle.em_pqueue.specs.ExtQueue.{ExtQueueHasFrames, IsBagTree, Stands, items_in_tree, queue_blocks, queue_items, trunk_of}
use Rattle.em_pqueue.specs.declared.queue.ExtQueue.{ExtQueue}
use Rattle.em_pqueue.specs.Room.{QueueHolds, QueueOver}

-- a call was counted
abbrev pub counted_call : ExtQueue → ExtQueue
counted_call q = record q {
  calls = q.calls + 1;
  longest = max q.longest (q.since + 1);
  since = q.since + 1;
}

-- The numbers that only the ends of a call change.
pub record SameCalls (q w : ExtQueue) : Type 0 where
  pub calls : w.calls ≡ q.calls
  pub longest : w.longest ≡ q.longest
  pub since : w.since ≡ q.since
  pub blocks : w.blocks ≡ q.blocks
  pub most : w.most ≡ q.most

-- A part of a call went well: what it did to blocks, frames and moves.
pub record Works (s t : RigState) (q w : ExtQueue) : Type 0 where
  pub session : Session (queue_blocks s q) s t (queue_blocks t w)
  pub frames : SameFrames s.pool t.pool
  pub pays : Pays (trunk_unstored (trunk_of q)) (trunk_unstored (trunk_of w)) s t
  pub loses : LosesNone (queue_blocks s q) (queue_blocks t w) s t
  pub spent : w.tree.trunk.spent + s.moves ≡ q.tree.trunk.spent + t.moves
  pub same : SameCalls q w

-- It gave up.
pub record Stops (s t : RigState) (q w : ExtQueue) (fault : EmFault) : Type 0 where
  pub goes : Goes (queue_blocks s q) s t
  pub frames : ExtQueueHasFrames t w
  pub pays : Pays (trunk_unstored (trunk_of q)) s.pool.shape.frames s t
  pub spent : w.tree.trunk.spent + s.moves ≡ q.tree.trunk.spent + t.moves
  pub same : SameCalls q w
  pub cause : Cause s t fault
  pub room : IsTrue s.device.told → QueueHolds q.longest (queue_blocks s q) s t
  pub over : IsTrue s.device.told → QueueOver q.longest (queue_blocks s q) s fault

-- the numbers of a tree after n pushes more
pub record PushesMore (n : ℕ) (c d : TreeCounts) : Type 0 where
  pub pushed : d.n ≡ c.n + n
  pub longest : d.k ≡ max c.k (c.since + n)
  pub since : d.since ≡ c.since + n
  pub resets : d.z ≡ c.z
  pub unsettled : d.y ≡ c.y
  pub adopted : d.adopted ≡ c.adopted
  pub counted : d.counted ≡ c.counted

-- These records went into the tree, one after another; nothing else changed.
pub record PushedDown (xs : List Record) (s t : RigState) (q w : ExtQueue) : Type 0 where
  pub tree : IsBagTree t (trunk_of w)
  pub works : Works s t q w
  pub counts : PushesMore (length xs) (trunks.counts_of (trunk_of q)) (trunks.counts_of (trunk_of w))
  pub items : IsTrue s.device.told → items_in_tree t w ≡ with_records (items_in_tree s q) xs
  pub given : IsTrue s.device.told → given_by s (trunk_of q) ≡ [] → given_by t (trunk_of w) ≡ []
  pub room : IsTrue s.device.told → given_by s (trunk_of q) ≡ [] → (k : ℕ) → w.tree.trunk.longest ≤ k
      → QueueHolds k (queue_blocks s q) s t
  pub rest : w ≡ record q { tree = w.tree; in_tree = q.in_tree + length xs }

-- A push after these was refused. It was counted, and the tree's moves are within its share.
pub record StopsPushing (xs : List Record) (s t : RigState) (q w : ExtQueue) (fault : EmFault)
    : Type 0 where
  pub goes : Goes (queue_blocks s q) s t
  pub frames : TrunkHasFrames t (trunk_of w)
  pub pays : Pays (trunk_unstored (trunk_of q)) s.pool.shape.frames s t
  pub spent : w.tree.trunk.spent + s.moves ≡ q.tree.trunk.spent + t.moves
  pub cause : Cause s t fault
  pub counts : PushesMore (length xs + 1) (trunks.counts_of (trunk_of q)) (trunks.counts_of (trunk_of w))
  pub share : IsTrue s.device.told → KeepsShare s.pool.shape (trunks.counts_of (trunk_of w))
  pub room : IsTrue s.device.told → given_by s (trunk_of q) ≡ [] → (k : ℕ) → w.tree.trunk.longest ≤ k
      → QueueHolds k (queue_blocks s q) s t
  pub over : IsTrue s.device.told → given_by s (trunk_of q) ≡ [] → (k : ℕ) → w.tree.trunk.longest ≤ k
      → QueueOver k (queue_blocks s q) s fault
  pub rest : w ≡ record q { tree = w.tree; in_tree = q.in_tree + length xs }

-- what one push into the tree did, by its result
abbrev pub PushesDown : Record → RigState → RigState → ExtQueue → ExtQueue
    → Result (Unit {0}) EmFault → Type 0
PushesDown item s t q w (Ok x) = PushedDown (item ∷ []) s t q w
PushesDown item s t q w (Err fault) = StopsPushing [] s t q w fault

-- Items went from the one part to the other, and the call goes on.
pub record MovesItems (s t : RigState) (q w : ExtQueue) : Type 0 where
  pub stands : Stands after_call t w
  pub works : Works s t q w
  pub items : IsTrue s.device.told → queue_items t w ≡ queue_items s q
  pub len : w.heap.len + w.in_tree ≡ q.heap.len + q.in_tree
  pub room : IsTrue s.device.told → QueueHolds q.longest (queue_blocks s q) s t

-- what a spill did, by its result: the heap has room
abbrev pub SpillsTo : RigState → RigState → ExtQueue → ExtQueue → Result (Unit {0}) EmFault → Type 0
SpillsTo s t q w (Ok x) = MovesItems s t q w × (w.heap.len < w.heap.capacity) × (0 < w.in_tree)
SpillsTo s t q w (Err fault) = Stops s t q w fault

-- what a refill did, by its result: the heap has an item, if the queue has one
abbrev pub RefillsTo : RigState → RigState → ExtQueue → ExtQueue → Result (Unit {0}) EmFault → Type 0
RefillsTo s t q w (Ok x) = MovesItems s t q w × (w.heap.len ≡ 0 → w.in_tree ≡ 0)
RefillsTo s t q w (Err fault) = Stops s t q w fault

-- An item was put into the part that it belongs to.
pub record PutsItem (item : Record) (s t : RigState) (q w : ExtQueue) : Type 0 where
  pub stands : Stands (λ n. n) t w
  pub works : Works s t q w
  pub items : IsTrue s.device.told → queue_items t w ≡ with_record item (queue_items s q)
  pub len : w.heap.len + w.in_tree ≡ q.heap.len + q.in_tree + 1
  pub room : IsTrue s.device.told → QueueHolds q.longest (queue_blocks s q) s t

-- what this did, by its result
abbrev pub PutsTo : Record → RigState → RigState → ExtQueue → ExtQueue → Result (Unit {0}) EmFault
    → Type 0
PutsTo item s t q w (Ok x) = PutsItem item s t q w
PutsTo item s t q w (Err fault) = Stops s t q w fault

-- The most blocks that it held were counted, after calls before which `used` were in use, and never more than
-- `most`.
pub record Notes (used most : ℕ) (s : RigState) (q w : ExtQueue) : Type 0 where
  pub within : used ≤ most
  pub kept : s.most ≡ most → w.most ≡ q.most
  pub risen : most < s.most → w.most ≡ max q.most (s.most - used + q.blocks)
  pub rest : w ≡ record q { most = w.most }

-- This was done, and then they were counted.
pub record Noted (P : ExtQueue → Type 0) (used most : ℕ) (s : RigState) (w : ExtQueue) : Type 0 where
  pub mid : ExtQueue
  pub done : P mid
  pub notes : Notes used most s mid w

-- Its items were counted anew, and its blocks by the blocks in use: `used` were in use when it had as many as it says.
pub record Recounts (used : ℕ) (s : RigState) (q w : ExtQueue) : Type 0 where
  pub blocks : w.blocks + used ≡ q.blocks + s.used
  pub few : w.blocks ≤ 2 ^ 41
  pub most : w.most ≡ max q.most w.blocks
  pub len : w.len ≡ q.heap.len + q.in_tree
  pub rest : w ≡ record q { blocks = w.blocks; most = w.most; len = w.len }

-- They can't be its own: so a device that tells isn't read.
pub record Miscounts (used : ℕ) (s : RigState) (q w : ExtQueue) (fault : EmFault) : Type 0 where
  pub same : w ≡ q
  pub is : fault ≡ Damaged q.tree.trunk.root
  pub wrong : (q.blocks + s.used < used) ⊎ (used + 2 ^ 41 < q.blocks + s.used)

abbrev pub RecountsTo : ℕ → RigState → ExtQueue → ExtQueue → Result (Unit {0}) EmFault → Type 0
RecountsTo used s q w (Ok x) = Recounts used s q w
RecountsTo used s q w (Err fault) = Miscounts used s q w fault

-- The least item was taken, or none if the queue has none. If it has none now, calls are counted anew.
pub record TakesLeast (item : Option Record) (s : RigState) (q w : ExtQueue) : Type 0 where
  pub stands : Stands (λ n. n) s w
  pub items : IsTrue s.device.told → queue_items s q ≡ option_to_list item ++ queue_items s w
  pub len : w.len + length (option_to_list item) ≡ q.heap.len + q.in_tree
  pub total : w.len ≡ w.heap.len + w.in_tree
  pub since_none : w.len ≡ 0 → w.since ≡ 0
  pub since_is : w.since ≡ (if w.len == 0 then 0 else q.since)
  pub rest : w ≡ record q { heap = w.heap; since = w.since; len = w.len }

-- The heap took n records of its area, which came from the tree: some, and not more than the tree had. They were
-- all of them exactly if the tree was reset. The last of them in order is the bound.
pub record TakenOver (n : ℕ) (q w : ExtQueue) : Type 0 where
  pub some : 0 < n
  pub within : n ≤ q.in_tree
  pub all : n ≡ q.in_tree → q.tree.trunk.since ≡ 0
  pub fresh : q.tree.trunk.since ≡ 0 → n ≡ q.in_tree
  pub bound : (d : Record) → slice_index_or (in_order (take n q.heap.behind)) (n - 1) d ≡ w.bound
  pub rest : w ≡ record q {
    heap = record q.heap {
      items = in_order (take n q.heap.behind);
      len = n;
      behind = w.heap.behind;
    };
    bound = w.bound;
    in_tree = q.in_tree - n;
  }

-- Their number can't be: so a device that tells isn't read.
pub record Mistakes (n : ℕ) (q w : ExtQueue) (fault : EmFault) : Type 0 where
  pub same : w ≡ q
  pub is : fault ≡ Damaged q.tree.trunk.root
  pub wrong : (n ≡ 0) ⊎ (q.in_tree < n) ⊎ ((n ≡ q.in_tree) × (0 < q.tree.trunk.since))
      ⊎ ((n < q.in_tree) × (q.tree.trunk.since ≡ 0))

abbrev pub TakesOver : ℕ → ExtQueue → ExtQueue → Result (Unit {0}) EmFault → Type 0
TakesOver n q w (Ok x) = TakenOver n q w
TakesOver n q w (Err fault) = Mistakes n q w fault

-- The heap gave its least item, or none if it has none. If the queue has none then, calls are counted anew.
pub record TakesItem (q w : ExtQueue) (item : Option Record) : Type 0 where
  pub items : q.heap.items ≡ option_to_list item ++ w.heap.items
  pub none : IfNone item (q.heap.len ≡ 0)
  pub len : w.heap.len ≡ q.heap.len - 1
  pub capacity : w.heap.capacity ≡ q.heap.capacity
  pub total : w.len ≡ w.heap.len + q.in_tree
  pub since : w.since ≡ (if w.len == 0 then 0 else q.since)
  pub rest : w ≡ record q { heap = w.heap; since = w.since; len = w.len }

-- what several pushes into the tree did, by their result
pub record StopsAmong (xs : List Record) (s t : RigState) (q w : ExtQueue) (fault : EmFault)
    : Type 0 where
  pub done : ℕ
  pub fewer : done < length xs
  pub stops : StopsPushing (take done xs) s t q w fault

abbrev pub PushesAll : List Record → RigState → RigState → ExtQueue → ExtQueue
    → Result (Unit {0}) EmFault → Type 0
PushesAll xs s t q w (Ok x) = PushedDown xs s t q w
PushesAll xs s t q w (Err fault) = StopsAmong xs s t q w fault
