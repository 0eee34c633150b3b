-- A batch as a service, and its answers in order.
use Rattle.std.specs.Prelude.{◌≡◌, ℕ, ◌+◌, ◌*◌, ◌≤◌, ◌^◌, Bool, List, [], IsTrue, Result, Ok, Err, ◌<◌}
use Rattle.em_record.specs.Order.{in_order}
use Rattle.em_record.specs.Shape.{ShapeNumbers}
use Rattle.em_frames.specs.Pool.{SameFrames, load_of}
use Rattle.em_model.specs.declared.command.Command.{Command}
use Rattle.em_space.specs.Ledger.{Session}
use Rattle.em_space.specs.Queue.{Pays}
use Rattle.em_space.specs.Rig.{Cause, Goes, RigState, Sound, IfFull}
use Rattle.em_space.specs.declared.fault.EmFault.{EmFault}
use Rattle.em_chain.specs.Chain.{IsChain, IsPacked, chain_blocks, chain_items}
use Rattle.em_chain.specs.declared.chain.Chain.{Chain}
use Rattle.em_tree_cost.specs.Shares.{batch_share, chain_share, queue_share, tree_room}
use Rattle.em_map.specs.Batch.{HasCommands, IsBatch, batch_spent, batch_unstored, entries_of}
use Rattle.em_map.specs.Early.{joined_size}
use Rattle.em_map.specs.declared.batch.Batch.{Batch}
use Rattle.em_services.specs.Service.{ServiceCounts}
use Rattle.em_plain.specs.Room.{StaysWithin}
use Rattle.em_sorting.specs.Lacking.{AllLack}
use Rattle.em_sorting.specs.Pushes.{CanServeBeside}
use Rattle.em_sorting.specs.Sorts.{sorting_moves}
use Rattle.em_services.specs.InOrder.{lists_room}

-- the moves of the answers that a batch gives at once, at most n: those of a queue of two calls for each, of the lists
-- that go in and out of it, and of reading and releasing the second one
abbrev pub answers_share : ShapeNumbers → ℕ → ℕ
answers_share shape n = queue_share shape (2 * n) (2 * n) + 2 * chain_share shape n

-- the moves of a batch whose answers are put in order, for each sync and for the end
abbrev pub map_share : ShapeNumbers → ℕ → ℕ
map_share shape n = batch_share shape n + answers_share shape n

-- the size of a map's commands, by whether adds are joined early: in loads of as many as an area has room for
abbrev pub map_size : Bool → ShapeNumbers → List Command → ℕ
map_size early shape cs = joined_size early (load_of shape) cs

-- the size of the commands of a batch that are in its tree, and of its syncs: after a sync that of all
abbrev pub entered_size : {F : Type 0} → Batch F → ℕ
entered_size b = entries_of b + b.syncs

-- A batch with the commands that were given to it: up to and with the last sync, and since.
pub record IsGivenBatch {F : Type 0} (s : RigState) (b : Batch F) : Type 0 where
  pub is : IsBatch s b
  pub before : List Command
  pub since : List Command
  pub has : HasCommands s b before since

-- its numbers as a service
abbrev pub batch_counts : {F : Type 0} → Batch F → ServiceCounts
batch_counts b = record {
  n = b.calls;
  syncs = b.syncs;
  spent = λ shape. batch_spent b + b.syncs * answers_share shape (entered_size b);
  unstored = batch_unstored b;
}

-- The answers of a batch, of which no two have the same number. Beside the frames of a queue that may be
-- made, one more is free than its calls need.
pub record AreAnswers (s : RigState) (c : Chain) : Type 0 where
  pub sound : Sound s
  pub free : CanServeBeside 3 s.pool
  pub areas : 2 ≤ s.pool.free_areas
  pub is : IsChain s c
  pub few : IsTrue s.device.told → c.count ≤ 2 ^ 40
  pub lacks : IsTrue s.device.told → AllLack [] (chain_items s c)

-- the most moves of putting a list in order by a queue: those of two calls for each record, and those of
-- the lists
abbrev pub ordering_moves : RigState → Chain → ℕ
ordering_moves s c =
    queue_share s.pool.shape (2 * c.count) (2 * c.count) + sorting_moves s c

-- the most blocks of it: the room of that queue, and both lists
abbrev pub ordering_room : RigState → Chain → ℕ
ordering_room s c = tree_room s.pool.shape (2 * c.count) + lists_room s c

-- The second list has the records of the first in order. The first was given up.
pub record AnswersInOrder (s t : RigState) (c d : Chain) : Type 0 where
  pub is : IsChain t d
  pub packed : IsTrue s.device.told → IsPacked t d
  pub session : Session (chain_blocks s c) s t (chain_blocks t d)
  pub frames : SameFrames s.pool t.pool
  pub used : t.used + c.blocks ≡ s.used + d.blocks
  pub room : IsTrue s.device.told → StaysWithin c.blocks (ordering_room s c) s t
  pub pays : Pays 0 0 s t
  pub items : IsTrue s.device.told → chain_items t d ≡ in_order (chain_items s c)
  pub moves : IsTrue s.device.told → t.moves ≤ s.moves + ordering_moves s c

-- A call gave up. Blocks stay in use.
pub record StopsAnswering (s t : RigState) (c : Chain) (fault : EmFault) : Type 0 where
  pub goes : Goes (chain_blocks s c) s t
  pub pays : Pays 0 (s.pool.shape.frames + 1) s t
  pub room : IsTrue s.device.told → StaysWithin c.blocks (ordering_room s c) s t
  pub full : IsTrue s.device.told
      → IfFull fault (λ used. used + c.blocks < s.used + ordering_room s c)
  pub moves : IsTrue s.device.told → t.moves ≤ s.moves + ordering_moves s c
  pub cause : Cause s t fault

-- what ordering the answers did, by the result
abbrev pub OrdersAnswers : RigState → RigState → Chain → Result Chain EmFault → Type 0
OrdersAnswers s t c (Ok d) = AnswersInOrder s t c d
OrdersAnswers s t c (Err fault) = StopsAnswering s t c fault
