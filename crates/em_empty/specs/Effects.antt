-- What emptying a chain into a node leaves, and what it costs.
use Rattle.std.specs.Prelude.{◌≡◌, ℕ, ◌+◌, ◌*◌, ◌<◌, ◌≤◌, min, max, if◌then◌else◌, length, IsTrue, Option, Result, Ok, Err}
use Rattle.em_record.specs.Shape.{fan_of}
use Rattle.em_record.specs.declared.record.Record.{Record}
use Rattle.em_frames.specs.Device.{block_at}
use Rattle.em_space.specs.Queue.{Pays}
use Rattle.em_space.specs.Rig.{RigState, Goes, Cause, IfFull}
use Rattle.em_space.specs.Ledger.{Session}
use Rattle.em_frames.specs.Pool.{SameFrames}
use Rattle.em_space.specs.declared.fault.EmFault.{EmFault}
use Rattle.em_chain.specs.Chain.{payload_in, chain_items}
use Rattle.em_chain.specs.Counts.{ceiling}
use Rattle.em_chain.specs.declared.chain.Chain.{Chain}
use Rattle.em_node.specs.Node.{IsNodeBlock, level_of, place_of}
use Rattle.em_tree_model.specs.Pouring.{given_out}
use Rattle.em_tree_blocks.specs.Reading.{entries_at, buffer_items}
use Rattle.em_empty.specs.Node.{AreBuffers, KeepForms, SameLinks, buffer_count, given_blocks, node_blocks}
use Rattle.em_empty.specs.FirstFull.{IsFirstFull, full_count}

-- The node has the same low keys and children. Each buffer has its own records, and then those of
-- the chain that belong there, in their order.
pub record Receives (key : Record → Record) (s t : RigState) (node : ℕ)
    (buffer : Chain) : Type 0 where
  pub block : IsNodeBlock (2 * fan_of t.pool.shape) t.blocks (block_at t.device node)
  pub level : level_of (block_at t.device node) ≡ level_of (block_at s.device node)
  pub links : SameLinks (entries_at s node) (entries_at t node)
  pub buffers : AreBuffers t (entries_at t node)
  pub items : buffer_items t (entries_at t node)
      ≡ given_out (λ op. place_of (key op) (entries_at s node)) (buffer_items s (entries_at s node))
      (chain_items s buffer)
  pub forms : KeepForms s t (entries_at s node) (entries_at t node)

-- What came out: the node with its buffers, and the least place of a full one.
pub record Emptied (key : Record → Record) (s t : RigState) (node : ℕ) (buffer : Chain)
    (least : Option ℕ) : Type 0 where
  pub receives : Receives key s t node buffer
  pub first_is : IsFirstFull (full_count s.pool.shape) (entries_at t node) least

-- the entries of the node, or as many as it may have if the device doesn't tell
abbrev pub entries_most : RigState → ℕ → ℕ
entries_most s node = if s.device.told then length (entries_at s node) else 2 * fan_of s.pool.shape

-- how many buffers get a record, at most
abbrev pub reached : RigState → ℕ → Chain → ℕ
reached s node buffer = min buffer.count (entries_most s node)

-- the moves of the call, at most: to read and release the chain, to write the records, to load and
-- store the last block of each buffer, and to load and store the node
abbrev pub emptying_moves : RigState → ℕ → Chain → ℕ
emptying_moves s node buffer = 2 * buffer.blocks + 2 * ceiling buffer.count (payload_in s)
    + 4 * reached s node buffer + 2

-- What stays: after Ok the node and its buffers hold what was given to the call, or blocks that
-- weren't in use. All frames are back.
abbrev pub LeavesNode : {T : Type 0} → RigState → RigState → ℕ → Chain → Result T EmFault → Type 0
LeavesNode s t node buffer (Ok x) = Session (given_blocks s node buffer) s t (node_blocks t node)
    × SameFrames s.pool t.pool
LeavesNode s t node buffer (Err fault) = Goes (given_blocks s node buffer) s t

-- What it cost, at every exit.
pub record EmptyingCosts (s t : RigState) (node : ℕ) (buffer : Chain) : Type 0 where
  pub moves : t.moves ≤ s.moves + emptying_moves s node buffer
  pub used : t.used ≤ s.used + reached s node buffer + 1
  pub most : t.most ≤ max s.most (s.used + reached s node buffer + 1)
  pub pays : Pays 0 (reached s node buffer + 1) s t

-- After Ok the chain's blocks are released, and every block is stored.
pub record FreesChain (s t : RigState) (node : ℕ) (buffer : Chain) : Type 0 where
  pub used : IsTrue s.device.told → t.used + (buffer.blocks + buffer_count (entries_at s node))
      ≡ s.used + buffer_count (entries_at t node)
  pub pays : Pays 0 0 s t

-- All went well.
pub record EmptiedAt (key : Record → Record) (s t : RigState) (node : ℕ) (buffer : Chain)
    (least : Option ℕ) : Type 0 where
  pub emptied : IsTrue s.device.told → Emptied key s t node buffer least
  pub session : Session (given_blocks s node buffer) s t (node_blocks t node)
  pub frames : SameFrames s.pool t.pool
  pub costs : EmptyingCosts s t node buffer
  pub frees : FreesChain s t node buffer

-- A call gave up. It was full only if no more blocks were free than buffers get a record.
pub record StopsEmptying (s t : RigState) (node : ℕ) (buffer : Chain)
    (fault : EmFault) : Type 0 where
  pub goes : Goes (given_blocks s node buffer) s t
  pub costs : EmptyingCosts s t node buffer
  pub cause : Cause s t fault
  pub room : IfFull fault (λ _. s.blocks < s.used + reached s node buffer + 1)

-- what emptying did, by its result
abbrev pub EmptiesNode : (Record → Record) → RigState → RigState → ℕ → Chain → Result
    (Option ℕ) EmFault
    → Type 0
EmptiesNode key s t node buffer (Ok least) = EmptiedAt key s t node buffer least
EmptiesNode key s t node buffer (Err fault) = StopsEmptying s t node buffer fault
