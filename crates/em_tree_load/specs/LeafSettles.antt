-- The first operations of a buffer, settled over the stored records of a leaf.
use Rattle.std.specs.Prelude.{◌≡◌, ℕ, ◌+◌, ◌*◌, ◌≤◌, min, max, List, ◌++◌, length, IsTrue, Option, Result, Ok, Err}
use Rattle.em_record.specs.Order.{in_order}
use Rattle.em_record.specs.declared.record.Record.{Record}
use Rattle.em_frames.specs.Pool.{load_of}
use Rattle.em_space.specs.Held.{Holds}
use Rattle.em_space.specs.Rig.{RigState}
use Rattle.em_space.specs.declared.fault.EmFault.{EmFault}
use Rattle.em_chain.specs.Chain.{IsChain, IsTight, chain_blocks, chain_items, payload_in}
use Rattle.em_chain.specs.Counts.{ceiling}
use Rattle.em_chain.specs.Session.{Wrote}
use Rattle.em_chain.specs.Writer.{IsWriter}
use Rattle.em_chain.specs.declared.chain.Chain.{Chain}
use Rattle.em_chain.specs.declared.writer.Writer.{Writer}
use Rattle.em_settle.specs.Keys.{record_at}
use Rattle.em_settle.specs.Rising.{RisesByKey}
use Rattle.em_settle.specs.States.{answers_to}
use Rattle.em_settle.specs.declared.step.Step.{Step}
use Rattle.em_leaf.specs.Effects.{SettlesLeaf, load_moves_most, loaded_blocks, loading_blocks}
use Rattle.em_leaf.specs.Leaf.{AreLeafChains, IsLeafChain}
use Rattle.em_leaf.specs.declared.change.LeafChange.{LeafChange}
use Rattle.em_tree_blocks.specs.Reading.{stored_chain}
use Rattle.em_tree_load.specs.Leaves.{LeadsToLeaf}
use Rattle.em_tree_walk.specs.Paid.{RunsPaid, StopsPaid}

-- the blocks of a buffer, of the writer of answers, and of a leaf's chain
abbrev pub settling_blocks : RigState → Chain → Chain → Writer → List ℕ
settling_blocks s stored buffer w = chain_blocks s buffer ++ loading_blocks s stored w

-- What a device that tells holds of these: the keys of the stored records rise, all blocks of the
-- buffer but the last are full, and no block is held twice.
pub record AreApart (key : Record → Record) (s : RigState) (stored buffer : Chain) (w : Writer)
    : Type 0 where
  pub rises : RisesByKey key (chain_items s stored)
  pub tight : IsTight s buffer
  pub holds : Holds s (settling_blocks s stored buffer w)

-- A buffer can be settled over a leaf's chain.
pub record CanSettleOver (key : Record → Record) (s : RigState) (stored buffer : Chain) (w : Writer)
    : Type 0 where
  pub chain : IsLeafChain s stored
  pub buffer_is : IsChain s buffer
  pub writer : IsWriter s w
  pub told : IsTrue s.device.told → AreApart key s stored buffer w

-- The same of the leaf in a block.
pub record CanSettleAt (key : Record → Record) (s : RigState) (leaf : ℕ) (buffer : Chain) (w : Writer)
    : Type 0 where
  pub leads : LeadsToLeaf s leaf
  pub buffer_is : IsChain s buffer
  pub writer : IsWriter s w
  pub told : IsTrue s.device.told → AreApart key s (stored_chain s leaf) buffer w

-- how many operations a load takes of a buffer
abbrev pub load_count : RigState → Chain → ℕ
load_count s buffer = min buffer.count (load_of s.pool.shape)

-- the most moves of settling: to read the buffer's first operations, and to settle them
abbrev pub settling_moves : RigState → Chain → ℕ → ℕ
settling_moves s stored n = load_moves_most s stored n + 2 * ceiling n (payload_in s) + 2

-- What came out, over a device that tells.
pub record SettlesFirst (key : Record → Record) (step : Option Record → Record → Step)
    (s t : RigState) (stored buffer : Chain) (change : LeafChange) (rest : Chain)
    (load given : List Record) : Type 0 where
  pub items : chain_items s buffer ≡ load ++ chain_items t rest
  pub taken : length load ≡ load_count s buffer
  pub tight : IsTight t rest
  pub settles : SettlesLeaf key step s t stored (in_order load) change
  pub given_is : given ≡ answers_to key step (record_at key (chain_items s stored)) (in_order load)

-- The first operations of a buffer were settled over a leaf. There are the parts of the leaf, the
-- rest of the buffer, and the answers.
pub record SettledFirst (key : Record → Record) (step : Option Record → Record → Step)
    (s t : RigState) (stored buffer : Chain) (w v : Writer) (change : LeafChange) (rest : Chain)
    (more : ℕ) : Type 0 where
  pub load : List Record
  pub given : List Record
  pub runs : RunsPaid (settling_blocks s stored buffer w)
      (chain_blocks t rest ++ loaded_blocks t change v) (min w.blocks 1) (min v.blocks 1) s t
  pub chain : IsChain t rest
  pub leaves : AreLeafChains t change
  pub wrote : Wrote s t w v given
  pub told : IsTrue s.device.told
      → SettlesFirst key step s t stored buffer change rest load given
  pub moves : IsTrue s.device.told
      → t.moves ≤ s.moves + more + settling_moves s stored (load_count s buffer)

-- They couldn't be.
pub record StopsSettling (s t : RigState) (stored buffer : Chain) (w : Writer) (more : ℕ)
    (fault : EmFault) : Type 0 where
  pub stops : StopsPaid (settling_blocks s stored buffer w) (min w.blocks 1) 2 s t fault
  pub moves : IsTrue s.device.told → t.moves
      ≤ s.moves + more + max (2 * buffer.blocks) (settling_moves s stored (load_count s buffer))

-- what settling did, by its result, with this many moves more
abbrev pub SettlesOver : (Record → Record) → (Option Record → Record → Step) → RigState → RigState
    → Chain → Chain → Writer → Writer → ℕ → Result (LeafChange × Chain) EmFault → Type 0
SettlesOver key step s t stored buffer w v more (Ok p) =
    SettledFirst key step s t stored buffer w v p.0 p.1 more
SettlesOver key step s t stored buffer w v more (Err fault) =
    StopsSettling s t stored buffer w more fault
