-- Operations in order, settled over a leaf.
use Rattle.std.specs.Prelude.{ℕ, ◌+◌, ◌≤◌, List, IsTrue, Option, Result, Ok, Err}
use Rattle.em_record.specs.declared.record.Record.{Record}
use Rattle.em_frames.specs.Pool.{load_of}
use Rattle.em_space.specs.Held.{Apart}
use Rattle.em_space.specs.Rig.{RigState}
use Rattle.em_space.specs.declared.fault.EmFault.{EmFault}
use Rattle.em_chain.specs.Chain.{IsChain, chain_blocks, chain_items}
use Rattle.em_chain.specs.Writer.{IsWriter, writer_blocks}
use Rattle.em_chain.specs.declared.chain.Chain.{Chain}
use Rattle.em_chain.specs.declared.writer.Writer.{Writer}
use Rattle.em_settle.specs.Rising.{RisesByKey}
use Rattle.em_settle.specs.declared.step.Step.{Step}
use Rattle.em_leaf.specs.Leaf.{AreLeafChains, CanGrowBy, leaf_most}
use Rattle.em_leaf.specs.Effects.{AnswersLoad, SettlesLeaf}
use Rattle.em_leaf.specs.declared.change.LeafChange.{LeafChange}

-- n operations can be settled over a leaf's chain, or over two that were joined: their records are no more than
-- two leaves may have.
pub record CanSettle (key : Record → Record) (s : RigState) (stored : Chain) (n : ℕ)
    (answers : Writer) : Type 0 where
  pub chain : IsChain s stored
  pub most : stored.count + n ≤ leaf_most s.pool.shape + load_of s.pool.shape
  pub rises : IsTrue s.device.told → RisesByKey key (chain_items s stored)
  pub few : n ≤ load_of s.pool.shape
  pub writer : IsWriter s answers
  pub grow : CanGrowBy n answers
  pub apart : IsTrue s.device.told → Apart (writer_blocks s answers) (chain_blocks s stored)

-- What came out, by the result.
pub record SettlesOps (key : Record → Record) (step : Option Record → Record → Step)
    (s t : RigState) (stored : Chain) (ops : List Record) (w v : Writer) (change : LeafChange) : Type 0 where
  pub settles : IsTrue s.device.told → SettlesLeaf key step s t stored ops change
  pub leaves : AreLeafChains t change
  pub answers : AnswersLoad key step s t stored ops w v

abbrev pub SettlesOpsTo : (Record → Record) → (Option Record → Record → Step) → RigState → RigState
    → Chain
    → List Record → Writer → Writer → Result LeafChange EmFault → Type 0
SettlesOpsTo key step s t stored ops w v (Ok change) = SettlesOps key step s t stored ops w v change
SettlesOpsTo key step s t stored ops w v (Err fault) = Unit {0}
