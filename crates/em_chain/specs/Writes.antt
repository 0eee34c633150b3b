-- What the calls of a writer do.
use Rattle.std.specs.Prelude.{◌≡◌, ◌+◌, ◌*◌, ◌<◌, ◌≤◌, min, max, [], ◌∷◌, ◌++◌, IsTrue, Result, OnOk, OnErr, IfErr}
use Rattle.em_record.specs.declared.record.Record.{Record}
use Rattle.em_space.specs.Rig.{RigState, Owes}
use Rattle.em_space.specs.declared.fault.EmFault.{EmFault}
use Rattle.em_chain.specs.Chain.{IsChain, IsPacked, IsTight, chain_items, chain_blocks}
use Rattle.em_chain.specs.Effects.{OnlyMoves, Repays, OnFull}
use Rattle.em_chain.specs.Within.{Grows}
use Rattle.em_chain.specs.Writer.{IsWriter, IsPackedSoFar, IsTightSoFar, NeedsBlock, writer_items, writer_blocks, filled}
use Rattle.em_chain.specs.declared.chain.Chain.{Chain}
use Rattle.em_chain.specs.declared.writer.Writer.{Writer}

-- A writer of a list with no record and no block.
pub record Begins (s : RigState) (w : Writer) : Type 0 where
  pub is : IsWriter s w
  pub items : writer_items s w ≡ []
  pub held : writer_blocks s w ≡ []
  pub packed : IsPackedSoFar s w
  pub tight : IsTightSoFar s w
  pub skip_is : w.skip ≡ 0
  pub count : w.count ≡ 0
  pub blocks : w.blocks ≡ 0
  pub filled_is : filled s w ≡ 0

-- One record more at the end.
pub record Appends (s t : RigState) (w v : Writer) (x : Record) : Type 0 where
  pub is : IsWriter t v
  pub items : IsTrue s.device.told → writer_items t v ≡ writer_items s w ++ x ∷ []
  pub grown : IsTrue s.device.told → Grows s (writer_blocks s w) (writer_blocks t v)
  pub packed : IsTrue s.device.told → IsPackedSoFar s w → IsPackedSoFar t v
  pub tight : IsTrue s.device.told → IsTightSoFar s w → IsTightSoFar t v
  pub skip_is : v.skip ≡ w.skip
  pub filled_is : filled t v ≡ filled s w + 1
  pub count_is : v.count ≡ w.count + 1

-- Two moves at most for a block that begins, and none without one. The blocks in use rise with the
-- writer's blocks, and none leaves use. Only an append that needs a block gives up. The first block is
-- owed; each later one is paid by the store of the one before it.
pub record AppendCosts {T : Type 0} (old new : RigState) (w v : Writer) (result : Result T EmFault)
    : Type 0 where
  pub moves : OnOk result (new.moves + 2 * w.blocks ≤ old.moves + 2 * v.blocks)
  pub moves_err : OnErr result (new.moves ≤ old.moves + 2)
  pub more : OnOk result (v.blocks ≤ w.blocks + 1)
  pub used : OnOk result (new.used + w.blocks ≡ old.used + v.blocks)
  pub used_err : OnErr result (new.used ≤ old.used + 1)
  pub used_low : old.used ≤ new.used
  pub most : new.most ≡ max old.most new.used
  pub needs : OnErr result (NeedsBlock old w)
  pub full : IfErr result (λ fault. OnFull fault (new.used ≡ old.used))
  pub owes_first : w.blocks ≡ 0 → Owes 1 old new
  pub owes : 0 < w.blocks → Owes 0 old new
  pub owes_err : OnErr result (Owes 0 old new)

-- The list that was written is a chain.
pub record Finishes (s t : RigState) (w : Writer) (c : Chain) : Type 0 where
  pub is : IsChain t c
  pub items : IsTrue s.device.told → chain_items t c ≡ writer_items s w
  pub blocks : IsTrue s.device.told → chain_blocks t c ≡ writer_blocks s w
  pub packed : IsTrue s.device.told → IsPackedSoFar s w → IsPacked t c
  pub tight : IsTrue s.device.told → IsTightSoFar s w → IsTight t c
  pub skip_is : c.skip ≡ w.skip
  pub count_is : c.count ≡ w.count
  pub blocks_is : c.blocks ≡ w.blocks

-- One move at most, and none with no block. It pays for the block that was owed.
pub record FinishCosts {T : Type 0} (old new : RigState) (w : Writer) (result : Result T EmFault)
    : Type 0 where
  pub only : OnlyMoves (min w.blocks 1) old new
  pub repays : OnOk result (0 < w.blocks → Repays 1 old new)

-- A chain goes on being written. Of a device that doesn't tell, a chain with no block counts as
-- empty.
pub record Resumes (s t : RigState) (c : Chain) (w : Writer) : Type 0 where
  pub is : IsWriter t w
  pub items : IsTrue s.device.told → writer_items t w ≡ chain_items s c
  pub blocks : IsTrue s.device.told → writer_blocks t w ≡ chain_blocks s c
  pub packed : IsTrue s.device.told → IsPacked s c → IsPackedSoFar t w
  pub tight : IsTrue s.device.told → IsTight s c → IsTightSoFar t w
  pub skip_is : IsTrue s.device.told → w.skip ≡ c.skip
  pub count_is : IsTrue s.device.told → w.count ≡ c.count
  pub count_most : w.count ≤ c.count
  pub blocks_is : w.blocks ≡ c.blocks
