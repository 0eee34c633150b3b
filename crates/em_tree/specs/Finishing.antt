-- The end of a tree: its nodes and leaves are released, and its answers become a chain.
use Rattle.std.specs.Prelude.{◌≡◌, ◌⊎◌, ◌+◌, ◌*◌, ◌≤◌, min, length, IsTrue, IfErr, Option, Result, Ok, Err}
use Rattle.em_record.specs.declared.record.Record.{Record}
use Rattle.em_frames.specs.Pool.{SameFrames}
use Rattle.em_space.specs.Ledger.{Session}
use Rattle.em_space.specs.Queue.{Pays}
use Rattle.em_space.specs.Rig.{Cause, Goes, IfFull, RigState}
use Rattle.em_space.specs.declared.fault.EmFault.{EmFault}
use Rattle.em_chain.specs.Writer.{IsPackedSoFar, IsWriter, writer_blocks}
use Rattle.em_settle.specs.declared.step.Step.{Step}
use Rattle.em_tree_blocks.specs.Reading.{tree_blocks}
use Rattle.em_trunk.specs.Buffers.{NoneFrom}
use Rattle.em_trunk.specs.Debts.{owing_all}
use Rattle.em_trunk.specs.Spots.{EachRead}
use Rattle.em_trunk.specs.Works.{IsDrained}
use Rattle.em_tree.specs.Settling.{CanSettleTree, SettledAll, StopsSettling}
use Rattle.em_trunk.specs.Trunk.{TrunkHasFrames, given_by, trunk_blocks, trunk_unstored}
use Rattle.em_trunk.specs.declared.trunk.Trunk.{Trunk}

-- The nodes and leaves of a tree were released, and nothing is in its root's buffer: its answers are
-- left.
pub record ReleasedTrunk (s t : RigState) (v : Trunk) : Type 0 where
  pub session : Session (trunk_blocks s v) s t (writer_blocks t v.answers)
  pub same_frames : SameFrames s.pool t.pool
  pub frames : TrunkHasFrames t v
  pub answers : IsWriter t v.answers
  pub pays : Pays (trunk_unstored v) (min v.answers.blocks 1) s t
  pub moves : IsTrue s.device.told
      → t.moves ≤ s.moves + 2 * length (tree_blocks v.level s v.root)
  pub used : IsTrue s.device.told → t.used + length (trunk_blocks s v) ≡ s.used + v.answers.blocks
  pub most : t.most ≡ s.most
  pub given : IsTrue s.device.told → given_by t v ≡ given_by s v
  pub packed : IsTrue s.device.told → IsPackedSoFar t v.answers

-- They weren't: some may be left in use.
pub record StopsRelease (s t : RigState) (v : Trunk) (fault : EmFault) : Type 0 where
  pub goes : Goes (trunk_blocks s v) s t
  pub frames : TrunkHasFrames t v
  pub pays : Pays (trunk_unstored v) (trunk_unstored v) s t
  pub moves : IsTrue s.device.told
      → t.moves ≤ s.moves + 2 * length (tree_blocks v.level s v.root)
  pub most : t.most ≡ s.most
  pub cause : Cause s t fault
  pub full : IfFull fault (λ _. ⊥)

-- A tree that counts no operation stayed as it was until its nodes and leaves were released.
pub record ReleasesUnused (s t : RigState) (v w : Trunk) : Type 0 where
  pub same : w ≡ v
  pub moves : IsTrue s.device.told
      → t.moves ≤ s.moves + 2 * length (tree_blocks v.level s v.root)

-- a tree that counts no operation (`longest` is 0) needs no block while it is finished
abbrev pub FullIfUsed : {T : Type 0} → Trunk → Result T EmFault → Type 0
FullIfUsed v result = IfErr result (λ fault. IfFull fault (λ _. v.longest ≡ 0 → ⊥))

-- A tree can be finished: all its buffers can be emptied. If it counts no operation, nothing waits in it.
pub record CanFinish (s : RigState) (v : Trunk) : Type 0 where
  pub settle : CanSettleTree s v
  pub unused : v.longest ≡ 0 → IsDrained v
  pub none : IsTrue s.device.told → v.longest ≡ 0 → EachRead (NoneFrom 0) s v

-- All its buffers were emptied, and then its nodes and leaves were released.
pub record FinishedBlocks (key : Record → Record) (step : Option Record → Record → Step)
    (IsOp IsKept : Record → Type 0) (s t : RigState) (v w : Trunk) : Type 0 where
  pub mid : RigState
  pub settled : SettledAll key step IsOp IsKept (owing_all s v) s mid v w
  pub released : ReleasedTrunk mid t w

-- The buffers were emptied, and then the release gave up.
pub record StopsAfterSettling (key : Record → Record) (step : Option Record → Record → Step)
    (IsOp IsKept : Record → Type 0) (s t : RigState) (v w : Trunk) (fault : EmFault) : Type 0 where
  pub mid : RigState
  pub settled : SettledAll key step IsOp IsKept (owing_all s v) s mid v w
  pub stops : StopsRelease mid t w fault

-- what both did, by the result
abbrev pub FinishesBlocks : {T : Type 0} → (Record → Record) → (Option Record → Record → Step)
    → (Record → Type 0) → (Record → Type 0) → RigState → RigState → Trunk → Trunk → Result T EmFault
    → Type 0
FinishesBlocks key step IsOp IsKept s t v w (Ok x) = FinishedBlocks key step IsOp IsKept s t v w
FinishesBlocks key step IsOp IsKept s t v w (Err fault) =
    StopsSettling (owing_all s v) s t v w fault ⊎ StopsAfterSettling key step IsOp IsKept s t v w fault
