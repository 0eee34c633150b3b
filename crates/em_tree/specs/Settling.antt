-- A tree whose buffers are emptied level by level, from the root down.
use Rattle.std.specs.Prelude.{ℕ, ◌+◌, ◌*◌, ◌≤◌, Option, IsTrue, Result, Ok, Err}
use Rattle.em_record.specs.declared.record.Record.{Record}
use Rattle.em_settle.specs.declared.step.Step.{Step}
use Rattle.em_space.specs.Rig.{RigState}
use Rattle.em_space.specs.declared.fault.EmFault.{EmFault}
use Rattle.em_trunk.specs.Buffers.{NoneFrom}
use Rattle.em_trunk.specs.Debts.{KeepsOwing, MayOwe, owing_all, owing_to, settling_toll}
use Rattle.em_tree_buffers.specs.Draining.{CanDrain}
use Rattle.em_tree_buffers.specs.Emptying.{CanSettleLevel}
use Rattle.em_tree_buffers.specs.Loops.{KeepsQuiet}
use Rattle.em_trunk.specs.Trunk.{full_limit}
use Rattle.em_trunk.specs.Works.{StopsWorking, Works, unstored_most, IsDrained}
use Rattle.em_trunk.specs.declared.trunk.Trunk.{Trunk}
use Rattle.em_trunk.specs.Spots.{EachRead}

-- All buffers were emptied, with a debt: at most what might be owed before. If no operation waited, the same tree is read.
pub record SettledAll (key : Record → Record) (step : Option Record → Record → Step)
    (IsOp IsKept : Record → Type 0) (before : ℕ) (s t : RigState) (v w : Trunk) : Type 0 where
  pub taken : ℕ
  pub debt : ℕ
  pub works : Works key step IsOp IsKept 0 0 (s.pool.shape.block * debt) taken s t v w
  pub owes : IsTrue s.device.told → KeepsOwing before 0 debt s t v w
  pub none_waits : IsTrue s.device.told → EachRead (NoneFrom 0) t w
  pub drained : IsDrained w
  pub quiet : KeepsQuiet s t v w

-- A tree gave up on the way. The debts before this and in it are within what the call pays for by itself.
pub record StopsSettling (before : ℕ) (s t : RigState) (v w : Trunk) (fault : EmFault) : Type 0 where
  pub debt : ℕ
  pub stops : StopsWorking 0 (s.pool.shape.block * debt) (unstored_most s) s t v w fault
  pub owes : IsTrue s.device.told → (m : MayOwe 0 before s v) → m.debt + debt ≤ settling_toll s v

-- what emptying all buffers did, by its result
abbrev pub SettlesAllTo : {T : Type 0} → (Record → Record) → (Option Record → Record → Step)
    → (Record → Type 0) → (Record → Type 0) → ℕ → RigState → RigState → Trunk → Trunk
    → Result T EmFault → Type 0
SettlesAllTo key step IsOp IsKept before s t v w (Ok x) =
    SettledAll key step IsOp IsKept before s t v w
SettlesAllTo key step IsOp IsKept before s t v w (Err fault) = StopsSettling before s t v w fault

-- The buffers of a level and of those below can be emptied, one level after another.
pub record CanSettleDown (at : ℕ) (s : RigState) (v : Trunk) : Type 0 where
  pub down : at ≤ v.level
  pub drained : IsDrained v
  pub settles : IsTrue s.device.told → CanSettleLevel (full_limit s.pool.shape) at s v
  pub may : IsTrue s.device.told → MayOwe 0 (owing_to at s v) s v

-- All buffers can be emptied.
pub record CanSettleTree (s : RigState) (v : Trunk) : Type 0 where
  pub drain : CanDrain s v
  pub may : IsTrue s.device.told → MayOwe 0 (owing_all s v) s v
