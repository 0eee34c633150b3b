-- A node in a frame, stored in a new block.
use Rattle.std.specs.Prelude.{◌≡◌, ℕ, ◌+◌, ◌<◌, [], ◌∷◌, List, IsTrue, Result, Ok, Err}
use Rattle.em_record.specs.declared.record.Record.{Record}
use Rattle.em_frames.specs.Device.{block_at}
use Rattle.em_space.specs.Ledger.{Runs, Stops}
use Rattle.em_space.specs.Rig.{RigState, IfDamaged, InUse}
use Rattle.em_space.specs.declared.fault.EmFault.{EmFault}
use Rattle.em_balance.specs.Effects.{owing}

-- A block that wasn't in use has these records.
pub record StoresFrame (s t : RigState) (block : List Record) (new : ℕ) : Type 0 where
  pub runs : Runs 1 [] (new ∷ []) (owing 0 2) (owing 1 0) s t
  pub below : new < s.blocks
  pub unused : IsTrue s.device.told → InUse s new → ⊥
  pub stored : IsTrue s.device.told → block_at t.device new ≡ block

-- No such block could be taken or written. If one is damaged, it is the first that was freed.
pub record StopsStoring (s t : RigState) (fault : EmFault) : Type 0 where
  pub stops : Stops 1 0 1 [] (owing 0 2) s t fault
  pub damaged : IfDamaged fault (λ block. s.head ≡ block + 1)

-- what storing did, by its result
abbrev pub StoresNew : RigState → RigState → List Record → Result ℕ EmFault → Type 0
StoresNew s t block (Ok new) = StoresFrame s t block new
StoresNew s t block (Err fault) = StopsStoring s t fault
