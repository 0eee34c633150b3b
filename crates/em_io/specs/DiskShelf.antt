-- A shelf of files.
use Rattle.std.specs.Prelude.{ℕ, Bool, false, [], None}
use Rattle.em_io.specs.Shelf.{SlotState, Stand, by_slot}

-- the two slots, of which nothing left is told, and the calls that failed
pub record DiskShelfState : Type 0 where
  pub first : SlotState
  pub second : SlotState
  pub faults : ℕ

-- a slot of which it is told whether it was opened, and whether with Ok
abbrev pub untold : Bool → Bool → SlotState
untold opened ready = record { opened = opened; ready = ready; lost = false; left = [] }

-- what stands on it; no text is told
abbrev pub stand_of : DiskShelfState → Stand
stand_of state = record { text = λ _ _. None; slot = by_slot state.first state.second }
