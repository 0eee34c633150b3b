-- Blocks that are read and tested, while nothing else changes.
use Rattle.std.specs.Prelude.{◌≡◌, ℕ, ◌+◌, ◌≤◌, List, [], IsTrue, Result, Ok, Err}
use Rattle.em_record.specs.declared.record.Record.{Record}
use Rattle.em_frames.specs.Device.{block_at}
use Rattle.em_space.specs.Rig.{RigState, BlockCause, Goes, IfDamaged, SameBlocks}
use Rattle.em_space.specs.declared.fault.EmFault.{EmFault}

-- Blocks were read, by this many moves at most. All blocks are as they were.
pub record ReadsOnly (n : ℕ) (s t : RigState) : Type 0 where
  pub goes : Goes [] s t
  pub same : SameBlocks s t
  pub kept : t.device.contents ≡ s.device.contents
  pub moves : t.moves ≤ s.moves + n

-- A reading gave up, after this many moves at most.
pub record StopsReading (n : ℕ) (s t : RigState) (fault : EmFault) : Type 0 where
  pub reads : ReadsOnly n s t
  pub cause : BlockCause s t fault

-- A block was read that passed a test. It is what the device tells.
pub record ReadsPassing (Test : List Record → Type 0) (s t : RigState) (k : ℕ)
    (block : List Record) : Type 0 where
  pub reads : ReadsOnly 1 s t
  pub is : Test block
  pub loaded : IsTrue s.device.told → block ≡ block_at s.device k

-- It couldn't be read, or didn't pass. If a block is damaged, it is this one.
pub record ReadsFailing (s t : RigState) (k : ℕ) (fault : EmFault) : Type 0 where
  pub stops : StopsReading 1 s t fault
  pub damaged : IfDamaged fault (λ block. block ≡ k)

-- what reading a block that is to pass a test did, by its result
abbrev pub ReadsTested : {T : Type 0} → (List Record → Type 0) → RigState → RigState → ℕ
    → List Record → Result T EmFault → Type 0
ReadsTested Test s t k block (Ok x) = ReadsPassing Test s t k block
ReadsTested Test s t k block (Err fault) = ReadsFailing s t k fault
