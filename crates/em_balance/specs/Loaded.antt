-- A node that was loaded and tested.
use Rattle.std.specs.Prelude.{◌≡◌, ℕ, true, ◌*◌, ◌<◌, ◌≤◌, ◌+◌, List, [], get_or, length, IsTrue, Result, Ok, Err}
use Rattle.em_record.specs.Shape.{ShapeNumbers, fan_of}
use Rattle.em_record.specs.declared.record.Record.{Record}
use Rattle.em_record.specs.Order.{is_below}
use Rattle.em_frames.specs.Device.{block_at}
use Rattle.em_space.specs.Rig.{RigState, BlockCause, Goes, IfDamaged, SameBlocks}
use Rattle.em_space.specs.declared.fault.EmFault.{EmFault}
use Rattle.em_node.specs.Node.{IsNodeBlock, entries_of, level_of, no_entry}

-- A block is a node with an entry, over which there may be another level, and its first low key is
-- below a key.
pub record IsRootBelow (shape : ShapeNumbers) (blocks : ℕ) (key : Record) (block : List Record)
    : Type 0 where
  pub node : IsNodeBlock (2 * fan_of shape) blocks block
  pub some : 0 < length (entries_of block)
  pub not_last : level_of block < 63
  pub below : is_below (get_or (entries_of block) 0 no_entry).low key ≡ true

-- A block was read by one move at most, and none was changed.
pub record ReadsBlock (s t : RigState) : Type 0 where
  pub goes : Goes [] s t
  pub same : SameBlocks s t
  pub moves : t.moves ≤ s.moves + 1

-- It passed a test, and is what the device tells.
pub record PassesTest (Test : List Record → Type 0) (s t : RigState) (k : ℕ) (block : List Record)
    : Type 0 where
  pub reads : ReadsBlock s t
  pub is : Test block
  pub loaded : IsTrue s.device.told → block ≡ block_at s.device k

-- It couldn't be read, or didn't pass. If a block is damaged, it is this one.
pub record FailsTest (s t : RigState) (k : ℕ) (fault : EmFault) : Type 0 where
  pub reads : ReadsBlock s t
  pub cause : BlockCause s t fault
  pub damaged : IfDamaged fault (λ block. block ≡ k)

-- what loading a block that is to pass a test did, by its result
abbrev pub LoadsTested : {T : Type 0} → (List Record → Type 0) → RigState → RigState → ℕ
    → List Record → Result T EmFault → Type 0
LoadsTested Test s t k block (Ok x) = PassesTest Test s t k block
LoadsTested Test s t k block (Err fault) = FailsTest s t k fault
