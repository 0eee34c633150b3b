-- The root's buffer, emptied into those of the root's entries.
use Rattle.std.specs.Prelude.{◌≡◌, ℕ, ◌+◌, ◌*◌, ◌≤◌, length, IsTrue, Option, Result, Ok, Err}
use Rattle.em_record.specs.declared.record.Record.{Record}
use Rattle.em_settle.specs.declared.step.Step.{Step}
use Rattle.em_space.specs.Rig.{RigState}
use Rattle.em_space.specs.declared.fault.EmFault.{EmFault}
use Rattle.em_chain.specs.Writer.{writer_items}
use Rattle.em_tree_model.specs.Pouring.{pour}
use Rattle.em_tree_blocks.specs.Reading.{entries_at}
use Rattle.em_trunk.specs.Buffers.{IsThin}
use Rattle.em_trunk.specs.Spots.{EachRead}
use Rattle.em_trunk.specs.Trunk.{full_limit, root_of}
use Rattle.em_trunk.specs.Works.{StopsWorking, Works, deepest, unstored_most, IsDrained}
use Rattle.em_trunk.specs.declared.trunk.Trunk.{Trunk}

-- The root's buffer can be emptied: it is at most full, and no other is. It has no more blocks than operations.
pub record CanDrain (s : RigState) (v : Trunk) : Type 0 where
  pub most : v.buffer.count ≤ full_limit s.pool.shape
  pub blocks : v.buffer.blocks ≤ v.buffer.count
  pub thin : IsTrue s.device.told → EachRead (IsThin (full_limit s.pool.shape)) s v

-- what a buffer of any length owes, over a root with these entries
abbrev pub drain_debt : RigState → Trunk → ℕ
drain_debt s v = 4 * length (entries_at s v.root) + 9

-- The root's entries have its operations. A full buffer pays for the moves, with three descents
-- beside; of another one a part of them is owed.
pub record DrainedRoot (key : Record → Record) (step : Option Record → Record → Step)
    (IsOp IsKept : Record → Type 0) (s t : RigState) (v w : Trunk) : Type 0 where
  pub works : (p : ℕ) → full_limit s.pool.shape ≤ v.buffer.count
      → Works key step IsOp IsKept p (p + 18 + 3 * deepest s v) 0 0 s t v w
  pub owes : (p : ℕ) → Works key step IsOp IsKept p p (s.pool.shape.block * drain_debt s v) 0 s t v w
  pub pours : IsTrue s.device.told → root_of t w ≡ pour key (root_of s v) (writer_items s v.buffer)
  pub level : w.level ≡ v.level
  pub drained : IsDrained w

-- It gave up.
pub record StopsDraining (s t : RigState) (v w : Trunk) (fault : EmFault) : Type 0 where
  pub stops : (p : ℕ) → full_limit s.pool.shape ≤ v.buffer.count
      → StopsWorking p 0 (unstored_most s) s t v w fault
  pub owes : (p : ℕ)
      → StopsWorking p (s.pool.shape.block * drain_debt s v) (unstored_most s) s t v w fault

-- what emptying it did, by its result
abbrev pub DrainsTo : {T : Type 0} → (Record → Record) → (Option Record → Record → Step)
    → (Record → Type 0) → (Record → Type 0) → RigState → RigState → Trunk → Trunk → Result T EmFault
    → Type 0
DrainsTo key step IsOp IsKept s t v w (Ok x) = DrainedRoot key step IsOp IsKept s t v w
DrainsTo key step IsOp IsKept s t v w (Err fault) = StopsDraining s t v w fault
