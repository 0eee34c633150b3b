-- What a run leaves of the outside, and how it ended.
use Rattle.std.specs.Prelude.{◌≡◌, ℕ, ◌+◌, ◌-◌, ◌*◌, ◌<◌, ◌≤◌, ◌^◌, ◌⊎◌, Bool, IsTrue, IsFalse, IfSome, List, Option}
use Rattle.em_record.specs.Count.{Rose}
use Rattle.em_record.specs.Shape.{ShapeNumbers}
use Rattle.em_io.specs.Sink.{SentPart}
use Rattle.em_io.specs.Shelf.{SlotState, Stand}
use Rattle.em_io.specs.declared.shelf.Shelf.{Ghosts as ShelfGhosts}
use Rattle.em_io.specs.declared.sink.Sink.{Ghosts as SinkGhosts}
use Rattle.em_io.specs.declared.shelf.Slot.{Slot}
use Rattle.em_frames.specs.Device.{DeviceState}
use Rattle.em_space.specs.Rig.{RigState}
use Rattle.em_ends.specs.declared.status.Status.{Status}
use Rattle.em_ends.specs.declared.status.Status.TheVariants.{ReadFault, WriteFault, DeviceFault}
use Rattle.em_ends.specs.Asked.{Asked, ToldIf}
use Rattle.em_ends.specs.Opens.{OpensSlots, ReadsNamed}
use Rattle.em_ends.specs.Status.{OnEnd, OnNoMemory, OnUsage, IfEndsFull, IfEndsDamaged}

-- The outside at one moment: the device, the state of the output, what stands on the shelf, and how
-- often shelf and output failed.
pub record Outside : Type 0 where
  pub device : DeviceState
  pub output : List ℕ
  pub stand : Stand
  pub read_faults : ℕ
  pub write_faults : ℕ

-- the outside, from what the shelf, the device and the output tell of themselves
abbrev pub outside : {H W : Type 0} → ShelfGhosts H → SinkGhosts W → DeviceState → H → W → Outside
outside h w device shelf out = record {
  device = device;
  output = w.state out;
  stand = h.stand shelf;
  read_faults = h.faults shelf;
  write_faults = w.faults out;
}

-- The end of a run that this was asked of, on a device of this many blocks of which none was in use
-- or moved before.
pub record Ended (tells : Bool) (took : List ℕ → List ℕ → List ℕ) (asked : Asked)
    (shape : ShapeNumbers) (blocks : ℕ) (old new : Outside) (status : Status) : Type 0 where
  pub answers : IsTrue tells → IsTrue old.device.told → OnEnd status
      ((status ≡ asked.status) × (new.output ≡ took old.output asked.output))
  pub due : IsTrue tells → ToldIf asked.status_told old.device.told
      → OnEnd status (status ≡ asked.status)
  pub prefix : IsTrue tells → IsTrue old.device.told
      → SentPart took old.output asked.output new.output
  pub full : IfEndsFull status (λ used. used ≡ blocks)
  pub paid : IfEndsFull status (λ used. (2 ^ 64 - 1 ≤ new.device.moves)
      ⊎ (used ≤ new.device.moves + 2 * shape.frames))
  pub room : IsTrue tells → IsTrue old.device.told
      → IfEndsFull status (λ used. IfSome asked.room (λ f. used < f shape new.stand.slot))
  pub moves : IsTrue tells → IsTrue old.device.told → IfSome asked.moves
      (λ f. new.device.moves ≤ old.device.moves + f shape new.stand.slot)
  pub damaged : IfEndsDamaged status (λ at. IsFalse old.device.told × (at < blocks))

-- The device still tells what it told, and no count of faults fell.
pub record GoesOn (old new : Outside) : Type 0 where
  pub told : new.device.told ≡ old.device.told
  pub read : old.read_faults ≤ new.read_faults
  pub write : old.write_faults ≤ new.write_faults
  pub device : old.device.faults ≤ new.device.faults

-- No count of faults rose.
pub record IsQuiet (old new : Outside) : Type 0 where
  pub read : Rose old.read_faults new.read_faults → ⊥
  pub write : Rose old.write_faults new.write_faults → ⊥
  pub device : Rose old.device.faults new.device.faults → ⊥

-- A status that names the outside has its cause there: its count of faults rose.
pub record Caused (old new : Outside) (status : Status) : Type 0 where
  pub goes_on : GoesOn old new
  pub read : status ≡ ReadFault → Rose old.read_faults new.read_faults
  pub write : status ≡ WriteFault → Rose old.write_faults new.write_faults
  pub device : status ≡ DeviceFault → Rose old.device.faults new.device.faults

-- Over a shelf and a device that tell, at no moment of a run were more blocks in use than its room, by how far each
-- slot was read, if there is such a number.
abbrev pub KeepsRoom : Asked → Bool → (s t : RigState) → (Slot → SlotState) → Type 0
KeepsRoom asked tells s t slots = IsTrue tells → IsTrue s.device.told
    → IfSome asked.room (λ f. t.most ≤ f s.pool.shape slots)

-- The run over the files of these names, of which this was asked, on a rig of which no block is or was in use:
-- how it ended, and why; how many blocks it took at most; and which slots were opened and read.
pub record RunsFiles {H W : Type 0} (h : ShelfGhosts H) (w : SinkGhosts W) (asked : Asked)
    (good : Type 0) (names : Slot → Option (List ℕ)) (s t : RigState) (shelf : H) (out : W) (shelf_after : H)
    (out_after : W) (status : Status) : Type 0 where
  pub ended : Ended h.tells w.took asked s.pool.shape s.blocks
      (outside h w s.device shelf out) (outside h w t.device shelf_after out_after) status
  pub caused : Caused (outside h w s.device shelf out)
      (outside h w t.device shelf_after out_after) status
  pub most : KeepsRoom asked h.tells s t (h.stand shelf_after).slot
  pub opens : OpensSlots good h.tells s.device.told names (h.stand shelf) (h.stand shelf_after) status
  pub all_read : ReadsNamed h.tells names (h.stand shelf_after) status
  pub no_usage : OnUsage status ⊥
  pub no_memory : OnNoMemory status ⊥
