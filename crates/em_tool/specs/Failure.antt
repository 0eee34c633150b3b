-- Why a program failed, and its exit code.
use Rattle.std.specs.Prelude.{◌≡◌, ℕ, ◌≤◌, [], Result, Ok, Err}
use Rattle.em_record.specs.Count.{Rose}
use Rattle.em_record.specs.Shape.{ShapeNumbers}
use Rattle.em_frames.specs.Device.{DeviceState}
use Rattle.em_frames.specs.declared.device.BeginFault.TheVariants.{Failed}
use Rattle.em_frames.specs.declared.device.BeginFault.TheVariants as begin
use Rattle.em_space.specs.Rig.{RigState, Goes}
use Rattle.em_ready.specs.Ready.{IsUnused}
use Rattle.em_ends.specs.Status.{code_of}
use Rattle.em_ends.specs.Stop.{stop_status}
use Rattle.em_ends.specs.declared.stop.Stop.{Stop}
use Rattle.em_tool.specs.declared.failure.Failure.{Failure}
use Rattle.em_tool.specs.declared.failure.Failure.TheVariants.{Usage, Shape, NoMemory, Begin, Run}

-- the exit code
abbrev pub exit_code : Failure → ℕ
exit_code Usage = 1
exit_code (Shape fault) = 1
exit_code NoMemory = 7
exit_code (Begin Failed) = 5
exit_code (Begin begin.NoMemory) = 7
exit_code (Run stop) = code_of (stop_status stop)

-- P, if the failure came before the run began
abbrev pub UnlessRun : Failure → Type 0 → Type 0
UnlessRun (Run stop) P = Unit {0}
UnlessRun other P = P

-- What a failure of a run over given names says: the words aren't refused, and if the device failed when it was to begin its
-- count of faults rose.
abbrev pub HasReason : DeviceState → DeviceState → Failure → Type 0
HasReason old new Usage = ⊥
HasReason old new (Shape fault) = ⊥
HasReason old new NoMemory = Unit {0}
HasReason old new (Begin fault) = fault ≡ Failed → Rose old.faults new.faults
HasReason old new (Run stop) = Unit {0}

-- P of the stop, if the run stopped
abbrev pub IfStops : Failure → (Stop → Type 0) → Type 0
IfStops (Run stop) P = P stop
IfStops other P = Unit {0}

-- P, unless the failure came before the run began
abbrev pub IfBegun : Result (Unit {0}) Failure → Type 0 → Type 0
IfBegun (Ok u) P = P
IfBegun (Err failure) P = IfStops failure (λ stop. P)

-- The device was begun, with this many blocks of the shape's size.
pub record HasBlocks (shape : ShapeNumbers) (blocks : ℕ) (device : DeviceState) : Type 0 where
  pub block_is : device.block ≡ shape.block
  pub blocks_is : device.blocks ≡ blocks

-- Why a run stopped over a device that was old before and is new now: there is the rig that was opened over it, of this
-- shape and this many blocks, as it was before and after the run, and of these two the cause holds.
pub record StopsTool (why : RigState → RigState → Stop → Type 0) (shape : ShapeNumbers) (blocks : ℕ)
    (old new : DeviceState) (stop : Stop) : Type 0 where
  pub before : RigState
  pub after : RigState
  pub unused : IsUnused before
  pub none_moved : before.moves ≡ 0
  pub shape_is : before.pool.shape ≡ shape
  pub blocks_is : before.blocks ≡ blocks
  pub told : before.device.told ≡ old.told
  pub faults : old.faults ≤ before.device.faults
  pub goes : Goes [] before after
  pub device : after.device ≡ new
  pub cause : why before after stop
