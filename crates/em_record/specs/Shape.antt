-- The sizes of a machine in the external memory model: B records to a block, m frames of one block
-- each. The ranges are those of docs/ARCHITECTURE.md, "The machine".
use Rattle.std.specs.Prelude.{◌≡◌, ℕ, ◌-◌, ◌*◌, ◌/◌, ◌%◌, ◌≤◌, ◌==◌, ◌&&◌, Bool, nat_le, not, min, if◌then◌else◌, Result, Ok, Err}
use Rattle.em_record.specs.declared.fault.ShapeFault.{ShapeFault}
use Rattle.em_record.specs.declared.fault.ShapeFault.TheVariants.{BlockRange, FramesRange, FramesMultiple}

-- the records of a block, and the number of frames
pub record ShapeNumbers : Type 0 where
  pub block : ℕ
  pub frames : ℕ

-- the fan-out of a tree
abbrev pub fan_of : ShapeNumbers → ℕ
fan_of shape = shape.frames / 4

-- the frames of an area
abbrev pub wide_of : ShapeNumbers → ℕ
wide_of shape = fan_of shape / 2

-- the payload records of a chain block
abbrev pub payload_of : ShapeNumbers → ℕ
payload_of shape = shape.block - 1

abbrev pub is_within : ℕ → ℕ → ℕ → Bool
is_within low high n = nat_le low n && nat_le n high

-- the shape with these numbers, or the first rule that they break
abbrev pub shape_of : ℕ → ℕ → Result ShapeNumbers ShapeFault
shape_of block frames =
    if not (is_within 128 65536 block) then Err BlockRange
    else (if not (is_within 64 (min 1024 (block / 2)) frames) then Err FramesRange
    else (if not (frames % 8 == 0) then Err FramesMultiple
    else Ok (record { block = block; frames = frames })))

-- the limits of every shape
pub record IsShape (shape : ShapeNumbers) : Type 0 where
  pub block_low : 128 ≤ shape.block
  pub block_high : shape.block ≤ 65536
  pub frames_low : 64 ≤ shape.frames
  pub frames_high : shape.frames ≤ 1024
  pub frames_within : 2 * shape.frames ≤ shape.block
  pub frames_multiple : shape.frames % 8 ≡ 0
