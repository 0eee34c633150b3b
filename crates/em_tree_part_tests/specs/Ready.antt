-- A rig of the smallest shape over a device that doesn't tell what it holds.
use Rattle.std.specs.Prelude.{◌≡◌, ◌≤◌, false}
use Rattle.em_frames.specs.Pool.{SameFrames}
use Rattle.em_space.specs.Rig.{RigState, Sound}

-- At least 40 single frames are free.
pub record IsSmall (s : RigState) : Type 0 where
  pub sound : Sound s
  pub untold : s.device.told ≡ false
  pub block : s.pool.shape.block ≡ 128
  pub frames : s.pool.shape.frames ≡ 64
  pub free : 40 ≤ s.pool.free

-- All single frames, both areas and the rack are free.
pub record IsReady (s : RigState) : Type 0 where
  pub small : IsSmall s
  pub free : s.pool.free ≡ 48
  pub areas : s.pool.free_areas ≡ 2
  pub rack : s.pool.rack_out ≡ false

-- Calls left a sound rig of as many blocks and frames.
pub record Keeps (s t : RigState) : Type 0 where
  pub sound : Sound t
  pub told : t.device.told ≡ s.device.told
  pub blocks : t.blocks ≡ s.blocks
  pub frames : SameFrames s.pool t.pool
