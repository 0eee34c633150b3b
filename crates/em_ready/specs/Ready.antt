-- The rig of a run when it begins.
use Rattle.std.specs.Prelude.{◌≡◌, ◌+◌, ◌-◌, ◌*◌, ◌≤◌, false}
use Rattle.em_record.specs.Shape.{fan_of}
use Rattle.em_frames.specs.Pool.{PoolCounts}
use Rattle.em_space.specs.Rig.{RigState, Sound}

-- The frames of a run are free: 2f + 12 single ones, two areas and the rack.
pub record IsReady (p : PoolCounts) : Type 0 where
  pub singles : 2 * fan_of p.shape + 12 ≤ p.free
  pub areas : 2 ≤ p.free_areas
  pub rack : p.rack_out ≡ false

-- A rig of which no block is or was in use.
pub record IsUnused (s : RigState) : Type 0 where
  pub sound : Sound s
  pub used : s.used ≡ 0
  pub none_ever : s.most ≡ 0
