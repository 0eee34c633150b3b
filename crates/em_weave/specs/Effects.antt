-- What calls leave of a rig that lend two frames, or give two back.
use Rattle.std.specs.Prelude.{ℕ, ◌≤◌, List, []}
use Rattle.em_frames.specs.Pool.{LentFrames, GivenFrames, singles_of}
use Rattle.em_space.specs.Rig.{RigState, Sound, Touches}

-- Two frames were lent, and no block was changed.
pub record LendsTwo (old new : RigState) : Type 0 where
  pub sound : Sound new
  pub touches : Touches [] old new
  pub frames : LentFrames 2 old.pool new.pool
  pub within : old.pool.free ≤ singles_of old.pool.shape

-- Two frames came back, and only these blocks may have changed.
pub record GivesTwo (held : List ℕ) (old new : RigState) : Type 0 where
  pub sound : Sound new
  pub touches : Touches held old new
  pub frames : GivenFrames 2 old.pool new.pool
