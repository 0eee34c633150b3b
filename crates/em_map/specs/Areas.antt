-- Areas that a value keeps between its calls. It has the first number of them before a call, and the second after it.
use Rattle.std.specs.Prelude.{◌≡◌, ℕ, ◌+◌, ◌≤◌, List}
use Rattle.em_frames.specs.Pool.{PoolCounts}
use Rattle.em_space.specs.Rig.{RigState, Sound, Touches}

-- What is free and what the value holds are as many together as before. More may have been out in between.
pub record SharesAreas (before after : ℕ) (p q : PoolCounts) : Type 0 where
  pub shape : q.shape ≡ p.shape
  pub free : q.free ≡ p.free
  pub areas : q.free_areas + after ≡ p.free_areas + before
  pub rack : q.rack_out ≡ p.rack_out
  pub peak : p.peak ≤ q.peak

-- What holds after a call on the value, whether it gave up or not: only these blocks may have changed, and the frames and
-- areas that are free and those that it holds are as many as before.
pub record KeepsAreas (before after : ℕ) (held : List ℕ) (old new : RigState) : Type 0 where
  pub sound : Sound new
  pub touches : Touches held old new
  pub frames : SharesAreas before after old.pool new.pool

-- This many single frames and areas more are free. More may have been out in between.
pub record GivenWithAreas (frames own : ℕ) (old new : PoolCounts) : Type 0 where
  pub shape : new.shape ≡ old.shape
  pub free : new.free ≡ old.free + frames
  pub rack : new.rack_out ≡ old.rack_out
  pub free_areas : new.free_areas ≡ old.free_areas + own
  pub peak : old.peak ≤ new.peak
