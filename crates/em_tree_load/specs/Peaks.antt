-- How many blocks more are in use at a moment of calls than were before them.
use Rattle.std.specs.Prelude.{ℕ, ◌+◌, ◌≤◌, max}
use Rattle.em_space.specs.Rig.{RigState}

-- At no moment of calls were more than n blocks more in use than before them, nor are now.
pub record Peaks (n : ℕ) (s t : RigState) : Type 0 where
  pub used : t.used ≤ s.used + n
  pub most : t.most ≤ max s.most (s.used + n)
