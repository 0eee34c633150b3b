-- Which blocks the result of a call holds.
use Rattle.std.specs.Prelude.{◌≡◌, ℕ, List, ◌++◌}
use Rattle.em_space.specs.Rig.{RigState}
use Rattle.em_space.specs.Held.{NoneInUse}

-- The blocks are the old ones and some that weren't in use.
pub record Grows (s : RigState) (old new : List ℕ) : Type 0 where
  pub more : List ℕ
  pub is : new ≡ old ++ more
  pub fresh : NoneInUse s more

-- The first blocks of a list are gone.
pub record Ends (old new : List ℕ) : Type 0 where
  pub gone : List ℕ
  pub is : old ≡ gone ++ new
