-- Calls that only read.
use Rattle.std.specs.Prelude.{◌≡◌, []}
use Rattle.em_space.specs.Rig.{RigState, Goes}

-- Blocks were read, and nothing was changed: as many are in use, and were at most.
pub record Looks (old new : RigState) : Type 0 where
  pub goes : Goes [] old new
  pub used : new.used ≡ old.used
  pub most : new.most ≡ old.most
