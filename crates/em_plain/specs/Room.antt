-- The blocks of the plain structures.
use Rattle.std.specs.Prelude.{ℕ, ◌+◌, ◌*◌, ◌≤◌, max}
use Rattle.em_record.specs.Shape.{ShapeNumbers, payload_of}
use Rattle.em_space.specs.Rig.{RigState}
use Rattle.em_chain.specs.Counts.{ceiling}

-- With n commands, and for stabs n commands and pairs, a structure holds at most this many blocks at
-- each moment. With this many free ones no call of it answers that the device is full.
abbrev pub plain_room : ShapeNumbers → ℕ → ℕ
plain_room shape n = 3 * (ceiling n (payload_of shape) + 2)

-- In no moment of a call were more blocks in use than this number beside those of others, where the
-- value held this many at the start.
pub record StaysWithin (held most : ℕ) (old new : RigState) : Type 0 where
  pub is : new.most + held ≤ max (old.most + held) (old.used + most)
