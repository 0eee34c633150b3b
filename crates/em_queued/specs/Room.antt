-- When a call of a queue, or one on lists beside it, is refused as full.
use Rattle.std.specs.Prelude.{ℕ, ◌+◌, ◌<◌, ◌≤◌, IfSome, IsTrue, Option}
use Rattle.em_record.specs.Shape.{ShapeNumbers}
use Rattle.em_space.specs.Queue.{QueueCounts}
use Rattle.em_space.specs.Rig.{IfFull, RigState}
use Rattle.em_space.specs.declared.fault.EmFault.{EmFault}

-- the room that a queue states, by the shape and k, if it states one
abbrev pub StatedRoom : Type 0
StatedRoom = Option (ShapeNumbers → ℕ → ℕ)

-- if the device tells, the queue never held more than its room
abbrev pub FitsRoom : StatedRoom → QueueCounts → RigState → Type 0
FitsRoom room c s = IsTrue s.device.told → IfSome room (λ f. c.most ≤ f s.pool.shape c.k)

-- Of calls of a queue, and on lists beside it that held this many blocks and want at most as many as the
-- peak: if the device tells and the queue states a room, it is full only if the room of this k and the peak
-- are more than all blocks that were free or theirs.
pub record FullBeside (room : StatedRoom) (held peak : ℕ) (c : QueueCounts) (k : ℕ) (s : RigState)
    (fault : EmFault) : Type 0 where
  pub is : IfFull fault (λ used. IsTrue s.device.told → IfSome room (λ f.
      used + (c.blocks + held) < s.used + (f s.pool.shape k + peak)))
