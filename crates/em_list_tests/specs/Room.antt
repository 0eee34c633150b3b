-- The room that a queue of em_plain keeps to.
use Rattle.std.specs.Prelude.{ℕ, ◌+◌}
use Rattle.std.proofs.Common.{zero, suc, ◌-◌, ◌≤◌, arith}
use Rattle.std.proofs.Math.Nat.{div-zero}
use Rattle.em_record.specs.Shape.{ShapeNumbers, payload_of}
use Rattle.em_space.specs.Queue.{IsRisingRoom}
use Rattle.em_chain.specs.Counts.{ceiling}
use Rattle.em_chain.proofs.Sessions.{ceiling_rises}

-- after k calls between two moments at which it has no item: the blocks of k items, and one
abbrev pub list_room : ShapeNumbers → ℕ → ℕ
list_room shape k = ceiling k (payload_of shape) + 1

-- more records take no fewer blocks, also of blocks that have none
ceiling_grows : (p j k : ℕ) → j ≤ k → ceiling j p ≤ ceiling k p
ceiling_grows zero j k h = rw (div-zero (j + 0 - 1), div-zero (k + 0 - 1)) (omega arith)
ceiling_grows (suc p) j k h = ceiling_rises j k (suc p) (omega arith) h

-- more calls take no less room
pub list_room_rises : IsRisingRoom list_room
list_room_rises s j k h = let c = ceiling_grows (payload_of s) j k h in omega (arith, c)
