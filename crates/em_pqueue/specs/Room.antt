-- How many blocks a queue may hold inside a call.
use Rattle.std.specs.Prelude.{ℕ, ◌+◌, ◌<◌, ◌≤◌, List, length, max}
use Rattle.em_space.specs.Rig.{IfFull, RigState}
use Rattle.em_space.specs.declared.fault.EmFault.{EmFault}
use Rattle.em_tree_cost.specs.Shares.{tree_room}

-- At no moment did a queue that held these blocks at first hold more than the room of this k.
pub record QueueHolds (k : ℕ) (held : List ℕ) (s t : RigState) : Type 0 where
  pub most : t.most + length held ≤ max (s.most + length held) (s.used + tree_room s.pool.shape k)

-- It was full only if these and those of others are more than all.
pub record QueueOver (k : ℕ) (held : List ℕ) (s : RigState) (fault : EmFault) : Type 0 where
  pub full : IfFull fault (λ _. s.blocks + length held < s.used + tree_room s.pool.shape k)
