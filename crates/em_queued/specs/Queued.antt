-- Calls of a queue in the ledger, and calls of a queue beside other values.
use Rattle.std.specs.Prelude.{◌≡◌, ℕ, ◌+◌, ◌≤◌, max, List}
use Rattle.em_space.specs.Ledger.{Account, both, Runs}
use Rattle.em_space.specs.Queue.{Pays, QueueCounts, Shares}
use Rattle.em_space.specs.Rig.{RigState, Sound, Touches, Cause}
use Rattle.em_space.specs.declared.fault.EmFault.{EmFault}
use Rattle.em_queued.specs.Room.{FullBeside, StatedRoom}

-- the account of a queue: its blocks are paid by the moves of its calls
abbrev pub queue_account : QueueCounts → Account
queue_account c = record { blocks = c.blocks; unstored = c.unstored; paid = c.spent; owed = 0 }

-- the account of no value
abbrev pub no_account : Account
no_account = record { blocks = 0; unstored = 0; paid = 0; owed = 0 }

-- At most this many calls of a queue came. The last one may have been refused.
pub record Called (calls : ℕ) (c d : QueueCounts) : Type 0 where
  pub n : d.n ≤ c.n + calls
  pub k : d.k ≤ max c.k (c.since + calls)
  pub more : c.most ≤ d.most

-- At most this many calls of a queue came, and none was refused: it has the frames that it had.
pub record CallsOn (calls : ℕ) (c d : QueueCounts) : Type 0 where
  pub called : Called calls c d
  pub since : d.since ≤ c.since + calls
  pub frames : d.frames ≡ c.frames
  pub areas : d.areas ≡ c.areas

-- At most this many calls of a queue, and calls on other values, none of which was refused. The
-- values had the first account and have the second; at no moment did they hold more blocks than the
-- peak. The lists have the blocks of the queue and of the others.
pub record RunsBeside (calls peak : ℕ) (held ks : List ℕ) (a b : Account) (c d : QueueCounts)
    (first now : RigState) : Type 0 where
  pub runs : Runs (d.most + peak) held ks (both (queue_account c) a) (both (queue_account d) b)
      first now
  pub calls_on : CallsOn calls c d

-- Such calls of a queue that states this room, or none, of which the last one was refused, with at most
-- this many moves beyond those of the queue and those that the others owed. At most as many blocks as there
-- are frames, and this many more, aren't stored.
pub record StopsBeside (room : StatedRoom) (calls peak limit unstored : ℕ) (held : List ℕ)
    (a : Account) (c d : QueueCounts) (first now : RigState) (fault : EmFault) : Type 0 where
  pub sound : Sound now
  pub touches : Touches held first now
  pub frames : Shares c d first.pool now.pool
  pub called : Called calls c d
  pub most : now.most + (c.blocks + a.blocks)
      ≤ max (first.most + (c.blocks + a.blocks)) (first.used + (d.most + peak))
  pub moves : now.moves + (c.spent + a.paid) ≤ first.moves + (a.owed + d.spent) + limit
  pub pays : Pays (c.unstored + a.unstored) (first.pool.shape.frames + unstored) first now
  pub cause : Cause first now fault
  pub full : FullBeside room a.blocks peak c d.k first fault
