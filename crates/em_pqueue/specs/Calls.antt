-- What making a queue leaves.
use Rattle.std.specs.Prelude.{IsTrue, [], max, ◌+◌, ◌≡◌, ◌≤◌}
use Rattle.em_space.specs.Ledger.{Session}
use Rattle.em_space.specs.Queue.{IsNew, Pays, Shares}
use Rattle.em_space.specs.Rig.{RigState}
use Rattle.em_pqueue.specs.ExtQueue.{IsExtQueue, counts_of, queue_blocks, queue_items}
use Rattle.em_pqueue.specs.declared.queue.ExtQueue.{ExtQueue}

-- A queue with no item, of which no call came. It holds two frames, an area and some blocks.
pub record IsNewQueue (s t : RigState) (q : ExtQueue) : Type 0 where
  pub is : IsExtQueue t q
  pub new : IsNew (counts_of q)
  pub session : Session [] s t (queue_blocks t q)
  pub frames : Shares (record (counts_of q) { frames = 0; areas = 0 }) (counts_of q) s.pool t.pool
  pub used : t.used ≡ s.used + (counts_of q).blocks
  pub most : t.most ≤ max s.most (s.used + (counts_of q).most)
  pub pays : Pays 0 0 s t
  pub spent : (counts_of q).spent + s.moves ≡ t.moves
  pub moves : t.moves ≤ s.moves + 4
  pub items : IsTrue s.device.told → queue_items t q ≡ []
