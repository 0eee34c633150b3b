-- A queue that was made, and one that was given up: what a run knows of it, whichever it is.
use Rattle.std.specs.Prelude.{◌≡◌, ◌≤◌, ◌+◌, [], ◌<◌, max}
use Rattle.em_space.specs.Ledger.{Session}
use Rattle.em_space.specs.Queue.{IsNew, Pays, Shares}
use Rattle.em_space.specs.Rig.{Cause, Goes, RigState, IfFull}
use Rattle.em_space.specs.declared.fault.EmFault.{EmFault}
use Rattle.em_space.specs.declared.queue.Queue.{Ghosts as QueueGhosts}

-- A queue of which no call came was made: its blocks weren't in use, and its frames are lent, at most two
-- single ones and an area.
pub record MakesQueue {Q : Type 0} (queue : QueueGhosts Q) (s t : RigState) (q : Q) : Type 0 where
  pub is : queue.IsQueue q t
  pub new : IsNew (queue.counts q)
  pub session : Session [] s t (queue.blocks q t)
  pub frames : Shares (record (queue.counts q) { frames = 0; areas = 0 }) (queue.counts q) s.pool
      t.pool
  pub few : (queue.counts q).frames ≤ 2
  pub area : (queue.counts q).areas ≤ 1
  pub used : t.used ≡ s.used + (queue.counts q).blocks
  pub most : t.most ≤ max s.most (s.used + (queue.counts q).most)
  pub pays : Pays 0 (queue.counts q).unstored s t
  pub spent : (queue.counts q).spent + s.moves ≡ t.moves

-- None was made: at most four blocks were moved, of those that it took at most one isn't stored, and its
-- frames are back. It was full only if fewer than two were free.
pub record FailsToMake (s t : RigState) (fault : EmFault) : Type 0 where
  pub goes : Goes [] s t
  pub used : t.used ≤ s.used + 2
  pub most : t.most ≤ max s.most (s.used + 2)
  pub full : IfFull fault (λ used. s.blocks < s.used + 2)
  pub pays : Pays 0 1 s t
  pub moves : t.moves ≤ s.moves + 4
  pub cause : Cause s t fault
