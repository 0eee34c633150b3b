-- New queues: their frames, and what stood beside them before.
use Rattle.std.proofs.Common.{◌≡◌, ℕ, ◌+◌, ◌-◌, ◌^◌, ◌≤◌, ◌∙◌, ap, arith, List, [], ◌++◌, IsTrue, inl, inr, ⊎_elim}
use Rattle.em_record.specs.Shape.{fan_of}
use Rattle.em_frames.specs.Pool.{PoolCounts, SameFrames}
use Rattle.em_space.specs.Ledger.{Session}
use Rattle.em_space.specs.Queue.{CanServe, QueueCounts, Shares}
use Rattle.em_space.specs.Rig.{RigState}
use Rattle.em_space.specs.declared.fault.EmFault.{EmFault}
use Rattle.em_space.proofs.Queues.{shares_same, shares_then}
use Rattle.em_space.proofs.Sessions.{session_as, session_then}
use Rattle.em_tree.specs.Calls.{StopsNewTrunk}
use Rattle.em_pqueue.specs.Calls.{IsNewQueue}
use Rattle.em_pqueue.specs.ExtQueue.{counts_of as ext_counts}
use Rattle.em_pqueue.specs.contracts.queue.ExtQueueQueue.TheImpl.{ghosts as ext}
use Rattle.em_pqueue.specs.declared.queue.ExtQueue.{ExtQueue}
use Rattle.em_ready.specs.Queues.{FailsToMake, MakesQueue}
use Rattle.em_ready.specs.Ready.{IsReady}

-- The frames of a queue came back.
pub frames_back : (c : QueueCounts) (p q r : PoolCounts) → Shares (record c { frames = 0; areas = 0 }) c p q
    → Shares c (record c { frames = 0; areas = 0 }) q r → SameFrames p r
frames_back c p q r x y = record {
  shape = y.shape ∙ x.shape;
  free = omega (arith, x.free, y.free);
  rack = y.rack ∙ x.rack;
  free_areas = omega (arith, x.areas, y.areas);
  peak = omega (arith, x.peak, y.peak);
}

-- A queue was made after calls that left as many frames free.
pub frames_lent : (c : QueueCounts) (p q r : PoolCounts) → SameFrames p q
    → Shares (record c { frames = 0; areas = 0 }) c q r → Shares (record c { frames = 0; areas = 0 }) c p r
frames_lent c p q r x y =
    shares_then (record c { frames = 0; areas = 0 }) (record c { frames = 0; areas = 0 }) c p q r (shares_same (record c { frames = 0; areas = 0 }) p q x) y

-- A value stands beside a queue that was made after it, if its own blocks are the same.
pub session_made : {held : List ℕ} {s t u : RigState} (js xs ys : List ℕ) → Session held s t xs
    → Session [] t u js → (IsTrue s.device.told → ys ≡ xs) → Session held s u (js ++ ys)
session_made js xs ys h g same =
    session_as (js ++ ys) (session_then [] js xs h g) (λ z. ap (λ (l : List ℕ). js ++ l) (same z))

-- A queue that was made on a rig that is ready can be called.
pub can_serve : (c : QueueCounts) {old new : PoolCounts} → IsReady old
    → Shares (record c { frames = 0; areas = 0 }) c old new → c.frames ≤ 2 → c.areas ≤ 1 → CanServe new
can_serve c ready lent few area = record {
  singles = let e = ap fan_of lent.shape in omega (arith, e, ready.singles, lent.free, few);
  areas = omega (arith, ready.areas, lent.areas, area);
  rack = lent.rack ∙ ready.rack;
}

-- So can one that is made on such a rig,
pub ready_serves : {p : PoolCounts} → IsReady p → CanServe p
ready_serves ready = record {
  singles = omega (arith, ready.singles);
  areas = omega (arith, ready.areas);
  rack = ready.rack;
}

-- also after calls that left as many frames free.
pub serves_again : {old new : PoolCounts} → IsReady old → SameFrames old new → CanServe new
serves_again ready same = record {
  singles = let e = ap fan_of same.shape in omega (arith, e, ready.singles, same.free);
  areas = omega (arith, ready.areas, same.free_areas);
  rack = same.rack ∙ ready.rack;
}

-- A queue over a tree was made: it was lent two frames and an area.
pub makes_ext : {s t : RigState} {q : ExtQueue} → IsNewQueue s t q → MakesQueue ext s t q
makes_ext {s} {t} {q} n = record {
  is = n.is;
  new = n.new;
  session = n.session;
  frames = n.frames;
  few = omega arith;
  area = omega arith;
  used = n.used;
  most = n.most;
  pays = record {
    is = ⊎_elim
        (λ (h : 2 ^ 64 - 1 ≤ t.moves). inl h)
        (λ (h : t.used + s.moves + 0 ≤ s.used + t.moves + 0). inr (omega (arith, h)))
        n.pays.is;
  };
  spent = n.spent;
}

-- It holds no more blocks than it says that it may have held.
pub most_ext : {s t : RigState} {q : ExtQueue} → s.most ≡ 0 → s.used ≡ 0 → IsNewQueue s t q
    → t.most ≤ (ext_counts q).most
most_ext never none n = (let most = n.most in omega (arith, most, never, none))

-- none was made
pub fails_ext : {s t : RigState} {fault : EmFault} → StopsNewTrunk s t fault
    → FailsToMake s t fault
fails_ext x = record {
  goes = x.goes;
  used = x.used;
  most = x.most;
  full = x.full;
  pays = x.pays;
  moves = x.moves;
  cause = x.cause;
}
