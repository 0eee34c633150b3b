-- Parts of a call on a queue, one after another.
use Rattle.std.specs.Prelude.{Err, IfErr, IsErrAnd, IsTrue, Ok, OnErr, Result, ℕ, ◌≡◌}
use Rattle.std.proofs.Common.{arith, sym, ap, subst, ◌∙◌, refl}
use Rattle.em_record.specs.Shape.{ShapeNumbers}
use Rattle.em_space.specs.Held.{Holds}
use Rattle.em_space.specs.Queue.{CanServe, Pays}
use Rattle.em_space.specs.Rig.{BlockCause, Cause, Goes, IfFull, RigState, Sound}
use Rattle.em_space.specs.declared.fault.EmFault.{EmFault}
use Rattle.em_space.specs.declared.fault.EmFault.TheVariants.{DeviceFault, Full, Damaged}
use Rattle.em_space.proofs.Paying.{pays_kept, pays_more, pays_then}
use Rattle.em_space.proofs.Sessions.{session_none, session_trans}
use Rattle.em_space.proofs.Steps.{cause_after, same_frames, same_frames_then}
use Rattle.em_space.proofs.Within.{goes_within}
use Rattle.em_frames.specs.Pool.{SameFrames}
use Rattle.em_frames.specs.Pool as pools
use Rattle.em_pqueue.specs.ExtQueue.{queue_blocks, trunk_of}
use Rattle.em_pqueue.specs.Steps.{SameCalls, Stops, Works}
use Rattle.em_pqueue.specs.declared.queue.ExtQueue.{ExtQueue}
use Rattle.em_trunk.specs.Trunk.{trunk_unstored}
use Rattle.em_pqueue.proofs.Rooms.{holds_then, over_then}
use Rattle.em_pqueue.specs.Room.{QueueHolds, QueueOver}

-- a fault that was handed on
pub of_err : {T : Type 0} (P : Result T EmFault → Type 0) (r : Result T EmFault) (e : EmFault)
    → IsErrAnd r (λ f. f ≡ e) → P (Err e) → P r
of_err P (Ok x) e h p = absurd h
of_err P (Err f) e h p = subst (λ (z : EmFault). P (Err z)) (sym h) p

-- P holds after a call, so it does if that gave up,
pub on_err : {T : Type 0} (P : Type 0) (r : Result T EmFault) → P → OnErr r P
on_err P (Ok x) p = tt
on_err P (Err f) p = p

-- and Q, if P leads to it,
pub on_err_so : {T : Type 0} (P Q : Type 0) (r : Result T EmFault) → (P → Q) → OnErr r P → OnErr r Q
on_err_so P Q (Ok x) h p = tt
on_err_so P Q (Err f) h p = h p

-- or P does if the call was full.
pub if_full : (P : Type 0) (f : EmFault) → P → IfFull f (λ _. P)
if_full P DeviceFault p = tt
if_full P (Full used) p = p
if_full P (Damaged block) p = tt

-- A call that never is full,
pub block_full : (P : Type 0) (s t : RigState) (f : EmFault) → BlockCause s t f → IfFull f (λ _. P)
block_full P s t DeviceFault h = tt
block_full P s t (Full used) h = absurd h
block_full P s t (Damaged block) h = tt

-- P after a fault that was handed on
pub full_by_err : {T : Type 0} (P : Type 0) (r : Result T EmFault) (f : EmFault)
    → IsErrAnd r (λ g. g ≡ f) → IfFull f (λ _. P) → IfErr r (λ g. IfFull g (λ _. P))
full_by_err P r f x h = of_err (λ (z : Result _ EmFault). IfErr z (λ g. IfFull g (λ _. P))) r f x h

pub same_calls : (q : ExtQueue) → SameCalls q q
same_calls q = record { calls = refl; longest = refl; since = refl; blocks = refl; most = refl }

pub same_calls_then : {q w z : ExtQueue} → SameCalls q w → SameCalls w z → SameCalls q z
same_calls_then h g = record {
  calls = g.calls ∙ h.calls;
  longest = g.longest ∙ h.longest;
  since = g.since ∙ h.since;
  blocks = g.blocks ∙ h.blocks;
  most = g.most ∙ h.most;
}

-- A pool can serve as before, if as many frames are free.
pub serves_still : (p r : pools.PoolCounts) → SameFrames p r → CanServe p → CanServe r
serves_still p r f c = record {
  singles = rw (f.shape, f.free) c.singles;
  areas = rw (f.free_areas) c.areas;
  rack = f.rack ∙ c.rack;
}

-- Nothing was done.
pub works_none : (s : RigState) (q : ExtQueue) → Sound s
    → (IsTrue s.device.told → Holds s (queue_blocks s q)) → Works s s q q
works_none s q sound holds = record {
  session = session_none s (queue_blocks s q) sound holds;
  frames = same_frames s.pool;
  pays = pays_kept (trunk_unstored (trunk_of q)) (omega arith) (omega arith);
  loses = λ told. refl;
  spent = refl;
  same = same_calls q;
}

-- One part after another.
pub works_then : {s t u : RigState} (q w z : ExtQueue) → Works s t q w → Works t u w z → Works s u q z
works_then {s} {t} {u} q w z h g = record {
  session = session_trans h.session g.session;
  frames = same_frames_then s.pool t.pool u.pool h.frames g.frames;
  pays = pays_then h.pays g.pays g.session.touches.moves;
  loses = λ told. (let a = h.loses told in
      let b = g.loses (h.session.touches.told ∙ told) in omega (arith, a, b));
  spent = omega (arith, h.spent, g.spent);
  same = same_calls_then h.same g.same;
}

-- what went well left
pub works_goes : {s t : RigState} (q w : ExtQueue) → Works s t q w → Goes (queue_blocks s q) s t
works_goes q w h = record {
  sound = h.session.sound;
  touches = h.session.touches;
  frames = h.frames;
}

-- Of blocks, moves and cause, if a part gave up that came after one that went well.
pub record StopsAfter (s u : RigState) (q : ExtQueue) (fault : EmFault) : Type 0 where
  pub goes : Goes (queue_blocks s q) s u
  pub pays : Pays (trunk_unstored (trunk_of q)) s.pool.shape.frames s u
  pub cause : Cause s u fault

pub stops_after : {s t u : RigState} {f : EmFault} (q w : ExtQueue) → Works s t q w
    → Goes (queue_blocks t w) t u → Pays (trunk_unstored (trunk_of w)) t.pool.shape.frames t u
    → Cause t u f → StopsAfter s u q f
stops_after {s} {t} {u} {f} q w h goes pays cause =
    let shape : t.pool.shape.frames ≡ s.pool.shape.frames =
    ap (λ (z : ShapeNumbers). z.frames) h.session.touches.shape in
    record {
      goes = goes_within (queue_blocks s q) (queue_blocks t w) s t u (works_goes q w h)
          h.session.within goes;
      pays = pays_then h.pays (pays_more pays (omega (arith, shape))) goes.touches.moves;
      cause = cause_after (queue_blocks s q) s t u f h.session.touches cause;
    }

-- A part of a call gave up after one that went well.
pub stops_then : {s t u : RigState} {f : EmFault} (q w z : ExtQueue) → Works s t q w
    → (IsTrue s.device.told → QueueHolds q.longest (queue_blocks s q) s t) → Stops t u w z f
    → Stops s u q z f
stops_then {s} {t} {u} {f} q w z h room g =
    let a = stops_after q w h g.goes g.pays g.cause in
    let goes = h.session.touches in
    let H : ℕ → Type 0 = λ k. QueueHolds k (queue_blocks t w) t u in
    let O : ℕ → Type 0 = λ k. QueueOver k (queue_blocks t w) t f in
    record {
      goes = a.goes;
      frames = g.frames;
      pays = a.pays;
      spent = omega (arith, h.spent, g.spent);
      same = same_calls_then h.same g.same;
      cause = a.cause;
      room = λ told. holds_then goes.shape (h.loses told) (room told)
          (subst H h.same.longest (g.room (goes.told ∙ told)));
      over = λ told. over_then goes.shape (h.loses told) goes.blocks
          (subst O h.same.longest (g.over (goes.told ∙ told)));
    }
