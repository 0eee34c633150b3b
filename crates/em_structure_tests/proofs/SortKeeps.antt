-- What sorting a list by a queue leaves.
use Rattle.std.proofs.Common.{◌≡◌, ℕ, ◌+◌, ◌*◌, ◌≤◌, ◌∙◌, List, [], ◌++◌, ap, arith, refl}
use Rattle.std.specs.Prelude.{Result, Ok, Err, IsErr, OnOk}
use Rattle.em_record.specs.Shape.{fan_of}
use Rattle.em_space.specs.Ledger.{Account}
use Rattle.em_space.specs.Rig.{Goes, RigState}
use Rattle.em_space.specs.declared.fault.EmFault.{EmFault}
use Rattle.em_space.proofs.Held.{apart_none}
use Rattle.em_space.proofs.Queues.{out_same}
use Rattle.em_space.proofs.Steps.{same_frames_then}
use Rattle.em_chain.specs.Chain.{IsChain, chain_blocks}
use Rattle.em_chain.specs.declared.chain.Chain.{Chain}
use Rattle.em_queued.specs.Queued.{StopsBeside}
use Rattle.em_queued.specs.Room.{StatedRoom}
use Rattle.em_sorting.specs.Sorts.{CanSort, IsSorted}
use Rattle.em_pqueue.specs.Calls.{IsNewQueue}
use Rattle.em_pqueue.specs.ExtQueue.{HoldsFrames, IsExtQueue, counts_of, queue_blocks}
use Rattle.em_pqueue.specs.QueueLaws as laws
use Rattle.em_pqueue.specs.contracts.queue.ExtQueueQueue.TheImpl.{ghosts}
use Rattle.em_pqueue.specs.declared.queue.ExtQueue.{ExtQueue}
use Rattle.em_structure_tests.specs.Ready.{HasAll, KeepsQueue, ReadyQueue}
use Rattle.em_structure_tests.proofs.Kept.{never}
use Rattle.em_structure_tests.proofs.QueueKeeps.{shares_frames}

-- The queue stays over calls that change no block that was in use.
pub queue_kept : {s t : RigState} {q : ExtQueue} → IsExtQueue s q → Goes [] s t → IsExtQueue t q
queue_kept {s} {t} {q} i g =
    (laws.stays q [] s t i g.touches (λ z. apart_none (queue_blocks s q))
    (out_same (counts_of q) s.pool t.pool (laws.out q s (laws.frames_of q s i)) g.frames)).0

-- a frame more than a call of the new queue wants is free
pub new_free : {s t : RigState} {q : ExtQueue} → HasAll s → IsNewQueue s t q
    → 2 * fan_of t.pool.shape + 5 ≤ t.pool.free
new_free h new =
    let shape = ap fan_of new.frames.shape in
    let free = new.frames.free in
    let enough = h.frames.free in
    omega (arith, shape, free, enough)

-- The list that was written may be sorted.
pub can_sort : {n : ℕ} {s t : RigState} {q : ExtQueue} {c : Chain} → ReadyQueue (2 * n) s q
    → q.len ≡ 0 → 2 * fan_of s.pool.shape + 5 ≤ s.pool.free → Goes [] s t → IsChain t c → c.count ≡ n
    → CanSort ghosts q t c
can_sort r none free g is count =
    let untold = g.touches.told ∙ r.untold in
    let few = r.few in
    record {
      sound = g.sound;
      empty = none;
      free = record {
        singles = let e = ap fan_of g.frames.shape in omega (arith, free, g.frames.free, e);
        areas = omega (arith, r.serves.areas, g.frames.free_areas);
        rack = g.frames.rack ∙ r.serves.rack;
      };
      most = omega (arith, count, few);
      few = omega (arith, count, few);
      chain = is;
      holds = never untold;
      lacks = never untold;
    }

-- The list wasn't written,
pub kept_refused : {T : Type 0} {n : ℕ} {s t : RigState} {q : ExtQueue} (result : Result T EmFault)
    → IsErr result → ReadyQueue n s q → Goes [] s t → KeepsQueue n s t q q result
kept_refused (Ok x) e r g = cc
kept_refused {t = t} {q} (Err f) e r g = record {
  sound = g.sound;
  untold = g.touches.told ∙ r.untold;
  frames = g.frames;
  has = laws.frames_of q t (queue_kept r.is g);
  is = tt;
  calls = tt;
}

-- or a call of sorting was refused,
pub kept_stops : {T : Type 0} {n i j l u : ℕ} {s t v : RigState} {room : StatedRoom} {x y : ExtQueue}
    {ks : List ℕ} {a : Account} {fault : EmFault} (result : Result T EmFault) → IsErr result
    → ReadyQueue n s x → Goes [] s t
    → StopsBeside room i j l u ks a (counts_of x) (counts_of y) t v fault → HoldsFrames v y
    → KeepsQueue n s v x y result
kept_stops (Ok e) i r g h f = cc
kept_stops {s = s} {t} {v} {x = x} {y} (Err e) i r g h f = record {
  sound = h.sound;
  untold = h.touches.told ∙ g.touches.told ∙ r.untold;
  frames = same_frames_then s.pool t.pool v.pool g.frames
      (shares_frames (counts_of x) (counts_of y) t.pool v.pool refl refl h.frames);
  has = f;
  is = tt;
  calls = tt;
}

on_ok : {T P : Type 0} (r : Result T EmFault) → P → OnOk r P
on_ok (Ok e) p = p
on_ok (Err e) p = tt

-- or it was sorted, and the new list was read.
pub kept_sorted : {T : Type 0} {n : ℕ} {s t u v : RigState} {x y : ExtQueue} {c d : Chain}
    (result : Result T EmFault) → ReadyQueue (2 * n) s x → Goes [] s t → c.count ≡ n
    → IsSorted ghosts x y c d t u → IsExtQueue u y → Goes (chain_blocks u d) u v
    → KeepsQueue (2 * n) s v x y result
kept_sorted {s = s} {t} {u} {v} {x} {y} {d = d} result r g count h i w =
    let untold = h.runs.runs.session.touches.told ∙ g.touches.told ∙ r.untold in
    let is = (laws.stays y (chain_blocks u d) u v i w.touches (never untold)
    (out_same (counts_of y) u.pool v.pool (laws.out y u (laws.frames_of y u i)) w.frames)).0 in
    let calls = h.runs.calls_on.called.n in
    let none = h.empty in
    record {
      sound = w.sound;
      untold = w.touches.told ∙ untold;
      frames = same_frames_then s.pool u.pool v.pool
          (same_frames_then s.pool t.pool u.pool g.frames h.runs.runs.frames) w.frames;
      has = laws.frames_of y v is;
      is = on_ok result is;
      calls = on_ok result (omega (arith, calls, none, count));
    }
