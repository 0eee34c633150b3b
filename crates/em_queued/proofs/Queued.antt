-- Calls of a queue and calls on the values beside it, one after another.
use Rattle.std.proofs.Common.{◌≡◌, ℕ, ◌+◌, ◌==◌, ◌≤◌, Bool, true, false, if◌then◌else◌, max, List, ◌++◌, IsTrue, ap, refl, sym, ◌∙◌, arith}
use Rattle.em_record.specs.Shape.{ShapeNumbers, fan_of}
use Rattle.em_frames.specs.Pool.{PoolCounts, SameFrames, singles_of}
use Rattle.em_space.specs.Held.{Apart, Holds, Within}
use Rattle.em_space.specs.Ledger.{Account, both, Halts, Runs, Stops}
use Rattle.em_space.specs.Queue.{AreOut, CanServe, LacksBlocks, Pays, QueueCounts, Served, Serves, Shares}
use Rattle.em_space.specs.Rig.{RigState, Sound, Touches, Goes, Cause, BlockCause, IfFull}
use Rattle.em_space.specs.declared.fault.EmFault.{EmFault}
use Rattle.em_space.proofs.Apart.{off_left}
use Rattle.em_space.proofs.Lists.{distinct_apart}
use Rattle.em_space.proofs.Paying.{pays_more, pays_then}
use Rattle.em_space.proofs.Queues.{out_same, shares_same, shares_then}
use Rattle.em_space.proofs.Runs.{runs_as, runs_first, runs_none, runs_of, runs_second, runs_then, runs_wider}
use Rattle.em_space.proofs.Steps.{block_cause, cause_after, touches_wider}
use Rattle.em_space.proofs.Within.{goes_wider, touches_within, within_right}
use Rattle.em_queued.specs.Queued.{queue_account, Called, CallsOn, RunsBeside, StopsBeside}
use Rattle.em_queued.specs.Room.{FitsRoom, FullBeside, StatedRoom}
use Rattle.em_queued.proofs.Room.{full_others, full_queue, full_then, full_unneeded, full_wider}

-- No call came,
pub called_none : (c : QueueCounts) → Called 0 c c
called_none c = record { n = omega arith; k = omega arith; more = omega arith }

pub calls_none : (c : QueueCounts) → CallsOn 0 c c
calls_none c = record {
  called = called_none c;
  since = omega arith;
  frames = refl;
  areas = refl;
}

-- one came,
pub called_one : {ks : List ℕ} {c d : QueueCounts} {s t : RigState} → Serves ks c d s t
    → Called 1 c d
called_one v = record { n = omega (arith, v.n); k = omega (arith, v.k); more = v.more }

since_most : (b : Bool) (n : ℕ) → (if b then 0 else n + 1) ≤ n + 1
since_most true n = omega arith
since_most false n = omega arith

pub calls_one : {ks : List ℕ} {c d : QueueCounts} {s t : RigState} → Serves ks c d s t
    → Served c d s t → CallsOn 1 c d
calls_one {c = c} {d = d} v w = record {
  called = called_one v;
  since = omega (arith, w.since, since_most (d.len == 0) c.since);
  frames = w.frames;
  areas = w.areas;
}

-- and more of them.
pub called_then : {i j : ℕ} {c d e : QueueCounts} → CallsOn i c d → Called j d e
    → Called (i + j) c e
called_then {i} {j} {c} {d} {e} x y = record {
  n = omega (arith, x.called.n, y.n);
  k = omega (arith, x.called.k, x.since, y.k);
  more = omega (arith, x.called.more, y.more);
}

pub calls_then : {i j : ℕ} {c d e : QueueCounts} → CallsOn i c d → CallsOn j d e
    → CallsOn (i + j) c e
calls_then {i} {j} {c} {d} {e} x y = record {
  called = called_then x y.called;
  since = omega (arith, x.since, y.since);
  frames = y.frames ∙ x.frames;
  areas = y.areas ∙ x.areas;
}

-- fewer than said
pub called_wider : {i j : ℕ} {c d : QueueCounts} → i ≤ j → Called i c d → Called j c d
called_wider {i} {j} {c} {d} l x = record {
  n = omega (arith, l, x.n);
  k = omega (arith, l, x.k);
  more = x.more;
}

pub calls_wider : {i j : ℕ} {c d : QueueCounts} → i ≤ j → CallsOn i c d → CallsOn j c d
calls_wider {i} {j} {c} {d} l x = record {
  called = called_wider l x.called;
  since = omega (arith, l, x.since);
  frames = x.frames;
  areas = x.areas;
}

-- A queue that has the frames that it had leaves as many free.
pub frames_shared : {c d : QueueCounts} {p q : PoolCounts} → Shares c d p q
    → d.frames ≡ c.frames → d.areas ≡ c.areas → SameFrames p q
frames_shared {c} {d} {p} {q} x frames areas = record {
  shape = x.shape;
  free = omega (arith, x.free, frames);
  rack = x.rack;
  free_areas = omega (arith, x.areas, areas);
  peak = x.peak;
}

pub shares_frames : {c d : QueueCounts} {p q : PoolCounts} → SameFrames p q
    → d.frames ≡ c.frames → d.areas ≡ c.areas → Shares c d p q
shares_frames {c} {d} {p} {q} x frames areas = record {
  shape = x.shape;
  free = omega (arith, x.free, frames);
  areas = omega (arith, x.free_areas, areas);
  rack = x.rack;
  peak = x.peak;
}

-- A queue has no more blocks that aren't stored than frames, and these are of the pool.
pub unstored_frames : {c : QueueCounts} {s : RigState} → c.unstored ≤ c.frames
    → AreOut c s.pool → Sound s → c.unstored ≤ s.pool.shape.frames
unstored_frames {c} {s} l o h = omega (arith, l, o.singles)

-- A call of a queue,
pub queue_runs : {ks js : List ℕ} {c d : QueueCounts} {s t : RigState} → Serves ks c d s t
    → Served c d s t → Within s ks js → d.blocks ≤ d.most
    → (IsTrue t.device.told → Holds t js)
    → Runs d.most ks js (queue_account c) (queue_account d) s t
queue_runs {ks} {js} {c} {d} {s} {t} v w i l n = runs_of ks js
    (record {
      sound = v.sound;
      touches = v.touches;
      frames = frames_shared v.frames w.frames w.areas;
    })
    i n
    (record {
      held = l;
      used = w.used;
      most = v.most;
      moves = omega (arith, v.spent);
      later = v.touches.moves;
      pays = w.pays;
    })

-- and one beside other values, which stay.
pub queue_beside : {ks js : List ℕ} {c d : QueueCounts} {s t : RigState} (ys : List ℕ)
    (x : Account) → Serves ks c d s t → Served c d s t → Within s ks js → d.blocks ≤ d.most
    → (IsTrue s.device.told → Holds s (ks ++ ys)) → (IsTrue t.device.told → Holds t js)
    → RunsBeside 1 x.blocks (ks ++ ys) (js ++ ys) x x c d s t
queue_beside ys x v w i l m n = record {
  runs = runs_first ys x m (queue_runs v w i l n);
  calls_on = calls_one v w;
}

-- Calls on other values beside a queue, which stays.
pub others_beside : {p : ℕ} {ks js : List ℕ} {a b : Account} {s t : RigState} (qs : List ℕ)
    (c : QueueCounts) → Runs p ks js a b s t → c.blocks ≤ c.most
    → (IsTrue s.device.told → Holds s (qs ++ ks))
    → RunsBeside 0 p (qs ++ ks) (qs ++ js) a b c c s t
others_beside {p} qs c h l n = record {
  runs = runs_wider (omega (arith, l)) (runs_second qs (queue_account c) n h);
  calls_on = calls_none c;
}

-- No call at all,
pub beside_none : (s : RigState) (ks : List ℕ) (a : Account) (c : QueueCounts) → Sound s
    → c.blocks ≤ c.most → (IsTrue s.device.told → Holds s ks)
    → RunsBeside 0 a.blocks ks ks a a c c s s
beside_none s ks a c h l n = record {
  runs = runs_wider (omega (arith, l)) (runs_none s ks (both (queue_account c) a) h n);
  calls_on = calls_none c;
}

-- and one after another.
pub beside_then : {i j p q : ℕ} {held ks js : List ℕ} {a b x : Account} {c d e : QueueCounts}
    {s t u : RigState} → RunsBeside i p held ks a b c d s t → RunsBeside j q ks js b x d e t u
    → RunsBeside (i + j) (max p q) held js a x c e s u
beside_then {p = p} {q = q} {d = d} {e = e} h g = record {
  runs = runs_wider (omega (arith, g.calls_on.called.more)) (runs_then h.runs g.runs);
  calls_on = calls_then h.calls_on g.calls_on;
}

-- fewer calls than said, and at no moment more blocks
pub beside_wider : {i j p q : ℕ} {held ks : List ℕ} {a b : Account} {c d : QueueCounts}
    {s t : RigState} → i ≤ j → p ≤ q → RunsBeside i p held ks a b c d s t
    → RunsBeside j q held ks a b c d s t
beside_wider {p = p} {q = q} {d = d} l m h = record {
  runs = runs_wider (omega (arith, m)) h.runs;
  calls_on = calls_wider l h.calls_on;
}

-- the same blocks, if the device tells
pub beside_as : {i p : ℕ} {held ks : List ℕ} {a b : Account} {c d : QueueCounts}
    {s t : RigState} (js : List ℕ) → RunsBeside i p held ks a b c d s t
    → (IsTrue s.device.told → js ≡ ks) → RunsBeside i p held js a b c d s t
beside_as js h e = record { runs = runs_as js h.runs e; calls_on = h.calls_on }

-- A call of a queue was refused.
pub queue_stops : {room : StatedRoom} {ks : List ℕ} {c d : QueueCounts} {s t : RigState}
    {fault : EmFault} (enough : ShapeNumbers → QueueCounts → ℕ) (ys : List ℕ) (x : Account)
    → Serves ks c d s t → Pays c.unstored s.pool.shape.frames s t → Cause s t fault
    → IfFull fault (LacksBlocks enough room c d.k s)
    → StopsBeside room 1 x.blocks x.paid x.unstored (ks ++ ys) x c d s t fault
queue_stops {ks = ks} {c} {d} {s} {t} {fault} enough ys x v p e lacks = record {
  sound = v.sound;
  touches = touches_wider (ks ++ ys) ks s t v.touches (λ z k u o. off_left k ks ys o);
  frames = v.frames;
  called = called_one v;
  most = omega (arith, v.most);
  moves = omega (arith, v.spent);
  pays = pays_more p (omega arith);
  cause = e;
  full = full_queue enough x.blocks fault lacks;
}

-- A call on another value was refused,
others_by : {room : StatedRoom} {p l u : ℕ} {ks : List ℕ} {a : Account} {s t : RigState}
    {fault : EmFault} (qs : List ℕ) (c : QueueCounts) → Stops p l u ks a s t fault
    → c.blocks ≤ c.most → c.unstored ≤ s.pool.shape.frames
    → FullBeside room a.blocks p c c.k s fault
    → StopsBeside room 0 p l u (qs ++ ks) a c c s t fault
others_by {p = p} {l} {u} {ks} {a} {s} {t} {fault} qs c h m n full = record {
  sound = h.goes.sound;
  touches = (goes_wider (qs ++ ks) ks s t (within_right s qs ks) h.goes).touches;
  frames = shares_same c s.pool t.pool h.goes.frames;
  called = called_none c;
  most = omega (arith, m, h.halts.most);
  moves = omega (arith, h.halts.moves);
  pays = pays_more h.halts.pays (omega (arith, n));
  cause = h.cause;
  full = full;
}

pub others_stop : {room : StatedRoom} {p l u : ℕ} {ks : List ℕ} {a : Account} {s t : RigState}
    {fault : EmFault} (qs : List ℕ) (c : QueueCounts) → Stops p l u ks a s t fault
    → c.blocks ≤ c.most → c.unstored ≤ s.pool.shape.frames → FitsRoom room c s
    → StopsBeside room 0 p l u (qs ++ ks) a c c s t fault
others_stop {fault = fault} qs c h m n fits =
    others_by qs c h m n (full_others c fault m fits h.halts h.cause)

-- or one that needs no block.
pub others_never : {room : StatedRoom} {p l u : ℕ} {ks : List ℕ} {a : Account} {s t : RigState}
    {fault : EmFault} (qs : List ℕ) (c : QueueCounts) → Goes ks s t → Halts p l u a s t fault
    → BlockCause s t fault → c.blocks ≤ c.most → c.unstored ≤ s.pool.shape.frames
    → StopsBeside room 0 p l u (qs ++ ks) a c c s t fault
others_never {p = p} {a = a} {s} {t} {fault} qs c g h e m n =
    others_by qs c (record { goes = g; halts = h; cause = block_cause s t fault e }) m n
    (full_unneeded s t fault e)

-- The last call was refused.
pub stops_then : {room : StatedRoom} {i j p q l u : ℕ} {held ks : List ℕ} {a b : Account}
    {c d e : QueueCounts} {s t v : RigState} {fault : EmFault} → RunsBeside i p held ks a b c d s t
    → StopsBeside room j q l u ks b d e t v fault
    → StopsBeside room (i + j) (max p q) l u held a c e s v fault
stops_then {i = i} {j} {p} {q} {l} {u} {held} {ks} {a} {b} {c} {d} {e} {s} {t} {v} {fault} h g =
    let x = h.runs.spends in
    let first = h.runs.session.touches in
    let shape : t.pool.shape.frames ≡ s.pool.shape.frames =
    ap (λ (n : ShapeNumbers). n.frames) first.shape in
    record {
      sound = g.sound;
      touches = touches_within s t v held ks first h.runs.session.within g.touches;
      frames = shares_then c d e s.pool t.pool v.pool
          (shares_frames h.runs.frames h.calls_on.frames h.calls_on.areas) g.frames;
      called = called_then h.calls_on g.called;
      most = omega (arith, x.used, x.most, g.most, g.called.more);
      moves = omega (arith, x.moves, g.moves);
      pays = pays_then x.pays (pays_more g.pays (omega (arith, shape))) g.touches.moves;
      cause = cause_after held s t v fault first g.cause;
      full = full_then h (omega arith) g.full;
    }

-- fewer calls, blocks and moves than said
pub stops_wider : {room : StatedRoom} {i j p q l m u w : ℕ} {held : List ℕ} {a : Account}
    {c d : QueueCounts} {s t : RigState} {fault : EmFault} → i ≤ j → p ≤ q → l ≤ m → u ≤ w
    → StopsBeside room i p l u held a c d s t fault → StopsBeside room j q m w held a c d s t fault
stops_wider {i = i} {j} {p} {q} {l} {m} {u} {w} {held} {a} {c} {d} {s} {t} {fault} x y z n h = record {
  sound = h.sound;
  touches = h.touches;
  frames = h.frames;
  called = called_wider x h.called;
  most = omega (arith, y, h.most);
  moves = omega (arith, z, h.moves);
  pays = pays_more h.pays (omega (arith, n));
  cause = h.cause;
  full = full_wider (omega (arith, y)) h.full;
}

-- After calls that weren't refused as many frames are free for the next one,
pub still_can_serve : {i p : ℕ} {held ks : List ℕ} {a b : Account} {c d : QueueCounts}
    {s t : RigState} → RunsBeside i p held ks a b c d s t → CanServe s.pool → CanServe t.pool
still_can_serve {s = s} {t = t} h f = record {
  singles =
      let e = ap fan_of h.runs.frames.shape in omega (arith, e, h.runs.frames.free, f.singles);
  areas = omega (arith, h.runs.frames.free_areas, f.areas);
  rack = h.runs.frames.rack ∙ f.rack;
}

-- and the queue's frames are out.
pub queue_out : {i p : ℕ} {held ks : List ℕ} {a b : Account} {c d : QueueCounts}
    {s t : RigState} → RunsBeside i p held ks a b c d s t → AreOut c s.pool → AreOut d t.pool
queue_out {c = c} {d = d} {s = s} {t = t} h o = record {
  singles =
      let e = ap singles_of h.runs.frames.shape in
      omega (arith, e, h.runs.frames.free, h.calls_on.frames, o.singles);
  areas = omega (arith, h.runs.frames.free_areas, h.calls_on.areas, o.areas);
}

-- What the law `stays` of a queue asks of calls on other values: they change their blocks alone,
pub beside_touches : {p : ℕ} {ks js : List ℕ} {a b : Account} {s t : RigState}
    → Runs p ks js a b s t → Touches ks s t
beside_touches h = h.session.touches

-- of which none is the queue's,
pub beside_apart : {s : RigState} (qs ks : List ℕ) → (IsTrue s.device.told → Holds s (qs ++ ks))
    → IsTrue s.device.told → Apart qs ks
beside_apart qs ks n z = distinct_apart qs ks ((n z).distinct z)

-- and the queue's frames are still out.
pub beside_out : {p : ℕ} {ks js : List ℕ} {a b : Account} {s t : RigState} (c : QueueCounts)
    → Runs p ks js a b s t → AreOut c s.pool → AreOut c t.pool
beside_out {s = s} {t = t} c h o = out_same c s.pool t.pool o h.frames

-- After calls that weren't refused the blocks are held,
pub beside_holds : {i p : ℕ} {held ks : List ℕ} {a b : Account} {c d : QueueCounts} {s t : RigState}
    → RunsBeside i p held ks a b c d s t → IsTrue t.device.told → Holds t ks
beside_holds h z = h.runs.session.holds (sym h.runs.session.touches.told ∙ z)

-- and those of the queue are apart from the others.
pub apart_after : {i p : ℕ} {held : List ℕ} {a b : Account} {c d : QueueCounts} {s t : RigState}
    (qs ks : List ℕ) → RunsBeside i p held (qs ++ ks) a b c d s t → IsTrue t.device.told
    → Apart qs ks
apart_after qs ks h = beside_apart qs ks (beside_holds h)
