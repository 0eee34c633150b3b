-- A queue that sorts a list, which is written before and read afterwards.
use Rattle.std.proofs.Common.{◌≡◌, ℕ, List, [], ◌∷◌, ◌++◌, IsTrue, sym, ap, ◌∙◌, arith, Result, Ok, Err, IsErr, OnOk}
use Rattle.em_record.specs.Shape.{fan_of}
use Rattle.em_record.specs.declared.record.Record.{Record}
use Rattle.em_frames.specs.Pool.{PoolCounts, SameFrames}
use Rattle.em_space.specs.Ledger.{Account}
use Rattle.em_space.specs.Queue.{Shares}
use Rattle.em_space.specs.Rig.{Goes, RigState}
use Rattle.em_space.specs.declared.fault.EmFault.{EmFault}
use Rattle.em_space.specs.declared.queue.Queue.{Ghosts}
use Rattle.em_space.proofs.Held.{apart_none}
use Rattle.em_space.proofs.Queues.{out_same}
use Rattle.em_space.proofs.Steps.{same_frames_then}
use Rattle.em_chain.specs.Chain.{IsChain, chain_blocks, chain_items}
use Rattle.em_chain.specs.declared.chain.Chain.{Chain}
use Rattle.em_plain.specs.QueueLaws.{out, stays}
use Rattle.em_plain.specs.ScanQueue.{IsScanQueue, QueueHasFrame, counts_of, queue_blocks}
use Rattle.em_plain.specs.declared.scan_queue.ScanQueue.{ScanQueue}
use Rattle.em_queued.specs.Queued.{RunsBeside, StopsBeside}
use Rattle.em_queued.specs.Room.{StatedRoom}
use Rattle.em_queued.proofs.Queued.{apart_after}
use Rattle.em_sorting.specs.Lacking.{AllLack}
use Rattle.em_sorting.specs.Sorts.{CanSort}
use Rattle.em_list_tests.specs.Ready.{KeepsQueue, ReadyNew}

-- The queue stays over calls that change no block that was in use.
pub queue_kept : {s t : RigState} {q : ScanQueue} → IsScanQueue s q → Goes [] s t
    → IsScanQueue t q × (IsTrue s.device.told → queue_blocks t q ≡ queue_blocks s q)
queue_kept {s} {t} {q} i g =
    let k = stays q [] s t i g.touches (λ z. apart_none (queue_blocks s q))
    (out_same (counts_of q) s.pool t.pool (out q s i.rest) g.frames) in (k.0, k.2)

-- a call was refused before the queue had one
pub kept_refused : {T : Type 0} {s t : RigState} {q : ScanQueue} (result : Result T EmFault)
    → IsErr result → IsScanQueue s q → Goes [] s t → KeepsQueue s t q result
kept_refused (Ok x) e i g = cc
kept_refused {s = s} {t} {q} (Err f) e i g = record {
  sound = g.sound;
  frames = g.frames;
  has = (queue_kept i g).0.rest;
  is = tt;
}

-- a queue of one frame shares no others
pub shares_same : {p r : PoolCounts} (x y : ScanQueue) → Shares (counts_of x) (counts_of y) p r
    → SameFrames p r
shares_same {p} {r} x y h = record {
  shape = h.shape;
  free = omega (arith, h.free);
  rack = h.rack;
  free_areas = omega (arith, h.areas);
  peak = h.peak;
}

-- The list that was written may be sorted.
pub can_sort : {Q : Type 0} {h : Ghosts Q} {x : Q} {s t : RigState} {q : ScanQueue} {c : Chain}
    → h.counts x ≡ counts_of q → h.blocks x t ≡ queue_blocks t q → ReadyNew s q → Goes [] s t
    → IsChain t c → c.count ≡ 3 → (IsTrue t.device.told → AllLack [] (chain_items t c))
    → CanSort h x t c
can_sort {h = h} {x} {s} {t} {q} {c} counts blocks r g is n lacks = record {
  sound = g.sound;
  empty = rw counts r.len;
  free = record {
    singles =
        let e = ap fan_of g.frames.shape in omega (arith, r.free.singles, g.frames.free, e);
    areas = omega (arith, r.free.areas, g.frames.free_areas);
    rack = g.frames.rack ∙ r.free.rack;
  };
  most = omega (arith, n);
  few = rw counts (omega (arith, n, r.calls));
  chain = is;
  holds = λ z. rw (blocks, (queue_kept r.is g).1 (sym g.touches.told ∙ z), r.none) (is.told z).holds;
  lacks = lacks;
}

-- A call of sorting was refused,
pub kept_stops : {T : Type 0} {i j l u : ℕ} {s t v : RigState}
    {room : StatedRoom} (x : ScanQueue) {y : ScanQueue}
    {ks : List ℕ} {a : Account} {fault : EmFault} (result : Result T EmFault) → IsErr result → Goes [] s t
    → StopsBeside room i j l u ks a (counts_of x) (counts_of y) t v fault → QueueHasFrame v y
    → KeepsQueue s v y result
kept_stops x (Ok e) i g h f = cc
kept_stops {s = s} {t} {v} x {y} (Err e) i g h f = record {
  sound = h.sound;
  frames = same_frames_then s.pool t.pool v.pool g.frames (shares_same x y h.frames);
  has = f;
  is = tt;
}

-- or it was sorted, and the new list was read.
pub kept_sorted : {T : Type 0} {n p : ℕ} {held : List ℕ} {a b : Account} {s t u v : RigState}
    (x : ScanQueue) {y : ScanQueue} (d : Chain) (result : Result T EmFault) → Goes [] s t
    → RunsBeside n p held (queue_blocks u y ++ chain_blocks u d) a b (counts_of x) (counts_of y) t u
    → IsScanQueue u y → Goes (chain_blocks u d) u v → KeepsQueue s v y result
kept_sorted {T} {s = s} {t} {u} {v} x {y} d result g h i r =
    let is = (stays y (chain_blocks u d) u v i r.touches
    (apart_after (queue_blocks u y) (chain_blocks u d) h)
    (out_same (counts_of y) u.pool v.pool (out y u i.rest) r.frames)).0 in
    record {
      sound = r.sound;
      frames = same_frames_then s.pool u.pool v.pool
          (same_frames_then s.pool t.pool u.pool g.frames h.runs.frames) r.frames;
      has = is.rest;
      is = on_ok result is;
    }
  where
    on_ok : {P : Type 0} (r : Result T EmFault) → P → OnOk r P
    on_ok (Ok e) p = p
    on_ok (Err e) p = tt

-- the three records of the test: no two have both words the same
pub three_lack : (xs : List Record)
    → xs ≡ record { a = 2; b = 5; c = 7; d = 0 } ∷ record { a = 1; b = 9; c = 7; d = 0 }
    ∷ record { a = 2; b = 3; c = 7; d = 0 } ∷ [] → AllLack [] xs
three_lack xs e = rw e (tt, (((λ a b. cc), tt), (((λ a b. cc), ((λ a b. cc), tt)), tt)))
