-- A queue beside a list that is made, finished and read.
use Rattle.std.proofs.Common.{◌≡◌, ℕ, ◌+◌, List, [], ◌++◌, IsTrue, sym, ◌∙◌, arith, Result, Ok, Err, IsErr, OnOk}
use Rattle.std.proofs.lemmas.List.{append-nil}
use Rattle.em_frames.specs.Pool.{GivenFrames, LentFrames, PoolCounts, SameFrames}
use Rattle.em_space.specs.Held.{Apart, Holds}
use Rattle.em_space.specs.Queue.{AreOut}
use Rattle.em_space.specs.Rig.{Goes, RigState}
use Rattle.em_space.proofs.Held.{apart_none}
use Rattle.em_space.proofs.Queues.{out_lent, out_same}
use Rattle.em_chain.specs.Chain.{chain_blocks}
use Rattle.em_chain.specs.Effects.{GivesFrame, LendsFrame}
use Rattle.em_chain.specs.Writer.{writer_blocks}
use Rattle.em_chain.specs.Writes.{Finishes}
use Rattle.em_chain.specs.declared.chain.Chain.{Chain}
use Rattle.em_chain.specs.declared.writer.Writer.{Writer}
use Rattle.em_plain.specs.QueueLaws.{out, stays}
use Rattle.em_plain.specs.ScanQueue.{IsScanQueue, LacksFrom, counts_of, queue_blocks}
use Rattle.em_plain.specs.declared.scan_queue.ScanQueue.{ScanQueue}

-- The frame that was lent is back.
pub frames_back : (p q r o : PoolCounts) → LentFrames 1 p q → SameFrames q r → GivenFrames 1 r o
    → SameFrames p o
frames_back p q r o l h g = record {
  shape = g.shape ∙ h.shape ∙ l.shape;
  free = omega (arith, g.free, h.free, l.free);
  rack = g.rack ∙ h.rack ∙ l.rack;
  free_areas = g.free_areas ∙ h.free_areas ∙ l.free_areas;
  peak = omega (arith, g.peak, h.peak, l.peak);
}

-- A frame is lent beside it,
pub queue_lent : {s t : RigState} {q : ScanQueue} → IsScanQueue s q → LendsFrame s t
    → IsScanQueue t q
queue_lent {s} {t} {q} i l =
    (stays q [] s t i l.touches (λ z. apart_none (queue_blocks s q))
    (out_lent 1 (counts_of q) s.pool t.pool (out q s i.rest) l.frames)).0

-- and comes back.
pub queue_given : {s t : RigState} {q : ScanQueue} (ks : List ℕ) → IsScanQueue s q
    → GivesFrame ks s t → (IsTrue s.device.told → Apart (queue_blocks s q) ks)
    → AreOut (counts_of q) t.pool → IsScanQueue t q
queue_given {s} {t} {q} ks i g a o = (stays q ks s t i g.touches a o).0

-- The list is read after that.
pub queue_read : {s t u : RigState} {q : ScanQueue} {w : Writer} {c : Chain} → IsScanQueue s q
    → GivesFrame (writer_blocks s w) s t → Finishes s t w c → Goes (chain_blocks t c) t u
    → (IsTrue s.device.told → Apart (queue_blocks s q) (writer_blocks s w))
    → AreOut (counts_of q) t.pool → IsScanQueue u q
queue_read {s} {t} {u} {q} {w} {c} i g f r apart o =
    let a = stays q (writer_blocks s w) s t i g.touches apart o in
    (stays q (chain_blocks t c) t u a.0 r.touches
    (λ z. let y = sym g.touches.told ∙ z in rw (a.2 y, f.blocks y) (apart y))
    (out_same (counts_of q) t.pool u.pool o r.frames)).0

-- A list with no block beside it.
pub holds_none : {s : RigState} (ks js : List ℕ) → js ≡ [] → Holds s ks → Holds s (ks ++ js)
holds_none ks js e h = rw (e, append-nil ks) h

-- a refused call isn't Ok
pub never_ok : {T E : Type 0} (P : Type 0) (result : Result T E) → IsErr result → OnOk result P
never_ok P (Ok x) i = cc
never_ok P (Err e) i = tt

pub on_ok : {T E P : Type 0} (result : Result T E) → P → OnOk result P
on_ok (Ok x) p = p
on_ok (Err e) p = tt

-- no item has this number or a greater one, so none has the next one or a greater one
pub lacks_more : {n : ℕ} {s : RigState} {q : ScanQueue} → LacksFrom n s q → LacksFrom (n + 1) s q
lacks_more h = record { is = λ z x more. h.is z x (omega arith) }
