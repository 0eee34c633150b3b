-- A new queue that is a list of its items, and its run.
use Rattle.std.proofs.Common.{◌≡◌, [], ap, arith, inr}
use Rattle.em_space.specs.Queue.{CanServe, IsNew, QueueCounts}
use Rattle.em_space.specs.Rig.{Goes, RigState}
use Rattle.em_space.proofs.Sessions.{session_as, session_still}
use Rattle.em_chain.specs.Effects.{LendsFrame, Unmoved}
use Rattle.em_plain.specs.ScanQueue.{IsScanQueue, counts_of, fresh_counts, queue_blocks}
use Rattle.em_plain.specs.contracts.scan_queue.ScanQueueQueue.TheImpl.{ghosts as scan}
use Rattle.em_plain.specs.declared.scan_queue.ScanQueue.{ScanQueue}
use Rattle.em_answers.specs.Serve.{GivesUp, IsAlone}
use Rattle.em_ready.specs.Queues.{MakesQueue}
use Rattle.em_ready.specs.Ready.{IsReady, IsUnused}
use Rattle.em_ready.proofs.Queues.{can_serve}
use Rattle.em_answers.proofs.Running.{alone_new, goes_given_up}

-- no call of it came
pub list_new : {t : RigState} {q : ScanQueue} → IsScanQueue t q → counts_of q ≡ fresh_counts 1 0
    → IsNew (counts_of q)
list_new is fresh = record {
  n = ap (λ (c : QueueCounts). c.n) fresh;
  len = ap (λ (c : QueueCounts). c.len) fresh;
  k = ap (λ (c : QueueCounts). c.k) fresh;
}

-- It was made: it was lent a frame, and has no block.
makes_list : {s t : RigState} {q : ScanQueue} → LendsFrame s t → Unmoved s t → IsScanQueue t q
    → queue_blocks t q ≡ [] → counts_of q ≡ fresh_counts 1 0 → MakesQueue scan s t q
makes_list {s} {t} {q} l u is none fresh =
    let blocks : q.writer.blocks ≡ 0 = ap (λ (c : QueueCounts). c.blocks) fresh in
    let spent : q.spent ≡ 0 = ap (λ (c : QueueCounts). c.spent) fresh in
    record {
      is = is;
      new = list_new is fresh;
      session = session_as (queue_blocks t q)
          (session_still [] l.sound l.touches
          (λ z. record { in_use = tt; distinct = λ y. tt }))
          (λ z. none);
      frames = record {
        shape = l.frames.shape;
        free = omega (arith, l.frames.free);
        areas = omega (arith, l.frames.free_areas);
        rack = l.frames.rack;
        peak = l.frames.peak;
      };
      few = omega arith;
      area = omega arith;
      used = omega (arith, u.same.used, blocks);
      most = omega (arith, u.same.most);
      pays = record { is = inr (omega (arith, u.same.used, u.moves)) };
      spent = omega (arith, u.moves, spent);
    }

-- It is alone on a rig of which no block is or was in use,
pub list_alone : {s t : RigState} {q : ScanQueue} → IsUnused s → s.moves ≡ 0 → LendsFrame s t
    → Unmoved s t → IsScanQueue t q → queue_blocks t q ≡ [] → counts_of q ≡ fresh_counts 1 0
    → IsAlone t (counts_of q)
list_alone {s} {t} {q} unused still l u is none fresh =
    alone_new (makes_list l u is none fresh) (omega (arith, u.same.most, unused.none_ever))
    unused.used still

-- its frame leaves enough for its calls,
pub list_serves : {s t : RigState} {q : ScanQueue} → IsReady s.pool → LendsFrame s t → Unmoved s t
    → IsScanQueue t q → queue_blocks t q ≡ [] → counts_of q ≡ fresh_counts 1 0 → CanServe t.pool
list_serves {q = q} ready l u is none fresh =
    can_serve (counts_of q) ready (makes_list l u is none fresh).frames (omega arith) (omega arith)

-- and when it was given up, all frames are back.
pub list_goes : {s t u : RigState} {q : ScanQueue} → LendsFrame s t → Unmoved s t
    → IsScanQueue t q → queue_blocks t q ≡ [] → counts_of q ≡ fresh_counts 1 0
    → GivesUp scan q t u → Goes [] s u
list_goes l same is none fresh x = goes_given_up (makes_list l same is none fresh) x
