-- A queue of em_plain keeps to its room: when it is full, and at its end.
use Rattle.std.proofs.Common.{ℕ, ◌≤◌, arith, List, Result, Ok, Err}
use Rattle.std.specs.Prelude.{None, Some, IfErr}
use Rattle.em_record.specs.Shape.{payload_of}
use Rattle.em_space.specs.Queue.{Ends, LacksBlocks, QueueCounts}
use Rattle.em_space.specs.Rig.{IfFull, RigState, Sound}
use Rattle.em_space.specs.declared.fault.EmFault.{EmFault}
use Rattle.em_space.specs.declared.fault.EmFault.TheVariants.{DeviceFault, Full, Damaged}
use Rattle.em_chain.proofs.Sessions.{ceiling_rises}
use Rattle.em_plain.specs.ScanQueue.{IsScanQueue, counts_of, one_block}
use Rattle.em_plain.specs.declared.scan_queue.ScanQueue.{ScanQueue}
use Rattle.em_plain.proofs.Calls.{queue_room}
use Rattle.em_list_tests.specs.Room.{list_room}

-- It is full only if its room and the blocks of others are more than all: the calls since it was empty may
-- fill those that it holds, and the call wanted one more.
pub full_by_room : {T : Type 0} {k : ℕ} {s : RigState} {q : ScanQueue} (r : Result T EmFault) → Sound s
    → IsScanQueue s q → q.longest ≤ k
    → IfErr r (λ f. IfFull f (LacksBlocks one_block None (counts_of q) k s))
    → IfErr r (λ f. IfFull f (LacksBlocks one_block (Some list_room) (counts_of q) k s))
full_by_room (Ok x) sound is more h = tt
full_by_room (Err DeviceFault) sound is more h = tt
full_by_room (Err (Damaged block)) sound is more h = tt
full_by_room {k = k} {s} {q} (Err (Full used)) sound is more h = record {
  few = h.few;
  small = λ told.
      let low = sound.shape.block_low in
      let few = h.few in
      let has = queue_room s q sound is in
      let rises = ceiling_rises q.longest k (payload_of s.pool.shape) (omega (arith, low)) more in
      omega (arith, few, has, rises);
}

-- a call that is never full
pub never_full : {T : Type 0} (P : ℕ → Type 0) (r : Result T EmFault)
    → IfErr r (λ f. IfFull f (λ used. ⊥)) → IfErr r (λ f. IfFull f P)
never_full P (Ok x) h = tt
never_full P (Err DeviceFault) h = tt
never_full P (Err (Damaged block)) h = tt
never_full P (Err (Full used)) h = absurd h

-- The end keeps to the room, since the queue never held more.
pub ends_by_room : {held : List ℕ} {c : QueueCounts} {s t : RigState}
    → c.most ≤ list_room s.pool.shape c.k → Ends None None held c s t
    → Ends None (Some list_room) held c s t
ends_by_room fits e = record {
  sound = e.sound;
  touches = e.touches;
  frames = e.frames;
  spent = e.spent;
  most = λ told. let most = e.most told in omega (arith, most, fits);
}
