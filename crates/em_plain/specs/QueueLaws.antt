-- The laws of a queue that is a list of its items.
use Rattle.std.specs.Prelude.{◌≡◌, ℕ, ◌≤◌, List, length, IsTrue, min}
use Rattle.std.proofs.Common.{arith, sym, ◌∙◌, ap}
use Rattle.std.proofs.lemmas.List.{length-drop}
use Rattle.em_record.specs.Order.{IsAscending, in_order}
use Rattle.em_record.specs.Shape.{ShapeNumbers}
use Rattle.em_record.proofs.Order.{length_order, order_ascends}
use Rattle.em_space.specs.Held.{Apart, Holds}
use Rattle.em_space.specs.Queue.{AreOut}
use Rattle.em_space.specs.Rig.{RigState, Touches}
use Rattle.em_chain.specs.List.{items_in}
use Rattle.em_chain.specs.Writer.{WriterHasFrame, writer_contents, writer_items}
use Rattle.em_chain.proofs.Laws.{writer_stays}
use Rattle.em_plain.specs.ScanQueue.{IsScanQueue, QueueHasFrame, counts_of, queue_blocks, queue_items}
use Rattle.em_plain.specs.declared.scan_queue.ScanQueue.{ScanQueue}

pub len_is : (q : ScanQueue) (s : RigState) → IsScanQueue s q → IsTrue s.device.told
    → q.writer.count ≡ length (queue_items s q)
len_is q s h told =
    let count = (h.writer.told told).list.count_is in
    sym (length_order (writer_items s q.writer)
    ∙ length-drop q.writer.skip (items_in (writer_contents s q.writer)) ∙ omega arith)

pub blocks_is : (q : ScanQueue) (s : RigState) → IsScanQueue s q → IsTrue s.device.told
    → q.writer.blocks ≡ length (queue_blocks s q)
blocks_is q s h told = sym (h.writer.told told).list.blocks_is

pub ascending : (q : ScanQueue) (s : RigState) → IsScanQueue s q → IsTrue s.device.told
    → IsAscending (queue_items s q)
ascending q s h told = order_ascends (writer_items s q.writer)

pub holds : (q : ScanQueue) (s : RigState) → IsScanQueue s q → IsTrue s.device.told
    → Holds s (queue_blocks s q)
holds q s h told = (h.writer.told told).holds

frame_stays : (q : ScanQueue) (held : List ℕ) (s t : RigState) → WriterHasFrame s q.writer
    → Touches held s t → AreOut (counts_of q) t.pool → WriterHasFrame t q.writer
frame_stays q held s t f h o = record {
  len_is = f.len_is ∙ ap (λ (x : ShapeNumbers). x.block) (sym h.shape);
  out = o.singles;
}

pub frames_stay : (q : ScanQueue) (held : List ℕ) (s t : RigState) → QueueHasFrame s q
    → Touches held s t → AreOut (counts_of q) t.pool → QueueHasFrame t q
frames_stay q held s t f h o = record {
  frame = frame_stays q held s t f.frame h o;
  areas = omega (arith, o.areas);
  spent_most = omega (arith, f.spent_most, h.moves);
  k_most = f.k_most;
  since_most = f.since_most;
  most_most = rw h.shape f.most_most;
}

pub stays : (q : ScanQueue) (held : List ℕ) (s t : RigState) → IsScanQueue s q → Touches held s t
    → (IsTrue s.device.told → Apart (queue_blocks s q) held) → AreOut (counts_of q) t.pool
    → IsScanQueue t q × (IsTrue s.device.told → queue_items t q ≡ queue_items s q)
    × (IsTrue s.device.told → queue_blocks t q ≡ queue_blocks s q)
stays q held s t i h a o =
    let has = frame_stays q held s t i.rest.frame h o in
    let st = writer_stays held s t q.writer h a has i.writer in (
      record {
        rest = frames_stay q held s t i.rest h o;
        writer = st.is;
        packed = λ told. let z : IsTrue s.device.told = sym h.told ∙ told in
            st.packed z (i.packed z);
        filled_is = st.filled_is ∙ i.filled_is;
        len_most = i.len_most;
        since_none = i.since_none;
        blocks_most = i.blocks_most;
      },
      λ told. ap in_order (st.items told),
      st.blocks,
    )

pub out : (q : ScanQueue) (s : RigState) → QueueHasFrame s q → AreOut (counts_of q) s.pool
out q s f = record { singles = f.frame.out; areas = omega (arith, f.areas) }

pub unstored_most : (q : ScanQueue) (s : RigState) → IsScanQueue s q
    → min q.writer.blocks 1 ≤ 1
unstored_most q s h = omega arith
