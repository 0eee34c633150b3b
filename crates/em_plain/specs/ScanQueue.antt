-- A queue that is a list of its items.
use Rattle.std.specs.Prelude.{◌≡◌, ◌==◌, ℕ, ◌+◌, ◌≤◌, if◌then◌else◌, List, IsTrue, max, min}
use Rattle.em_record.specs.Order.{Lacks, in_order}
use Rattle.em_record.specs.Shape.{ShapeNumbers, payload_of}
use Rattle.em_record.specs.declared.record.Record.{Record}
use Rattle.em_space.specs.Queue.{QueueCounts}
use Rattle.em_space.specs.Rig.{RigState}
use Rattle.em_chain.specs.Counts.{ceiling}
use Rattle.em_chain.specs.Writer.{IsWriter, IsPackedSoFar, WriterHasFrame, filled, writer_blocks, writer_items}
use Rattle.em_plain.specs.declared.scan_queue.ScanQueue.{ScanQueue}

-- its items, in ascending order
abbrev pub queue_items : RigState → ScanQueue → List Record
queue_items s q = in_order (writer_items s q.writer)

-- the blocks that it holds
abbrev pub queue_blocks : RigState → ScanQueue → List ℕ
queue_blocks s q = writer_blocks s q.writer

-- a queue into which nothing was pushed, with no block
abbrev pub fresh_counts : ℕ → ℕ → QueueCounts
fresh_counts frames areas = record {
  len = 0;
  n = 0;
  k = 0;
  since = 0;
  spent = 0;
  frames = frames;
  areas = areas;
  blocks = 0;
  unstored = 0;
  most = 0;
}

-- its numbers; it holds one frame
abbrev pub counts_of : ScanQueue → QueueCounts
counts_of q = record {
  len = q.writer.count;
  n = q.calls;
  k = q.longest;
  since = q.since;
  spent = q.spent;
  frames = 1;
  areas = 0;
  blocks = q.writer.blocks;
  unstored = min q.writer.blocks 1;
  most = q.most;
}

-- after a call was counted, in which it may hold one block more than before
abbrev pub counted : ScanQueue → ScanQueue
counted q = record q {
  calls = q.calls + 1;
  longest = max q.longest (q.since + 1);
  since = q.since + 1;
  most = max q.most (q.writer.blocks + 1);
}

-- at the end of a pop: it counts anew where it is empty
abbrev pub settled : ScanQueue → ScanQueue
settled q = record q { since = if q.writer.count == 0 then 0 else q.since }

-- The part on frames and numbers: it never held more blocks than the calls between two moments at which
-- it was empty can fill, and one.
pub record QueueHasFrame (s : RigState) (q : ScanQueue) : Type 0 where
  pub frame : WriterHasFrame s q.writer
  pub areas : s.pool.free_areas ≤ 2
  pub spent_most : q.spent ≤ s.moves
  pub k_most : q.longest ≤ q.calls
  pub since_most : q.since ≤ q.longest
  pub most_most : q.most ≤ ceiling q.longest (payload_of s.pool.shape) + 1

-- What ties the queue to its blocks: every block but the last is full.
pub record IsScanQueue (s : RigState) (q : ScanQueue) : Type 0 where
  pub rest : QueueHasFrame s q
  pub writer : IsWriter s q.writer
  pub packed : IsTrue s.device.told → IsPackedSoFar s q.writer
  pub filled_is : filled s q.writer ≡ q.writer.count
  pub len_most : q.writer.count ≤ q.since
  pub since_none : q.writer.count ≡ 0 → q.since ≡ 0
  pub blocks_most : q.writer.blocks ≤ q.most

-- one free block is enough for each call
abbrev pub one_block : ShapeNumbers → QueueCounts → ℕ
one_block shape counts = 1

-- none of its items has this number or a greater one in the word b
pub record LacksFrom (n : ℕ) (s : RigState) (q : ScanQueue) : Type 0 where
  pub is : IsTrue s.device.told → (x : Record) → n ≤ x.b → Lacks x (queue_items s q)
