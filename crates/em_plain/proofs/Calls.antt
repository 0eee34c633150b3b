-- The calls of a queue that is a list of its items.
use Rattle.std.proofs.Common.{◌≡◌, ◌==◌, if◌then◌else◌, ℕ, ◌+◌, ◌-◌, ◌<◌, ◌≤◌, max, refl, sym, ap, ◌∙◌, arith, IsTrue, Option, Result, Ok, Err, OnOk}
use Rattle.std.proofs.lemmas.Bool.{cond-false, cond_both, eqb-true, ne_eqb}
use Rattle.em_record.specs.Order.{with_record, in_order}
use Rattle.em_record.specs.Shape.{payload_of}
use Rattle.em_record.specs.declared.record.Record.{Record}
use Rattle.em_record.proofs.Order.{order_push}
use Rattle.em_frames.specs.Pool.{SameFrames}
use Rattle.em_space.specs.Held.{Within}
use Rattle.em_space.specs.Queue.{Served}
use Rattle.em_space.specs.Rig.{RigState, Sound}
use Rattle.em_space.specs.declared.fault.EmFault.{EmFault}
use Rattle.em_chain.specs.Counts.{ceiling}
use Rattle.em_chain.specs.Writer.{IsWriter, WriterHasFrame, filled, writer_blocks, writer_items}
use Rattle.em_chain.specs.Writes.{Appends, AppendCosts}
use Rattle.em_chain.specs.declared.writer.Writer.{Writer}
use Rattle.em_chain.proofs.Counts.{writer_blocks_are}
use Rattle.em_chain.proofs.Withins.{within_grows}
use Rattle.em_chain.proofs.Appending.{pos_of}
use Rattle.em_chain.proofs.Paying.{append_pays}
use Rattle.em_plain.specs.Least.{TakesLeast}
use Rattle.em_plain.specs.ScanQueue.{IsScanQueue, QueueHasFrame, counted, counts_of, settled}
use Rattle.em_plain.specs.declared.scan_queue.ScanQueue.{ScanQueue}
use Rattle.em_chain.proofs.Sessions.{ceiling_rises}

-- it holds no more blocks than the calls since it was empty can fill
pub queue_room : (s : RigState) (q : ScanQueue) → Sound s → IsScanQueue s q
    → q.writer.blocks ≤ ceiling q.longest (payload_of s.pool.shape)
queue_room s q h i =
    let low = h.shape.block_low in
    let len = i.len_most in
    let since = i.rest.since_most in
    let full = i.filled_is in
    let e = rw full at (writer_blocks_are s q.writer low i.writer) in
    let r = ceiling_rises q.writer.count q.longest (payload_of s.pool.shape) (omega arith)
    (omega arith) in
    omega arith

-- it never held more blocks than all its calls can fill, and one
pub most_called : (s : RigState) (q : ScanQueue) → Sound s → QueueHasFrame s q
    → q.most ≤ ceiling q.calls (payload_of s.pool.shape) + 1
most_called s q h f =
    let low = h.shape.block_low in
    let k = f.k_most in
    let most = f.most_most in
    let r = ceiling_rises q.longest q.calls (payload_of s.pool.shape) (omega arith) (omega arith) in
    omega arith

-- after a call that was counted, with this list and this many moves
abbrev pub called : ScanQueue → Writer → ℕ → ScanQueue
called q v spent = record (counted q) { writer = v; spent = spent }

-- what holds of the frames and the numbers after a call, whether it gave up or not
pub frames_after : (s t : RigState) (q : ScanQueue) (v : Writer) (spent : ℕ) → Sound s
    → IsScanQueue s q → SameFrames s.pool t.pool → WriterHasFrame t v → s.moves ≤ t.moves
    → spent ≡ q.spent + (t.moves - s.moves) → QueueHasFrame t (called q v spent)
frames_after s t q v spent h i f has later e =
    let low = h.shape.block_low in
    let areas = f.free_areas in
    let was = i.rest.areas in
    let paid = i.rest.spent_most in
    let k = i.rest.k_most in
    let since = i.rest.since_most in
    let most = i.rest.most_most in
    let room = queue_room s q h i in
    let r = ceiling_rises q.longest (max q.longest (q.since + 1)) (payload_of s.pool.shape)
    (omega arith) (omega arith) in
    record {
      frame = has;
      areas = omega arith;
      spent_most = omega arith;
      k_most = omega arith;
      since_most = omega arith;
      most_most = rw f.shape (omega arith);
    }

-- One item more was written.
pub pushed_is : {T : Type 0} (s t : RigState) (q : ScanQueue) (v : Writer) (x : Record) (spent : ℕ)
    (r : Result T EmFault) → IsScanQueue s q → QueueHasFrame t (called q v spent)
    → OnOk r (Appends s t q.writer v x) → AppendCosts s t q.writer v r
    → s.device.told ≡ t.device.told → OnOk r (IsScanQueue t (called q v spent))
pushed_is s t q v x spent (Ok y) i f a k told =
    let full = i.filled_is in
    let len = i.len_most in
    let more = k.more in
    let fills = a.filled_is in
    let counts = a.count_is in
    record {
      rest = f;
      writer = a.is;
      packed = λ z. a.packed (told ∙ z) (i.packed (told ∙ z));
      filled_is = omega arith;
      len_most = omega arith;
      since_none = λ e. absurd (omega (arith, counts, e));
      blocks_most = omega arith;
    }
pushed_is s t q v x spent (Err e) i f a k told = tt

pub pushed_items : {T : Type 0} (s t : RigState) (w v : Writer) (x : Record) (r : Result T EmFault)
    → OnOk r (Appends s t w v x) → OnOk r (IsTrue s.device.told
    → in_order (writer_items t v) ≡ with_record x (in_order (writer_items s w)))
pushed_items s t w v x (Ok y) a = λ z. ap in_order (a.items z) ∙ order_push (writer_items s w) x
pushed_items s t w v x (Err e) a = tt

pub pushed_within : {T : Type 0} (s t : RigState) (w v : Writer) (x : Record)
    (r : Result T EmFault) → OnOk r (Appends s t w v x)
    → OnOk r (Within s (writer_blocks s w) (writer_blocks t v))
pushed_within s t w v x (Ok y) a = within_grows s (writer_blocks s w) (writer_blocks t v) a.grown
pushed_within s t w v x (Err e) a = tt

since_some : (n m k : ℕ) → n ≡ m + 1 → k ≡ (if n == 0 then 0 else k)
since_some n m k e = sym (cond-false _ _ _ (ne_eqb n 0 (λ z. omega arith)))

pub pushed_served : {T : Type 0} (s t : RigState) (q : ScanQueue) (v : Writer) (x : Record)
    (spent : ℕ) (r : Result T EmFault) → OnOk r (Appends s t q.writer v x)
    → AppendCosts s t q.writer v r
    → OnOk r (Served (counts_of q) (counts_of (called q v spent)) s t)
pushed_served s t q v x spent (Ok y) a k =
    let used = k.used in
    let some : 0 < v.blocks = pos_of v.blocks (λ e. let n = a.is.last.none_count e in
    let c = a.count_is in absurd (omega arith)) in
    record {
      since = since_some v.count q.writer.count (q.since + 1) a.count_is;
      frames = refl;
      areas = refl;
      used = used;
      pays = append_pays s t q.writer v (Ok y) k some;
    }
pushed_served s t q v x spent (Err e) a k = tt

-- The least item was taken out.
pub taken_served : (s t : RigState) (q : ScanQueue) (v : Writer) (item : Option Record) (spent : ℕ)
    → TakesLeast s t q.writer v item
    → Served (counts_of q) (counts_of (settled (called q v spent))) s t
taken_served s t q v item spent k = record {
  since = refl;
  frames = refl;
  areas = refl;
  used = k.used;
  pays = k.pays;
}

settled_most : (n k : ℕ) → (if n == 0 then 0 else k) ≤ k
settled_most n k =
    cond_both (n == 0) 0 k (λ (x : ℕ). x ≤ k) (λ e. omega arith) (λ e. omega arith)

settled_least : (n k : ℕ) → n ≤ k → n ≤ (if n == 0 then 0 else k)
settled_least n k h =
    cond_both (n == 0) 0 k (λ (x : ℕ). n ≤ x) (λ e. omega (arith, eqb-true n 0 e)) (λ e. h)

-- a list with fewer records has as many blocks at most
fewer_blocks : (s t : RigState) (w v : Writer) → Sound s → Sound t → IsWriter s w
    → filled s w ≡ w.count → IsWriter t v → filled t v ≡ v.count
    → t.pool.shape ≡ s.pool.shape → v.count ≤ w.count → v.blocks ≤ w.blocks
fewer_blocks s t w v h g i full j fills shape few =
    let low = h.shape.block_low in
    let lower = g.shape.block_low in
    let e = rw full at (writer_blocks_are s w low i) in
    let d = rw (fills, shape) at (writer_blocks_are t v lower j) in
    let r = ceiling_rises v.count w.count (payload_of s.pool.shape) (omega arith) few in
    omega arith

-- The least item was taken out.
pub settled_frames : (t : RigState) (q : ScanQueue) → QueueHasFrame t q
    → QueueHasFrame t (settled q)
settled_frames t q f = record {
  frame = f.frame;
  areas = f.areas;
  spent_most = f.spent_most;
  k_most = f.k_most;
  since_most = (let e = settled_most q.writer.count q.since in let m = f.since_most in omega arith);
  most_most = f.most_most;
}

pub taken_is : (s t : RigState) (q : ScanQueue) (v : Writer) (item : Option Record) (spent : ℕ)
    → Sound s → Sound t → IsScanQueue s q → QueueHasFrame t (called q v spent)
    → t.pool.shape ≡ s.pool.shape → TakesLeast s t q.writer v item
    → IsScanQueue t (settled (called q v spent))
taken_is s t q v item spent h g i f shape k =
    let len = i.len_most in
    let count = k.count in
    let room = fewer_blocks s t q.writer v h g i.writer i.filled_is k.is_full.is
    k.is_full.filled_is shape (omega arith) in
    let most = i.blocks_most in
    record {
      rest = settled_frames t (called q v spent) f;
      writer = k.is_full.is;
      packed = k.is_full.packed;
      filled_is = k.is_full.filled_is;
      len_most = settled_least v.count (q.since + 1) (omega arith);
      since_none = λ e. rw e refl;
      blocks_most = omega arith;
    }
