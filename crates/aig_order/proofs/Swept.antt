-- Records are read and met one after another.
use Rattle.std.proofs.Common.{◌≡◌, ℕ, ◌+◌, ◌<◌, ◌≤◌, List, [], ◌++◌, length, IsTrue, ap, ap₂, refl, sym, subst, ◌∙◌, arith}
use Rattle.std.proofs.lemmas.List.{length-append}
use Rattle.em_record.specs.declared.record.Record.{Record}
use Rattle.em_frames.specs.Pool.{singles_of}
use Rattle.em_space.specs.Rig.{RigState}
use Rattle.em_space.specs.declared.fault.EmFault.{EmFault}
use Rattle.em_space.specs.declared.queue.Queue.{Ghosts as QueueGhosts}
use Rattle.em_chain.specs.Chain.{payload_in}
use Rattle.em_chain.specs.Counts.{ceiling}
use Rattle.em_chain.specs.Reader.{reader_blocks, reader_items}
use Rattle.em_chain.specs.Writer.{filled, writer_blocks}
use Rattle.em_chain.specs.declared.reader.Reader.{Reader}
use Rattle.em_chain.specs.declared.writer.Writer.{Writer}
use Rattle.em_chain.proofs.Keeps.{payload_kept}
use Rattle.em_chain.proofs.Sessions.{took_nothing, took_then}
use Rattle.em_queued.specs.Popped.{grown_blocks}
use Rattle.em_queued.proofs.Popped.{grown_low}
use Rattle.em_queued.proofs.Queued.{beside_holds, beside_none, beside_then, beside_wider, still_can_serve, stops_then, stops_wider}
use Rattle.aig_defs.specs.declared.circuit.Header.{Header}
use Rattle.aig_order.specs.declared.limits.Limits.{Limits}
use Rattle.aig_order.specs.declared.standing.Standing.{Standing}
use Rattle.aig_order.specs.declared.standing.Sweep.{Sweep}
use Rattle.aig_order.specs.SweepCalls.{AllBelow, CanSweep, Fits, Meets, StopsSweeping, Sweeps, moment_of, sweep_account, sweep_blocks, sweep_calls, sweep_written}
use Rattle.aig_order.specs.Sweeps.{Moment, meet_all}
use Rattle.aig_order.proofs.Meeting.{calls_most, calls_then, meet_all_below, meet_then, written_most, written_then}
use Rattle.aig_order.proofs.Reading.{fewer, holds_front}

-- No record was met yet,
pub meets_none : {Q : Type 0} (q : QueueGhosts Q) (h : Header) (sweep : Sweep) (i n : ℕ) (x : Q)
    (p : Standing) {w : Writer} {r : Reader} {s : RigState} → CanSweep q n x w r s
    → Meets q h sweep i [] x x p p w w s s
meets_none q h sweep i n x p can = record {
  told = refl;
  is = can.meets.writer;
  moment = λ z. refl;
  packed = λ z k. k;
  filled_is = omega arith;
  count_is = omega arith;
  grows = omega arith;
  more = omega arith;
  len = omega arith;
}

pub sweeps_none : {Q : Type 0} (q : QueueGhosts Q) (h : Header) (sweep : Sweep) (i n : ℕ) (x : Q)
    (p : Standing) {w : Writer} {r : Reader} {s : RigState} (bound : Limits)
    → (q.counts x).blocks ≤ (q.counts x).most → CanSweep q n x w r s
    → Sweeps q h sweep i 0 x x p p w w r r bound bound s s
sweeps_none q h sweep i n x p {w} {r} {s} bound most can = record {
  records = [];
  len = refl;
  spent = record { calls = omega arith; records = omega arith };
  took = took_nothing can.reader;
  meets = meets_none q h sweep i n x p can;
  runs = beside_wider (omega arith) (omega arith)
      (beside_none s (sweep_blocks q x w r s) (sweep_account w r) (q.counts x) can.meets.notes.sound
      most can.holds);
  apart = can.apart;
}

-- more were,
pub meets_then : {Q : Type 0} (q : QueueGhosts Q) (h : Header) (sweep : Sweep) (i m : ℕ)
    (rs qs : List Record) (x y z : Q) (p j k : Standing) {w v e : Writer} {s t u : RigState}
    → i + length rs ≡ m → Meets q h sweep i rs x y p j w v s t → Meets q h sweep m qs y z j k v e t u
    → Meets q h sweep i (rs ++ qs) x z p k w e s u
meets_then q h sweep i m rs qs x y z p j k {w} {v} {e} {s} {t} {u} at-m a b =
    let calls = calls_then sweep rs qs in
    let written = written_then sweep rs qs in
    record {
      told = b.told ∙ a.told;
      is = b.is;
      moment = λ o. b.moment (a.told ∙ o)
          ∙ ap₂ (λ (l : ℕ) (c : Moment). meet_all h sweep l qs c) (sym at-m) (a.moment o)
          ∙ sym (meet_then h sweep i rs qs (moment_of q x p w s));
      packed = λ o c. b.packed (a.told ∙ o) (a.packed o c);
      filled_is = omega (arith, a.filled_is, b.filled_is, written);
      count_is = omega (arith, a.count_is, b.count_is, written);
      grows = omega (arith, a.grows, b.grows);
      more = omega (arith, a.more, b.more, written);
      len = omega (arith, a.len, b.len, calls);
    }

pub sweeps_then : {Q : Type 0} (q : QueueGhosts Q) (h : Header) (sweep : Sweep) (i n : ℕ)
    (x y z : Q) (p j k : Standing) {w v e : Writer} {r a b : Reader} {bound some left : Limits}
    {s t u : RigState} → Sweeps q h sweep i n x y p j w v r a bound some s t
    → Sweeps q h sweep (i + n) 1 y z j k v e a b some left t u
    → Sweeps q h sweep i (n + 1) x z p k w e r b bound left s u
sweeps_then q h sweep i n x y z p j k {w} {v} {e} {r} {a} {b} {s = s} {t} {u} f g =
    let rs = f.records in
    let qs = g.records in
    let len = length-append rs qs in
    let calls = calls_then sweep rs qs in
    let written = written_then sweep rs qs in
    let less = fewer r a f.took.taking f.took.fewer in
    record {
      records = rs ++ qs;
      len = omega (arith, len, f.len, g.len);
      spent = record {
        calls = omega (arith, f.spent.calls, g.spent.calls, calls);
        records = omega (arith, f.spent.records, g.spent.records, written);
      };
      took = took_then rs qs f.took g.took;
      meets = meets_then q h sweep i (i + n) rs qs x y z p j k (omega (arith, f.len)) f.meets g.meets;
      runs = beside_wider (omega (arith, calls)) (omega (arith, less, g.meets.grows))
          (beside_then f.runs g.runs);
      apart = g.apart;
    }

-- or one wasn't, of this many that were to be.
pub sweeps_refused : {Q : Type 0} (q : QueueGhosts Q) (h : Header) (sweep : Sweep) (i n : ℕ)
    (x y z : Q) (p j : Standing) {w v : Writer} {r a : Reader} {bound left : Limits}
    {s t u : RigState} {fault : EmFault} → Sweeps q h sweep i n x y p j w v r a bound left s t
    → StopsSweeping q y z v a left t u fault → StopsSweeping q x z w r bound s u fault
sweeps_refused q h sweep i n x y z p j {w} {v} {r} {a} {s = s} {t} {u} f g =
    let rs = f.records in
    let pay : payload_in t ≡ payload_in s =
    payload_kept (sweep_blocks q x w r s) s t f.runs.runs.session.touches in
    let sum : filled t v + g.written ≡ filled s w + (sweep_written sweep rs + g.written) =
    omega (arith, f.meets.filled_is) in
    let same : grown_blocks g.written t v ≡ grown_blocks (sweep_written sweep rs + g.written) s w =
    ap₂ (λ (k : ℕ) (c : ℕ). ceiling k c) sum pay in
    let low : v.blocks ≤ grown_blocks g.written t v =
    grown_low g.written f.runs.runs.session.sound f.meets.is in
    let less = fewer r a f.took.taking f.took.fewer in
    record {
      calls = sweep_calls sweep rs + g.calls;
      written = sweep_written sweep rs + g.written;
      calls_most = omega (arith, f.spent.calls, g.calls_most);
      written_most = omega (arith, f.spent.records, g.written_most);
      stops = stops_wider (omega arith) (omega (arith, same, low, less)) (omega (arith, same))
          (omega arith) (stops_then f.runs g.stops);
    }

-- What the next one wants,
pub sweeps_can : {Q : Type 0} (q : QueueGhosts Q) (h : Header) (sweep : Sweep) (i n m : ℕ) (x y : Q)
    (p j : Standing) {w v : Writer} {r a : Reader} {bound left : Limits} {s t : RigState} → n < m
    → CanSweep q m x w r s → Sweeps q h sweep i n x y p j w v r a bound left s t → CanSweep q 1 y v a t
sweeps_can q h sweep i n m x y p j {w} {v} {r} {a} {s = s} {t} l can f =
    let shape = ap singles_of f.runs.runs.frames.shape in
    let free = f.runs.runs.frames.free in
    let calls = calls_most sweep f.records in
    let written = written_most sweep f.records in
    let frames = f.runs.calls_on.frames in
    record {
      meets = record {
        notes = record {
          sound = f.runs.runs.session.sound;
          free = still_can_serve f.runs can.meets.notes.free;
          few = omega (arith, can.meets.notes.few, f.runs.calls_on.called.n, calls, f.len, l);
          limit = omega (arith, can.meets.notes.limit, f.meets.len, calls, f.len, l);
        };
        writer = f.meets.is;
        room = record {
          count = omega (arith, can.meets.room.count, f.meets.count_is, written, f.len, l);
          blocks = omega (arith, can.meets.room.blocks, f.meets.more, written, f.len, l);
        };
        holds = λ z. holds_front (q.blocks y t ++ writer_blocks t v) (reader_blocks t a)
            (beside_holds f.runs z);
        out = omega (arith, can.meets.out, shape, free, frames);
      };
      reader = f.took.is;
      count = omega (arith, can.count, f.took.left_is, f.len, l);
      apart = f.apart;
      holds = beside_holds f.runs;
      out = omega (arith, can.out, shape, free, frames);
    }

-- which is within what is left of the limits, if all of them fit,
pub sweeps_fit : {Q : Type 0} (q : QueueGhosts Q) (h : Header) (sweep : Sweep) (i n : ℕ) (x y : Q)
    (p j : Standing) {w v : Writer} {r a : Reader} {bound left : Limits} {s t : RigState}
    → (IsTrue s.device.told → Fits sweep (reader_items s r) bound)
    → Sweeps q h sweep i n x y p j w v r a bound left s t → IsTrue t.device.told
    → Fits sweep (reader_items t a) left
sweeps_fit q h sweep i n x y p j {r = r} {a} {s = s} {t} fits f z =
    let old = sym f.meets.told ∙ z in
    let all = fits old in
    let same = f.took.items old in
    let calls = ap (sweep_calls sweep) same in
    let written = ap (sweep_written sweep) same in
    let more_calls = calls_then sweep f.records (reader_items t a) in
    let more_written = written_then sweep f.records (reader_items t a) in
    record {
      calls = omega (arith, calls, more_calls, f.spent.calls, all.calls);
      records = omega (arith, written, more_written, f.spent.records, all.records);
    }

-- and its number is above those in the queue.
pub sweeps_below : {Q : Type 0} (q : QueueGhosts Q) (h : Header) (sweep : Sweep) (i n : ℕ) (x y : Q)
    (p j : Standing) {w v : Writer} {r a : Reader} {bound left : Limits} {s t : RigState}
    → (IsTrue s.device.told → AllBelow i (q.items x s))
    → Sweeps q h sweep i n x y p j w v r a bound left s t → IsTrue t.device.told
    → AllBelow (i + n) (q.items y t)
sweeps_below q h sweep i n x y p j {w} {v} {s = s} {t} below f z =
    let old = sym f.meets.told ∙ z in
    let after = meet_all_below h sweep i f.records (moment_of q x p w s) (below old) in
    let here : AllBelow (i + n) (meet_all h sweep i f.records (moment_of q x p w s)).items =
    rw f.len at after in
    subst (λ (m : Moment). AllBelow (i + n) m.items) (sym (f.meets.moment old)) here
