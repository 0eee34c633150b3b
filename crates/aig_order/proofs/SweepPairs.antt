-- Two sweeps over a list, one after the other.
use Rattle.std.proofs.Common.{◌≡◌, ℕ, ◌+◌, ◌*◌, ◌≤◌, List, [], ◌++◌, length, IsTrue, ap, ap₂, sym, subst, ◌∙◌, arith}
use Rattle.em_record.specs.Shape.{ShapeNumbers, fan_of}
use Rattle.em_record.specs.declared.record.Record.{Record}
use Rattle.em_frames.specs.Pool.{singles_of}
use Rattle.em_space.specs.Ledger.{both}
use Rattle.em_space.specs.Rig.{RigState, BlockCause}
use Rattle.em_space.specs.declared.fault.EmFault.{EmFault}
use Rattle.em_space.specs.declared.queue.Queue.{Ghosts as QueueGhosts}
use Rattle.em_space.proofs.Lists.{apart_sym, distinct_apart}
use Rattle.em_chain.specs.Chain.{ChainStays, chain_blocks, chain_items}
use Rattle.em_chain.specs.Counts.{ceiling}
use Rattle.em_chain.specs.Session.{writer_account}
use Rattle.em_chain.specs.Writer.{filled}
use Rattle.em_chain.specs.declared.chain.Chain.{Chain}
use Rattle.em_chain.specs.declared.writer.Writer.{Writer}
use Rattle.em_chain.proofs.Keeps.{payload_kept}
use Rattle.em_chain.proofs.Laws.{chain_stays}
use Rattle.em_queued.specs.Popped.{grown_blocks}
use Rattle.em_queued.specs.Queued.{RunsBeside}
use Rattle.em_queued.proofs.Popped.{grown_low}
use Rattle.em_queued.proofs.Queued.{beside_as, beside_holds, beside_then, beside_wider, still_can_serve, stops_then, stops_wider}
use Rattle.aig_defs.specs.declared.circuit.Header.{Header}
use Rattle.aig_edges.specs.Accounts.{releasing, stored_account}
use Rattle.aig_edges.proofs.Pushes.{IsBoth, beside_value, stops_value}
use Rattle.aig_order.specs.declared.limits.Limits.{Limits}
use Rattle.aig_order.specs.declared.standing.Standing.{Standing}
use Rattle.aig_order.specs.declared.standing.Sweep.{Sweep}
use Rattle.aig_order.specs.Passes.{BothFit, restarted}
use Rattle.aig_order.specs.SweepCalls.{AllBelow, Fits, moment_of, sweep_calls, sweep_written}
use Rattle.aig_order.specs.SweepLists.{CanSweepList, StopsList, SweepsList, pair_held, three_held}
use Rattle.aig_order.specs.SweepPairs.{CanSweepPair, StopsPair, SweepsPair, after_pair}
use Rattle.aig_order.specs.Sweeps.{Moment, at_constant, meet_all}
use Rattle.aig_order.proofs.Meeting.{calls_most, meet_all_below, written_most}
use Rattle.aig_order.proofs.Reading.{runs_stop}

-- The first one may be made,
pub pair_first : {Q : Type 0} (q : QueueGhosts Q) (h : Header) (a b : Sweep) (next : ℕ) (x : Q)
    (w : Writer) {s : RigState} (c : Chain) → CanSweepPair q h a b next x w s c
    → CanSweepList q c.count x w s c
pair_first q h a b next x w c can = record {
  meets = record {
    notes = record {
      sound = can.meets.notes.sound;
      free = can.meets.notes.free;
      few = omega (arith, can.meets.notes.few);
      limit = omega (arith, can.meets.notes.limit);
    };
    writer = can.meets.writer;
    room = record {
      count = omega (arith, can.meets.room.count);
      blocks = omega (arith, can.meets.room.blocks);
    };
    holds = can.meets.holds;
    out = can.meets.out;
  };
  free = can.free;
  most = can.most;
  count = omega arith;
  chain = can.chain;
  holds = can.holds;
}

pub none_below : {Q : Type 0} (q : QueueGhosts Q) (h : Header) (a b : Sweep) (next : ℕ) (x : Q)
    (w : Writer) {s : RigState} (c : Chain) → CanSweepPair q h a b next x w s c
    → IsTrue s.device.told → AllBelow 0 (q.items x s)
none_below q h a b next x w c can z = rw (can.none z) tt

pub first_fits : {a b : Sweep} {rs : List Record} {bound : Limits} → BothFit a b rs bound
    → Fits a rs bound
first_fits f = record { calls = omega (arith, f.calls); records = omega (arith, f.records) }

-- the list stays,
pub list_kept : {Q : Type 0} (q : QueueGhosts Q) (h : Header) (a b : Sweep) (next : ℕ) (x y : Q)
    (j : Standing) (w v : Writer) {s t : RigState} (c : Chain) {bound some : Limits} → CanSweepPair q h a b next x w s c
    → SweepsList q h a 0 next (pair_held q x w s) (stored_account 0 c.blocks) c x y j w v bound some s t
    → ChainStays s t c
list_kept q h a b next x y j w v {s} {t} c can f =
    let ps = pair_held q x w s in
    let cs = chain_blocks s c in
    chain_stays ps s t c f.runs.runs.session.touches
    (λ z. apart_sym ps cs (distinct_apart ps cs ((can.holds z).distinct z))) can.chain

both_first : (w : Writer) (c : Chain)
    → IsBoth (both (writer_account w) (stored_account c.blocks (3 * c.blocks)))
    (both (writer_account w) (stored_account 0 c.blocks)) (releasing c.blocks)
both_first w c = record {
  blocks = omega arith;
  unstored = omega arith;
  paid = omega arith;
  owed = omega arith;
}

both_last : (v : Writer) (c : Chain)
    → IsBoth (both (writer_account v) (releasing c.blocks)) (writer_account v) (releasing c.blocks)
both_last v c = record {
  blocks = omega arith;
  unstored = omega arith;
  paid = omega arith;
  owed = omega arith;
}

pub first_runs : {Q : Type 0} (q : QueueGhosts Q) (h : Header) (a b : Sweep) (next : ℕ) (x y : Q)
    (j : Standing) (w v : Writer) {s t : RigState} (c : Chain) {bound some : Limits} → CanSweepPair q h a b next x w s c
    → (f : SweepsList q h a 0 next (pair_held q x w s) (stored_account 0 c.blocks) c x y j w v bound some s t)
    → RunsBeside (sweep_calls a f.records) (v.blocks + c.blocks) (three_held q x w c s)
    (three_held q y v c t) (both (writer_account w) (stored_account c.blocks (3 * c.blocks)))
    (both (writer_account v) (releasing c.blocks)) (q.counts x) (q.counts y) s t
first_runs q h a b next x y j w v {s} {t} c can f =
    let st = list_kept q h a b next x y j w v c can f in
    beside_wider (omega arith) (omega arith)
    (beside_as (three_held q y v c t)
    (beside_value (chain_blocks s c) (releasing c.blocks) (both_first w c) (both_last v c) can.holds
    f.runs) (λ z. ap (λ (ks : List ℕ). pair_held q y v t ++ ks) (st.blocks z)))

-- and the second one after it.
pub pair_second : {Q : Type 0} (q : QueueGhosts Q) (h : Header) (a b : Sweep) (next : ℕ) (x y : Q)
    (j : Standing) (w v : Writer) {s t : RigState} (c : Chain) {bound some : Limits} → CanSweepPair q h a b next x w s c
    → SweepsList q h a 0 next (pair_held q x w s) (stored_account 0 c.blocks) c x y j w v bound some s t
    → CanSweepList q c.count y v t c
pair_second q h a b next x y j w v {s} {t} c can f =
    let one = first_runs q h a b next x y j w v c can f in
    let calls = calls_most a f.records in
    let written = written_most a f.records in
    let fan = ap fan_of f.runs.runs.frames.shape in
    let shape = ap singles_of f.runs.runs.frames.shape in
    record {
      meets = record {
        notes = record {
          sound = f.runs.runs.session.sound;
          free = still_can_serve f.runs can.meets.notes.free;
          few = omega (arith, can.meets.notes.few, f.runs.calls_on.called.n, calls, f.len);
          limit = omega (arith, can.meets.notes.limit, f.meets.len, calls, f.len);
        };
        writer = f.meets.is;
        room = record {
          count = omega (arith, can.meets.room.count, f.meets.count_is, written, f.len);
          blocks = omega (arith, can.meets.room.blocks, f.meets.more, written, f.len);
        };
        holds = beside_holds f.runs;
        out = omega (
          arith,
          can.meets.out,
          shape,
          f.runs.runs.frames.free,
          f.runs.calls_on.frames,
        );
      };
      free = record {
        singles = omega (arith, can.free.singles, fan, f.runs.runs.frames.free);
        areas = omega (arith, can.free.areas, f.runs.runs.frames.free_areas);
        rack = f.runs.runs.frames.rack ∙ can.free.rack;
      };
      most = can.most;
      count = omega arith;
      chain = (list_kept q h a b next x y j w v c can f).is;
      holds = beside_holds one;
    }

pub second_fits : {Q : Type 0} (q : QueueGhosts Q) (h : Header) (a b : Sweep) (next : ℕ) (x y : Q)
    (j : Standing) (w v : Writer) {s t : RigState} (c : Chain) {bound some : Limits}
    → CanSweepPair q h a b next x w s c
    → (IsTrue s.device.told → BothFit a b (chain_items s c) bound)
    → SweepsList q h a 0 next (pair_held q x w s) (stored_account 0 c.blocks) c x y j w v bound some s t
    → IsTrue t.device.told → Fits b (chain_items t c) some
second_fits q h a b next x y j w v {s} {t} c can fits f z =
    let old = sym f.meets.told ∙ z in
    let all = fits old in
    let same = (list_kept q h a b next x y j w v c can f).items old in
    let first_calls = ap (sweep_calls a) (f.are old) in
    let first_written = ap (sweep_written a) (f.are old) in
    let calls = ap (sweep_calls b) same in
    let written = ap (sweep_written b) same in
    record {
      calls = omega (arith, all.calls, f.spent.calls, first_calls, calls);
      records = omega (arith, all.records, f.spent.records, first_written, written);
    }

pub second_below : {Q : Type 0} (q : QueueGhosts Q) (h : Header) (a b : Sweep) (next : ℕ) (x y : Q)
    (j : Standing) (w v : Writer) {s t : RigState} (c : Chain) {bound some : Limits} → CanSweepPair q h a b next x w s c
    → SweepsList q h a 0 next (pair_held q x w s) (stored_account 0 c.blocks) c x y j w v bound some s t
    → IsTrue t.device.told → AllBelow c.count (q.items y t)
second_below q h a b next x y j w v {s} {t} c can f z =
    let old = sym f.meets.told ∙ z in
    let first = moment_of q x (at_constant next) w s in
    let all = meet_all_below h a 0 f.records first (none_below q h a b next x w c can old) in
    let here : 0 + length f.records ≡ c.count = omega (arith, f.len) in
    let below : AllBelow c.count (meet_all h a 0 f.records first).items = rw here at all in
    subst (λ (m : Moment). AllBelow c.count m.items) (sym (f.meets.moment old)) below

-- The moment after both.
pub after_both_is : {Q : Type 0} (q : QueueGhosts Q) (h : Header) (a b : Sweep) (next : ℕ)
    (x y z : Q) (j k : Standing) (w v e : Writer) {s t u : RigState} (c : Chain) {bound some left : Limits}
    → CanSweepPair q h a b next x w s c
    → SweepsList q h a 0 next (pair_held q x w s) (stored_account 0 c.blocks) c x y j w v bound some s t
    → SweepsList q h b c.count next (three_held q y v c t) (releasing c.blocks) c y z k v e some left t u
    → IsTrue s.device.told
    → moment_of q z k e u ≡ after_pair h a b next c.count (chain_items s c)
    (moment_of q x (at_constant next) w s)
after_both_is q h a b next x y z j k w v e {s} {t} {u} c can f g d =
    let st = list_kept q h a b next x y j w v c can f in
    let now = f.meets.told ∙ d in
    let first = moment_of q x (at_constant next) w s in
    g.meets.moment now
    ∙ ap₂ (λ (rs : List Record) (m : Moment). meet_all h b c.count rs (restarted next m))
    (g.are now ∙ st.items d) (f.meets.moment d)
    ∙ ap (λ (rs : List Record). meet_all h b c.count (chain_items s c)
    (restarted next (meet_all h a 0 rs first))) (f.are d)

-- Both were made,
pub pair_runs : {Q : Type 0} (q : QueueGhosts Q) (h : Header) (a b : Sweep) (next : ℕ)
    (x y z : Q) (j k : Standing) (w v e : Writer) {s t u : RigState} (c : Chain) {bound some left : Limits}
    → CanSweepPair q h a b next x w s c
    → (f : SweepsList q h a 0 next (pair_held q x w s) (stored_account 0 c.blocks) c x y j w v bound some s t)
    → (g : SweepsList q h b c.count next (three_held q y v c t) (releasing c.blocks) c y z k v e some left t u)
    → RunsBeside (sweep_calls a f.records + sweep_calls b g.records) (e.blocks + c.blocks)
    (three_held q x w c s) (pair_held q z e u)
    (both (writer_account w) (stored_account c.blocks (3 * c.blocks))) (writer_account e)
    (q.counts x) (q.counts z) s u
pair_runs q h a b next x y z j k w v e c can f g =
    beside_wider (omega arith) (omega (arith, g.meets.grows))
    (beside_then (first_runs q h a b next x y j w v c can f) g.runs)

pub pair_made : {Q : Type 0} (q : QueueGhosts Q) (h : Header) (a b : Sweep) (next : ℕ)
    (x y z : Q) (j k : Standing) (w v e : Writer) {s t u : RigState} (c : Chain) {bound some left : Limits}
    → CanSweepPair q h a b next x w s c
    → SweepsList q h a 0 next (pair_held q x w s) (stored_account 0 c.blocks) c x y j w v bound some s t
    → SweepsList q h b c.count next (three_held q y v c t) (releasing c.blocks) c y z k v e some left t u
    → (q.counts z).len ≡ 0 → SweepsPair q h a b next c x z k.next w e bound s u
pair_made q h a b next x y z j k w v e c can f g empty =
    let st = list_kept q h a b next x y j w v c can f in
    let told = f.meets.told in
    let after = after_both_is q h a b next x y z j k w v e c can f g in
    record {
      earlier = f.records;
      later = g.records;
      earlier_len = f.len;
      later_len = g.len;
      earlier_is = f.are;
      later_is = λ d. g.are (told ∙ d) ∙ st.items d;
      calls_most = omega (arith, f.spent.calls, g.spent.calls);
      written_most = omega (arith, f.spent.records, g.spent.records);
      is = g.meets.is;
      packed = λ d p. g.meets.packed (told ∙ d) (f.meets.packed d p);
      filled_is = omega (arith, f.meets.filled_is, g.meets.filled_is);
      count_is = omega (arith, f.meets.count_is, g.meets.count_is);
      empty = empty;
      items = λ d. ap (λ (m : Moment). m.written) (after d);
      next_is = λ d. ap (λ (m : Moment). m.standing.next) (after d);
      runs = pair_runs q h a b next x y z j k w v e c can f g;
    }

-- and over a device that tells no item is left.
pub pair_empty : {Q : Type 0} (q : QueueGhosts Q) (h : Header) (a b : Sweep) (next : ℕ)
    (x y z : Q) (j k : Standing) (w v e : Writer) {s t u : RigState} (c : Chain) {bound some left : Limits}
    → CanSweepPair q h a b next x w s c
    → SweepsList q h a 0 next (pair_held q x w s) (stored_account 0 c.blocks) c x y j w v bound some s t
    → SweepsList q h b c.count next (three_held q y v c t) (releasing c.blocks) c y z k v e some left t u
    → IsTrue s.device.told → q.items z u ≡ []
pair_empty q h a b next x y z j k w v e c can f g d =
    ap (λ (m : Moment). m.items) (after_both_is q h a b next x y z j k w v e c can f g d)
    ∙ can.empties d

-- The first sweep was refused,
pub first_stops : {Q : Type 0} (q : QueueGhosts Q) (h : Header) (a b : Sweep) (next : ℕ) (x y : Q)
    (w : Writer) {s t : RigState} (c : Chain) {bound : Limits} {fault : EmFault}
    → CanSweepPair q h a b next x w s c
    → StopsList q (pair_held q x w s) (stored_account 0 c.blocks) x y w bound s t fault
    → StopsPair q c x y w bound s t fault
first_stops q h a b next x y w {s} c can f = record {
  calls = f.calls;
  written = f.written;
  calls_most = f.calls_most;
  written_most = f.written_most;
  stops = stops_wider (omega arith) (omega arith) (omega arith) (omega arith)
      (stops_value (chain_blocks s c) (releasing c.blocks) (both_first w c) f.stops);
}

-- how many blocks the list takes after the first sweep
grown_first : {Q : Type 0} (q : QueueGhosts Q) (h : Header) (a : Sweep) (next : ℕ) (x y : Q)
    (j : Standing) (w v : Writer) {s t : RigState} (c : Chain) {bound some : Limits} (n : ℕ)
    → (f : SweepsList q h a 0 next (pair_held q x w s) (stored_account 0 c.blocks) c x y j w v bound some s t)
    → grown_blocks n t v ≡ grown_blocks (sweep_written a f.records + n) s w
grown_first q h a next x y j w v {s} {t} c n f =
    let sum : filled t v + n ≡ filled s w + (sweep_written a f.records + n) =
    omega (arith, f.meets.filled_is) in
    ap₂ (λ (d : ℕ) (e : ℕ). ceiling d e) sum
    (payload_kept (pair_held q x w s) s t f.runs.runs.session.touches)

-- or the second one,
pub second_stops : {Q : Type 0} (q : QueueGhosts Q) (h : Header) (a b : Sweep) (next : ℕ)
    (x y z : Q) (j : Standing) (w v : Writer) {s t u : RigState} (c : Chain) {bound some : Limits} {fault : EmFault}
    → CanSweepPair q h a b next x w s c
    → SweepsList q h a 0 next (pair_held q x w s) (stored_account 0 c.blocks) c x y j w v bound some s t
    → StopsList q (three_held q y v c t) (releasing c.blocks) y z v some t u fault
    → StopsPair q c x z w bound s u fault
second_stops q h a b next x y z j w v c can f g =
    let same = grown_first q h a next x y j w v c g.written f in
    let low = grown_low g.written f.runs.runs.session.sound f.meets.is in
    record {
      calls = sweep_calls a f.records + g.calls;
      written = sweep_written a f.records + g.written;
      calls_most = omega (arith, f.spent.calls, g.calls_most);
      written_most = omega (arith, f.spent.records, g.written_most);
      stops = stops_wider (omega arith) (omega (arith, same, low)) (omega (arith, same)) (omega arith)
          (stops_then (first_runs q h a b next x y j w v c can f) g.stops);
    }

-- or the queue has an item.
pub items_stop : {Q : Type 0} (q : QueueGhosts Q) (h : Header) (a b : Sweep) (next : ℕ)
    (x y z : Q) (j k : Standing) (w v e : Writer) {s t u : RigState} (c : Chain) {bound some left : Limits} {fault : EmFault}
    → CanSweepPair q h a b next x w s c
    → SweepsList q h a 0 next (pair_held q x w s) (stored_account 0 c.blocks) c x y j w v bound some s t
    → SweepsList q h b c.count next (three_held q y v c t) (releasing c.blocks) c y z k v e some left t u
    → BlockCause s u fault → (q.counts z).unstored ≤ s.pool.shape.frames
    → StopsPair q c x z w bound s u fault
items_stop q h a b next x y z j k w v e {s} {t} {u} c can f g cause few =
    let written = sweep_written a f.records + sweep_written b g.records in
    let sum : filled u e + 0 ≡ filled s w + written =
    omega (arith, f.meets.filled_is, g.meets.filled_is) in
    let runs = pair_runs q h a b next x y z j k w v e c can f g in
    let same : grown_blocks 0 u e ≡ grown_blocks written s w =
    ap₂ (λ (m : ℕ) (n : ℕ). ceiling m n) sum
    (payload_kept (three_held q x w c s) s u runs.runs.session.touches) in
    let low : e.blocks ≤ grown_blocks 0 u e = grown_low 0 runs.runs.session.sound g.meets.is in
    record {
      calls = sweep_calls a f.records + sweep_calls b g.records;
      written = written;
      calls_most = omega (arith, f.spent.calls, g.spent.calls);
      written_most = omega (arith, f.spent.records, g.spent.records);
      stops = stops_wider (omega arith) (omega (arith, same, low)) (omega (arith, same, low))
          (omega arith) (runs_stop runs cause few);
    }

-- A number of blocks is within the frames of the first moment's pool, if it is within those of the last.
pub frames_same : {Q : Type 0} (q : QueueGhosts Q) (h : Header) (a b : Sweep) (next : ℕ)
    (x y z : Q) (j k : Standing) (w v e : Writer) {s t u : RigState} (c : Chain) {bound some left : Limits} {n : ℕ}
    → CanSweepPair q h a b next x w s c
    → SweepsList q h a 0 next (pair_held q x w s) (stored_account 0 c.blocks) c x y j w v bound some s t
    → SweepsList q h b c.count next (three_held q y v c t) (releasing c.blocks) c y z k v e some left t u
    → n ≤ u.pool.shape.frames → n ≤ s.pool.shape.frames
frames_same q h a b next x y z j k w v e c can f g l =
    let runs = pair_runs q h a b next x y z j k w v e c can f g in
    let shape = ap (λ (d : ShapeNumbers). d.frames) runs.runs.session.touches.shape in
    omega (arith, l, shape)
