-- A record is read beside a queue and a list that is written, and met.
use Rattle.std.proofs.Common.{◌≡◌, ℕ, ◌+◌, ◌*◌, ◌≤◌, Bool, true, false, true≢false, if◌then◌else◌, List, [], ◌∷◌, ◌++◌, length, IsTrue, Result, Ok, Err, ap, ap₂, refl, subst, sym, ◌∙◌, arith}
use Rattle.em_record.specs.declared.record.Record.{Record}
use Rattle.em_frames.specs.Pool.{singles_of}
use Rattle.em_space.specs.Held.{Apart, Holds}
use Rattle.em_space.specs.Ledger.{Account, Halts, both}
use Rattle.em_space.specs.Queue.{QueueCounts}
use Rattle.em_space.specs.Rig.{RigState, Goes, BlockCause}
use Rattle.em_space.specs.declared.fault.EmFault.{EmFault}
use Rattle.em_space.specs.declared.fault.EmFault.TheVariants.{Damaged}
use Rattle.em_space.specs.declared.queue.Queue.{Ghosts as QueueGhosts}
use Rattle.em_space.proofs.Ledgers.{full_never}
use Rattle.em_space.proofs.Lists.{apart_left, apart_right, distinct_apart, distinct_left, in_use_left}
use Rattle.em_space.proofs.Paying.{pays_kept, pays_more}
use Rattle.em_space.proofs.Steps.{block_cause, untold_by}
use Rattle.em_space.proofs.Within.{within_apart}
use Rattle.em_chain.specs.Chain.{chain_blocks, payload_in}
use Rattle.em_chain.specs.Counts.{ceiling}
use Rattle.em_chain.specs.Reader.{ReaderStays, reader_blocks, reader_items, rest_of}
use Rattle.em_chain.specs.Reads.{ReadCosts, Reads}
use Rattle.em_chain.specs.Session.{writer_account}
use Rattle.em_chain.specs.Writer.{WriterStays, writer_blocks}
use Rattle.em_chain.specs.declared.reader.Reader.{Reader}
use Rattle.em_chain.specs.declared.writer.Writer.{Writer}
use Rattle.em_chain.proofs.Keeps.{has_kept, payload_kept}
use Rattle.em_chain.proofs.Laws.{writer_stays}
use Rattle.em_chain.proofs.Readers.{reader_stays}
use Rattle.em_chain.proofs.Sessions.{took_one, took_stays, took_then}
use Rattle.em_queued.specs.Popped.{grown_blocks}
use Rattle.em_queued.specs.Queued.{RunsBeside, StopsBeside}
use Rattle.em_queued.specs.Room.{StatedRoom}
use Rattle.em_queued.proofs.Popped.{grown_low}
use Rattle.em_queued.proofs.Queued.{beside_as, beside_holds, beside_then, beside_wider, others_never, shares_frames, still_can_serve, stops_then, stops_wider}
use Rattle.em_queued.proofs.Room.{full_unneeded, full_wider}
use Rattle.aig_defs.specs.declared.circuit.Header.{Header}
use Rattle.aig_edges.specs.Pushes.{HasReader, reader_account}
use Rattle.aig_edges.proofs.Pushes.{IsBoth, ReadsRecord, beside_value, read_beside, stops_value}
use Rattle.aig_order.specs.declared.limits.Limits.{Limits}
use Rattle.aig_order.specs.declared.standing.Standing.{Standing}
use Rattle.aig_order.specs.declared.standing.Sweep.{Sweep}
use Rattle.aig_order.specs.SweepCalls.{CanMeet, CanSweep, Fits, LeftAfter, Meets, MeetsOne, MeetsTo, StopsSweeping, Sweeps, SweepsTo, calls_at, sweep_account, sweep_blocks, written_at}
use Rattle.aig_order.specs.Sweeps.{meet_all}

-- Another value's account is added, whose blocks are among those that are named.
pub with_account : {i p : ℕ} {ks js : List ℕ} {a b : Account} {c d : QueueCounts} {s t : RigState}
    (x : Account) → RunsBeside i p ks js a b c d s t
    → RunsBeside i (x.blocks + p) ks js (both x a) (both x b) c d s t
with_account x h =
    let k = h.runs.spends in
    record {
      runs = record {
        session = h.runs.session;
        frames = h.runs.frames;
        spends = record {
          held = omega (arith, k.held);
          used = omega (arith, k.used);
          most = omega (arith, k.most);
          moves = omega (arith, k.moves);
          later = k.later;
          pays = pays_more k.pays (omega arith);
        };
      };
      calls_on = h.calls_on;
    }

pub stops_with_account : {i p l u : ℕ} {ks : List ℕ} {a : Account} {c d : QueueCounts}
    {s t : RigState} {fault : EmFault} {room : StatedRoom} (x : Account)
    → StopsBeside room i p l u ks a c d s t fault
    → StopsBeside room i (x.blocks + p) (x.paid + l) (x.unstored + u) ks (both x a) c d s t fault
stops_with_account x h = record {
  sound = h.sound;
  touches = h.touches;
  frames = h.frames;
  called = h.called;
  most = omega (arith, h.most);
  moves = omega (arith, h.moves);
  pays = pays_more h.pays (omega arith);
  cause = h.cause;
  full = full_wider (omega arith) h.full;
}

-- Calls that ran, and then a fault that no call gave.
pub runs_stop : {i p : ℕ} {held ks : List ℕ} {a b : Account} {c d : QueueCounts} {s t : RigState}
    {fault : EmFault} {room : StatedRoom} → RunsBeside i p held ks a b c d s t
    → BlockCause s t fault → d.unstored ≤ s.pool.shape.frames
    → StopsBeside room i p b.paid b.unstored held a c d s t fault
runs_stop {s = s} {t} {fault} h e l =
    let k = h.runs.spends in
    record {
      sound = h.runs.session.sound;
      touches = h.runs.session.touches;
      frames = shares_frames h.runs.frames h.calls_on.frames h.calls_on.areas;
      called = h.calls_on.called;
      most = omega (arith, k.most);
      moves = omega (arith, k.moves);
      pays = pays_more k.pays (omega (arith, l));
      cause = block_cause s t fault e;
      full = full_unneeded s t fault e;
    }

pub both_is : (a x : Account) → IsBoth (both a x) a x
both_is a x = record {
  blocks = omega arith;
  unstored = omega arith;
  paid = omega arith;
  owed = omega arith;
}

-- A reader has no more blocks than before.
fewer_by : {m n : ℕ} (a b : Bool) → b ≡ a → n ≤ m → (if b then n else 0) ≤ (if a then m else 0)
fewer_by true true e l = l
fewer_by true false e l = absurd (true≢false (sym e))
fewer_by false true e l = absurd (true≢false e)
fewer_by false false e l = omega arith

pub fewer : (r k : Reader) → k.taking ≡ r.taking → k.blocks ≤ r.blocks
    → (reader_account k).blocks ≤ (reader_account r).blocks
fewer r k e l = fewer_by r.taking k.taking e l

pub holds_front : {s : RigState} (ks js : List ℕ) → Holds s (ks ++ js) → Holds s ks
holds_front {s} ks js h = record {
  in_use = in_use_left s ks js h.in_use;
  distinct = λ z. distinct_left ks js (h.distinct z);
}

-- a queue that holds a list's blocks too
abbrev pub with_list : {Q : Type 0} → QueueGhosts Q → Writer → QueueGhosts Q
with_list q w = record q { blocks = λ x s. q.blocks x s ++ writer_blocks s w }

pub has_reader : {Q : Type 0} (q : QueueGhosts Q) (n : ℕ) (x : Q) (w : Writer) (r : Reader)
    {s : RigState} → CanSweep q n x w r s → HasReader (with_list q w) x s r
has_reader q n x w r can = record { is = can.reader; apart = can.apart; holds = can.holds }

-- The blocks of queue and list are none of the reader's.
pub apart_read : {Q : Type 0} (q : QueueGhosts Q) (n : ℕ) (x : Q) (w : Writer) (r : Reader)
    {s : RigState} → CanSweep q n x w r s → IsTrue s.device.told
    → Apart (q.blocks x s ++ writer_blocks s w) (reader_blocks s r)
apart_read q n x w r {s} can z =
    distinct_apart (q.blocks x s ++ writer_blocks s w) (reader_blocks s r) ((can.holds z).distinct z)

pub queue_apart : {Q : Type 0} (q : QueueGhosts Q) (n : ℕ) (x : Q) (w : Writer) (r : Reader)
    {s : RigState} → CanSweep q n x w r s → IsTrue s.device.told
    → Apart (q.blocks x s) (reader_blocks s r)
queue_apart q n x w r {s} can z =
    let qs = q.blocks x s in
    let ws = writer_blocks s w in
    let rs = reader_blocks s r in
    apart_left qs ws rs (apart_read q n x w r can z)

-- The list that is written stays while a record is read.
pub list_stays : {Q : Type 0} (q : QueueGhosts Q) (n : ℕ) (x : Q) (w : Writer) (r : Reader)
    {s t : RigState} → CanSweep q n x w r s → Goes (reader_blocks s r) s t → WriterStays s t w
list_stays q n x w r {s} {t} can g =
    let qs = q.blocks x s in
    let ws = writer_blocks s w in
    let rs = reader_blocks s r in
    writer_stays rs s t w g.touches
    (λ z. apart_right qs ws rs (apart_read q n x w r can z))
    (has_kept 1 (length w.frame) s.pool t.pool g.frames can.meets.writer.frame)
    can.meets.writer

-- A record was read,
pub record ReadsOne {Q : Type 0} (q : QueueGhosts Q) (x : Q) (w : Writer) (r k : Reader)
    (item : Record) (s t : RigState) : Type 0 where
  pub runs : RunsBeside 0 (w.blocks + (reader_account r).blocks) (sweep_blocks q x w r s)
      (sweep_blocks q x w k t) (sweep_account w r) (sweep_account w k) (q.counts x) (q.counts x) s t
  pub list : WriterStays s t w
  pub reads : Reads s t r k item
  pub same : IsTrue s.device.told → q.items x t ≡ q.items x s
  pub apart : IsTrue t.device.told
      → Apart (chain_blocks t (rest_of k)) (q.blocks x t ++ writer_blocks t w)

pub reads_one : {T Q : Type 0} (q : QueueGhosts Q) (x : Q) {s t : RigState} (w : Writer)
    {r k : Reader} {item : Record} (y : T) → CanSweep q 1 x w r s
    → (q.counts x).blocks ≤ (q.counts x).most → Goes (reader_blocks s r) s t → Reads s t r k item
    → ReadCosts s t r k (Ok y) → (IsTrue s.device.told → q.items x t ≡ q.items x s)
    → (IsTrue s.device.told → q.blocks x t ≡ q.blocks x s) → ReadsOne q x w r k item s t
reads_one q x {s} {t} w {r} {k} {item} y can m g h c items blocks =
    let st = list_stays q 1 x w r can g in
    let one : ReadsRecord (with_list q w) x r k item s t =
    read_beside (with_list q w) x y (has_reader q 1 x w r can) m g h c items
    (λ z. ap₂ (λ (ks : List ℕ) (js : List ℕ). ks ++ js) (blocks z) (st.blocks z)) in
    record {
      runs = with_account (writer_account w) one.runs;
      list = st;
      reads = h;
      same = items;
      apart = one.left.apart;
    }

-- which leaves what meeting it wants.
pub reads_can : {Q : Type 0} (q : QueueGhosts Q) (x : Q) {s t : RigState} (w : Writer)
    {r k : Reader} {item : Record} → CanSweep q 1 x w r s → ReadsOne q x w r k item s t
    → CanMeet q 1 x w t
reads_can q x {s} {t} w {r} {k} can h =
    let shape = ap singles_of h.runs.runs.frames.shape in
    let free = h.runs.runs.frames.free in
    record {
      notes = record {
        sound = h.runs.runs.session.sound;
        free = still_can_serve h.runs can.meets.notes.free;
        few = can.meets.notes.few;
        limit = can.meets.notes.limit;
      };
      writer = h.list.is;
      room = can.meets.room;
      holds = λ z. holds_front (q.blocks x t ++ writer_blocks t w) (reader_blocks t k)
          (beside_holds h.runs z);
      out = omega (arith, can.meets.out, shape, free);
    }

-- It wasn't read.
pub reads_refused : {T Q : Type 0} (q : QueueGhosts Q) (x : Q) {s t : RigState} (w : Writer)
    {r k : Reader} (bound : Limits) {fault : EmFault} → CanSweep q 1 x w r s
    → (q.counts x).blocks ≤ (q.counts x).most
    → (q.counts x).unstored ≤ s.pool.shape.frames → Goes (reader_blocks s r) s t
    → ReadCosts {T = T} s t r k (Err fault) → BlockCause s t fault
    → StopsSweeping q x x w r bound s t fault
reads_refused {T} q x {s} {t} w {r} {k} bound {fault} can m n g c e =
    let halts : Halts (reader_account r).blocks 0 0 (reader_account r) s t fault = record {
      used = let z = c.used_err in omega (arith, z);
      full = full_never s t fault _ e;
      most = let z = c.most in omega (arith, z);
      moves = let z = c.moves_err in omega (arith, z);
      later = g.touches.moves;
      pays = let z = c.used_err in pays_kept 0 (omega (arith, z)) g.touches.moves;
    } in
    let low = grown_low 0 can.meets.notes.sound can.meets.writer in
    record {
      calls = 0;
      written = 0;
      calls_most = omega arith;
      written_most = omega arith;
      stops = stops_wider (omega arith) (omega (arith, low)) (omega (arith, low)) (omega arith)
          (stops_with_account (writer_account w)
          (others_never (q.blocks x s ++ writer_blocks s w) (q.counts x) g halts e m n));
    }

-- The reader stays while the record is met.
pub reader_kept : {Q : Type 0} (q : QueueGhosts Q) (h : Header) (sweep : Sweep) (n : ℕ) (x y : Q)
    {p j : Standing} {s t u : RigState} {w v : Writer} {r k : Reader} {item : Record}
    → ReadsOne q x w r k item s t → MeetsOne q h sweep n item x y p j w v t u → ReaderStays t u k
reader_kept q h sweep n x y {t = t} {u} {w} {v} {r} {k} one g =
    let v = g.runs.runs in
    reader_stays (q.blocks x t ++ writer_blocks t w) t u k v.session.touches one.apart
    (has_kept 1 (length k.frame) t.pool u.pool v.frames one.reads.is.frame) one.reads.is

-- The same moment at an earlier time.
pub meets_from : {Q : Type 0} (q : QueueGhosts Q) (h : Header) (sweep : Sweep) (n : ℕ)
    (rs : List Record) (x y : Q) (p j : Standing) {w v : Writer} {s t u : RigState}
    → t.device.told ≡ s.device.told → WriterStays s t w
    → (IsTrue s.device.told → q.items x t ≡ q.items x s) → Meets q h sweep n rs x y p j w v t u
    → Meets q h sweep n rs x y p j w v s u
meets_from q h sweep n rs x y p j {w} {v} {s} {t} {u} told st same g = record {
  told = g.told ∙ told;
  is = g.is;
  moment = λ z. g.moment (told ∙ z)
      ∙ ap₂ (λ (is : List Record) (ws : List Record).
      meet_all h sweep n rs (record { items = is; standing = p; written = ws }))
      (same z) (st.items z);
  packed = λ z k. g.packed (told ∙ z) (st.packed z k);
  filled_is = omega (arith, g.filled_is, st.filled_is);
  count_is = g.count_is;
  grows = g.grows;
  more = g.more;
  len = g.len;
}

-- It was read and met,
pub next_one : {Q : Type 0} (q : QueueGhosts Q) (h : Header) (sweep : Sweep) (n : ℕ) (x y : Q)
    (p j : Standing) {s t u : RigState} {w v : Writer} {r k : Reader} {item : Record}
    {bound left : Limits} → ReadsOne q x w r k item s t → LeftAfter sweep (item ∷ []) bound left
    → MeetsOne q h sweep n item x y p j w v t u → Sweeps q h sweep n 1 x y p j w v r k bound left s u
next_one q h sweep n x y p j {s} {t} {u} {w} {v} {r} {k} {item} one spent g =
    let z = g.runs.runs in
    let st = reader_kept q h sweep n x y one g in
    let told = one.runs.runs.session.touches.told in
    let less = fewer r k one.reads.taking one.reads.fewer in
    let two = beside_as (sweep_blocks q y v k u)
    (beside_value (reader_blocks t k) (reader_account k)
    (both_is (writer_account w) (reader_account k)) (both_is (writer_account v) (reader_account k))
    (beside_holds one.runs) g.runs)
    (λ o. ap (λ (js : List ℕ). (q.blocks y u ++ writer_blocks u v) ++ (if k.taking then js else []))
    (st.blocks o)) in
    record {
      records = item ∷ [];
      len = refl;
      spent = spent;
      took = took_then (item ∷ []) [] (took_one (sweep_blocks q x w r s)
          one.runs.runs.session.touches one.reads)
          (took_stays (q.blocks x t ++ writer_blocks t w) z.session.touches st);
      meets = meets_from q h sweep n (item ∷ []) x y p j told one.list one.same g.meets;
      runs = beside_wider (omega arith) (omega (arith, less, g.meets.grows)) (beside_then one.runs two);
      apart = λ o.
          let old = sym z.session.touches.told ∙ o in
          rw (st.blocks old) (within_apart t (q.blocks x t ++ writer_blocks t w)
          (q.blocks y u ++ writer_blocks u v) (chain_blocks t (rest_of k)) old z.session.within
          (one.reads.is.chain.told old).holds.in_use (one.apart old));
    }

-- or not met.
pub next_refused : {Q : Type 0} (q : QueueGhosts Q) (sweep : Sweep) (x y : Q) {s t u : RigState}
    (w : Writer) (r k : Reader) (item : Record) {bound left : Limits} {fault : EmFault}
    → ReadsOne q x w r k item s t → LeftAfter sweep (item ∷ []) bound left
    → StopsBeside q.room (calls_at sweep item) (grown_blocks (written_at sweep item) t w)
    (2 * grown_blocks (written_at sweep item) t w) 1 (q.blocks x t ++ writer_blocks t w)
    (writer_account w) (q.counts x) (q.counts y) t u fault
    → w.blocks ≤ grown_blocks (written_at sweep item) s w
    → StopsSweeping q x y w r bound s u fault
next_refused q sweep x y {s} {t} {u} w r k item one spent g low =
    let pay : payload_in t ≡ payload_in s =
    payload_kept (sweep_blocks q x w r s) s t one.runs.runs.session.touches in
    let same : grown_blocks (written_at sweep item) t w ≡ grown_blocks (written_at sweep item) s w =
    ap₂ (λ (f : ℕ) (k : ℕ). ceiling (f + written_at sweep item) k) one.list.filled_is pay in
    let more = fewer r k one.reads.taking one.reads.fewer in
    record {
      calls = calls_at sweep item;
      written = written_at sweep item;
      calls_most = omega (arith, spent.calls);
      written_most = omega (arith, spent.records);
      stops = stops_wider (omega arith) (omega (arith, same, more, low)) (omega (arith, same))
          (omega arith)
          (stops_then one.runs (stops_value (reader_blocks t k) (reader_account k)
          (both_is (writer_account w) (reader_account k)) g));
    }

-- What reading and meeting it did, by the result of meeting.
pub next_to : {Q : Type 0} (q : QueueGhosts Q) (h : Header) (sweep : Sweep) (n : ℕ) (x y : Q)
    (p : Standing) {s t : RigState} (u : RigState) (w v : Writer) (r k : Reader) (item : Record)
    (bound left : Limits) (result : Result Standing EmFault) → CanSweep q 1 x w r s
    → ReadsOne q x w r k item s t → LeftAfter sweep (item ∷ []) bound left
    → MeetsTo q h sweep n item x y p w v t u result
    → SweepsTo q h sweep n 1 x y p w v r k bound left s u result
next_to q h sweep n x y p u w v r k item bound left (Ok j) can one spent g =
    next_one q h sweep n x y p j one spent g
next_to q h sweep n x y p u w v r k item bound left (Err e) can one spent g =
    next_refused q sweep x y w r k item one spent g
    (grown_low (written_at sweep item) can.meets.notes.sound can.meets.writer)

-- The first of records that fit fits by itself.
fits_first : (sweep : Sweep) (r : Record) (rs : List Record) (l : Limits) → Fits sweep (r ∷ rs) l
    → Fits sweep (r ∷ []) l
fits_first sweep r rs l f =
    record { calls = omega (arith, f.calls); records = omega (arith, f.records) }

-- It was read, and went past the limits, which no record of a device that tells does.
pub past_limits : {Q : Type 0} (q : QueueGhosts Q) (sweep : Sweep) (x : Q) {s t : RigState}
    (w : Writer) (r k : Reader) (item : Record) (bound : Limits) {fault : EmFault}
    → CanSweep q 1 x w r s → ReadsOne q x w r k item s t
    → (IsTrue s.device.told → Fits sweep (reader_items s r) bound)
    → (q.counts x).unstored ≤ s.pool.shape.frames → fault ≡ Damaged 0
    → (Fits sweep (item ∷ []) bound → ⊥) → StopsSweeping q x x w r bound s t fault
past_limits q sweep x {s} {t} w r k item bound {fault} can one fits few same past =
    let told = one.runs.runs.session.touches.told in
    let more = fewer r k one.reads.taking one.reads.fewer in
    let low = grown_low 0 can.meets.notes.sound can.meets.writer in
    let cause : BlockCause s t (Damaged 0) = (
      untold_by t.device.told (λ z.
          let old = sym told ∙ z in
          past (fits_first sweep item (reader_items t k) bound
          (subst (λ (rs : List Record). Fits sweep rs bound) (one.reads.items old) (fits old)))),
      one.runs.runs.session.sound.numbers.blocks_low,
    ) in
    record {
      calls = 0;
      written = 0;
      calls_most = omega arith;
      written_most = omega arith;
      stops = stops_wider (omega arith) (omega (arith, low)) (omega (arith, low)) (omega arith)
          (runs_stop one.runs (subst (λ (e : EmFault). BlockCause s t e) (sym same) cause) few);
    }
