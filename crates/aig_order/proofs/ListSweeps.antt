-- A sweep over a whole list: a frame is lent before, and comes back after.
use Rattle.std.proofs.Common.{◌≡◌, ℕ, ◌+◌, ◌*◌, ◌≤◌, Bool, true, false, if◌then◌else◌, true≢false, List, [], ◌∷◌, ◌++◌, length, IsTrue, Result, Ok, Err, OnOk, ap, ap₂, refl, subst, sym, ◌∙◌, arith}
use Rattle.std.proofs.lemmas.List.{append-nil}
use Rattle.em_record.specs.Shape.{ShapeNumbers, fan_of}
use Rattle.em_record.specs.declared.record.Record.{Record}
use Rattle.em_frames.specs.Pool.{singles_of}
use Rattle.em_space.specs.Held.{Apart, Holds}
use Rattle.em_space.specs.Ledger.{Account, both}
use Rattle.em_space.specs.Queue.{QueueCounts, Shares}
use Rattle.em_space.specs.Rig.{RigState, BlockCause, Goes}
use Rattle.em_space.specs.declared.fault.EmFault.{EmFault}
use Rattle.em_space.specs.declared.queue.Queue.{Ghosts as QueueGhosts}
use Rattle.em_space.proofs.Held.{apart_none}
use Rattle.em_space.proofs.Lists.{apart_left, apart_right, apart_sym, distinct_apart}
use Rattle.em_space.proofs.Sessions.{session_as, session_still}
use Rattle.em_chain.specs.Chain.{ChainStays, chain_blocks, chain_items, payload_in}
use Rattle.em_chain.specs.Counts.{ceiling}
use Rattle.em_chain.specs.Effects.{GivesFrame, LendsFrame, Unmoved}
use Rattle.em_chain.specs.Reader.{IsReader, owed, reader_items, rest_of}
use Rattle.em_chain.specs.Reads.{Opens}
use Rattle.em_chain.specs.Row.{Frees}
use Rattle.em_chain.specs.Session.{writer_account}
use Rattle.em_chain.specs.Writer.{IsWriter, WriterStays, filled, writer_blocks}
use Rattle.em_chain.specs.declared.chain.Chain.{Chain}
use Rattle.em_chain.specs.declared.reader.Reader.{Reader}
use Rattle.em_chain.specs.declared.writer.Writer.{Writer}
use Rattle.em_chain.proofs.Keeps.{has_kept, payload_kept}
use Rattle.em_chain.proofs.Laws.{writer_stays}
use Rattle.em_chain.proofs.Parts.{has_lent}
use Rattle.em_chain.proofs.Readers.{length_left}
use Rattle.em_queued.specs.Popped.{grown_blocks}
use Rattle.em_queued.specs.Queued.{RunsBeside}
use Rattle.em_queued.proofs.Popped.{grown_low}
use Rattle.em_queued.proofs.Queued.{apart_after, beside_holds, beside_then, beside_wider, shares_frames, stops_then, stops_wider}
use Rattle.aig_defs.specs.declared.circuit.Header.{Header}
use Rattle.aig_edges.specs.Accounts.{releasing, stored_account}
use Rattle.aig_edges.proofs.Pushed.{CoversAccount, beside_lent, beside_like, discard_refused, discards, stops_lent, stops_like}
use Rattle.aig_order.specs.declared.limits.Limits.{Limits}
use Rattle.aig_order.specs.declared.standing.Standing.{Standing}
use Rattle.aig_order.specs.declared.standing.Sweep.{Sweep}
use Rattle.aig_order.specs.SweepCalls.{CanSweep, Fits, Meets, StopsSweeping, Sweeps, SweepsTo, sweep_account, sweep_blocks, sweep_calls, sweep_written}
use Rattle.aig_order.specs.SweepLists.{CanSweepList, ListTo, StopsList, SweepsList, pair_held, three_held}
use Rattle.aig_order.specs.Sweeps.{at_constant}
use Rattle.aig_order.proofs.Reading.{holds_front, meets_from, stops_with_account, with_account}

-- A call left a queue's items and blocks, and a list that is written.
pub record Keeps {Q : Type 0} (q : QueueGhosts Q) (x : Q) (w : Writer) (s t : RigState) : Type 0
  where
    pub told : t.device.told ≡ s.device.told
    pub items : IsTrue s.device.told → q.items x t ≡ q.items x s
    pub blocks : IsTrue s.device.told → q.blocks x t ≡ q.blocks x s
    pub list : WriterStays s t w

-- It lent a frame,
pub lent_keeps : {Q : Type 0} (q : QueueGhosts Q) (x : Q) (w : Writer) {s t : RigState}
    → LendsFrame s t → IsWriter s w → (IsTrue s.device.told → q.items x t ≡ q.items x s)
    → (IsTrue s.device.told → q.blocks x t ≡ q.blocks x s) → Keeps q x w s t
lent_keeps q x w {s} {t} l i items blocks = record {
  told = l.touches.told;
  items = items;
  blocks = blocks;
  list = writer_stays [] s t w l.touches (λ z. apart_none (writer_blocks s w))
      (has_lent 1 (length w.frame) s.pool t.pool l.frames i.frame) i;
}

-- or took one back.
pub given_keeps : {Q : Type 0} (q : QueueGhosts Q) (x : Q) (w : Writer) {s t : RigState}
    → GivesFrame [] s t → IsWriter s w → s.pool.free + 2 ≤ singles_of s.pool.shape
    → (IsTrue s.device.told → q.items x t ≡ q.items x s)
    → (IsTrue s.device.told → q.blocks x t ≡ q.blocks x s) → Keeps q x w s t
given_keeps q x w {s} {t} l i out items blocks = record {
  told = l.touches.told;
  items = items;
  blocks = blocks;
  list = writer_stays [] s t w l.touches (λ z. apart_none (writer_blocks s w))
      (record {
        len_is = i.frame.len_is ∙ ap (λ (z : ShapeNumbers). z.block) (sym l.frames.shape);
        out = let shape = ap singles_of l.frames.shape in omega (arith, shape, l.frames.free, out);
      }) i;
}

-- The same moments between an earlier and a later time.
pub meets_to : {Q : Type 0} (q : QueueGhosts Q) (h : Header) (sweep : Sweep) (n : ℕ)
    (rs : List Record) (x y : Q) (p j : Standing) {w v : Writer} {s t u : RigState}
    → Meets q h sweep n rs x y p j w v s t → Keeps q y v t u
    → Meets q h sweep n rs x y p j w v s u
meets_to q h sweep n rs x y p j {w} {v} {s} {t} {u} g k = record {
  told = k.told ∙ g.told;
  is = k.list.is;
  moment = λ z.
      ap₂ (λ (is : List Record) (ws : List Record).
      record { items = is; standing = j; written = ws }) (k.items (g.told ∙ z))
      (k.list.items (g.told ∙ z)) ∙ g.moment z;
  packed = λ z c. k.list.packed (g.told ∙ z) (g.packed z c);
  filled_is = omega (arith, g.filled_is, k.list.filled_is);
  count_is = g.count_is;
  grows = g.grows;
  more = g.more;
  len = g.len;
}

over_blocks : (n : ℕ) (a : Bool) → a ≡ false → (if a then n else 0) ≡ 0
over_blocks n true e = absurd (true≢false e)
over_blocks n false e = refl

taking_blocks : (n : ℕ) (a : Bool) → a ≡ true → (if a then n else 0) ≡ n
taking_blocks n true e = refl
taking_blocks n false e = absurd (true≢false (sym e))

over_held : (xs ks : List ℕ) (a : Bool) → a ≡ false → xs ++ (if a then ks else []) ≡ xs
over_held xs ks true e = absurd (true≢false e)
over_held xs ks false e = append-nil xs

taking_held : (xs ks : List ℕ) (a : Bool) → a ≡ true → xs ++ (if a then ks else []) ≡ xs ++ ks
taking_held xs ks true e = refl
taking_held xs ks false e = absurd (true≢false (sym e))

holds_last : {s : RigState} (xs ks : List ℕ) (a : Bool) → Holds s (xs ++ ks)
    → Holds s (xs ++ (if a then ks else []))
holds_last xs ks true h = h
holds_last xs ks false h = rw (append-nil xs) (holds_front xs ks h)

nil_of : {A : Type 0} (xs : List A) → length xs ≡ 0 → xs ≡ []
nil_of [] e = refl
nil_of (x ∷ xs) e = absurd (omega arith)

-- A frame was lent to a reader: the records may be met.
pub opened_can : {Q : Type 0} (q : QueueGhosts Q) (n : ℕ) (x : Q) (w : Writer) {taking : Bool}
    {s m : RigState} {c : Chain} {r : Reader} → CanSweepList q n x w s c → LendsFrame s m
    → Opens s m c taking r → Keeps q x w s m → CanSweep q c.count x w r m
opened_can q n x w {taking} {s} {m} {c} {r} can l o k =
    let js = pair_held q x w m in
    let ks = chain_blocks m (rest_of r) in
    let told = l.touches.told in
    let same : IsTrue s.device.told → js ++ ks ≡ three_held q x w c s =
    λ z. rw (k.blocks z, k.list.blocks z, o.blocks z) refl in
    let session = session_as (js ++ ks)
    (session_still (three_held q x w c s) l.sound l.touches can.holds) same in
    let holds : IsTrue m.device.told → Holds m (js ++ ks) = λ z. session.holds (sym told ∙ z) in
    let fan = ap fan_of l.frames.shape in
    let singles = ap singles_of l.frames.shape in
    let count = ap (λ (z : Chain). z.count) o.words in
    record {
      meets = record {
        notes = record {
          sound = l.sound;
          free = record {
            singles = omega (arith, fan, can.free.singles, l.frames.free);
            areas = omega (arith, can.free.areas, l.frames.free_areas);
            rack = l.frames.rack ∙ can.free.rack;
          };
          few = omega (arith, can.meets.notes.few, can.count);
          limit = omega (arith, can.meets.notes.limit, can.count);
        };
        writer = k.list.is;
        room = record {
          count = omega (arith, can.meets.room.count, can.count);
          blocks = omega (arith, can.meets.room.blocks, can.count);
        };
        holds = λ z. holds_front js ks (holds z);
        out = omega (arith, can.meets.out, singles, l.frames.free);
      };
      reader = o.is;
      count = omega (arith, count);
      apart = λ z. apart_sym js ks (distinct_apart js ks ((holds z).distinct z));
      holds = λ z. holds_last js ks r.taking (holds z);
      out = omega (arith, can.meets.out, singles, l.frames.free);
    }

-- They are within the limits, if those of the list are.
pub opened_fit : {taking : Bool} {s m : RigState} {c : Chain} {r : Reader} (sweep : Sweep)
    (bound : Limits) → Opens s m c taking r → m.device.told ≡ s.device.told
    → (IsTrue s.device.told → Fits sweep (chain_items s c) bound) → IsTrue m.device.told
    → Fits sweep (reader_items m r) bound
opened_fit sweep bound o told fits z =
    let old = sym told ∙ z in
    subst (λ (rs : List Record). Fits sweep rs bound) (sym (o.items old)) (fits old)

-- The frames that are out beside the queue's after a sweep.
pub swept_out : {Q : Type 0} (q : QueueGhosts Q) (h : Header) (sweep : Sweep) (i n l : ℕ) (x y : Q)
    (p j : Standing) {w v : Writer} {r k : Reader} {bound left : Limits} {s t : RigState}
    → CanSweep q l x w r s → Sweeps q h sweep i n x y p j w v r k bound left s t
    → t.pool.free + 2 ≤ singles_of t.pool.shape
swept_out q h sweep i n l x y p j can f =
    let shape = ap singles_of f.runs.runs.frames.shape in
    let free = f.runs.runs.frames.free in
    omega (arith, can.out, shape, free)

-- With all records met they are those of the list.
pub records_are : {Q : Type 0} (q : QueueGhosts Q) (h : Header) (sweep : Sweep) (i : ℕ) (x y : Q)
    (p j : Standing) {w v : Writer} {taking : Bool} {c : Chain} {r k : Reader}
    {bound left : Limits} {s m n : RigState} → Opens s m c taking r → m.device.told ≡ s.device.told
    → (f : Sweeps q h sweep i c.count x y p j w v r k bound left m n) → IsTrue s.device.told
    → f.records ≡ chain_items s c
records_are q h sweep i x y p j {c = c} {r} {k} {s = s} {m} {n} o told f z =
    let old = told ∙ z in
    let count = ap (λ (d : Chain). d.count) o.words in
    let none : reader_items n k ≡ [] = nil_of (reader_items n k)
    (length_left n k f.took.is (f.meets.told ∙ old)
    ∙ omega (arith, f.took.left_is, f.len, count)) in
    sym (sym (o.items z) ∙ f.took.items old ∙ ap (λ (ks : List Record). f.records ++ ks) none
    ∙ append-nil f.records)

-- A sweep over a list that stays,
over_first : {s m : RigState} {c : Chain} (w : Writer) {r : Reader} → Opens s m c false r
    → CoversAccount (both (writer_account w) (stored_account 0 c.blocks)) (sweep_account w r)
over_first w {r} o = record {
  blocks = let e = over_blocks r.blocks r.taking o.taking_is in omega (arith, e);
  unstored = refl;
  paid = refl;
  owed = let e = o.owed_is in omega (arith, e);
}

over_last : (v : Writer) (k : Reader) → k.taking ≡ false
    → CoversAccount (sweep_account v k) (writer_account v)
over_last v k e = record {
  blocks = let f = over_blocks k.blocks k.taking e in omega (arith, f);
  unstored = omega arith;
  paid = omega arith;
  owed = omega arith;
}

pub over_list : {Q : Type 0} (q : QueueGhosts Q) (h : Header) (sweep : Sweep) (i next : ℕ) (x y : Q)
    (j : Standing) {w v : Writer} {c : Chain} {r k : Reader} {bound left : Limits}
    {s m n t : RigState} → CanSweepList q c.count x w s c → LendsFrame s m → Unmoved s m
    → Opens s m c false r → Keeps q x w s m
    → Sweeps q h sweep i c.count x y (at_constant next) j w v r k bound left m n
    → GivesFrame [] n t → Unmoved n t → Keeps q y v n t
    → SweepsList q h sweep i next (pair_held q x w s) (stored_account 0 c.blocks) c x y j w v bound
    left s t
over_list q h sweep i next x y j {w} {v} {c} {r} {k} {s = s} {m} {n} {t} can l uno o a f g due b =
    let over = o.taking_is in
    let later = f.took.taking ∙ over in
    let none = over_blocks r.blocks r.taking over in
    let all = beside_lent (pair_held q x w s) (pair_held q y v t) can.meets.holds l uno
    (λ z. over_held (pair_held q x w m) (chain_blocks m (rest_of r)) r.taking over
    ∙ rw (a.blocks z, a.list.blocks z) refl)
    f.runs g due
    (λ z. rw (b.blocks z, b.list.blocks z) refl
    ∙ sym (over_held (pair_held q y v n) (chain_blocks n (rest_of k)) k.taking later)) in
    record {
      records = f.records;
      len = f.len;
      spent = f.spent;
      are = records_are q h sweep i x y (at_constant next) j o a.told f;
      meets = meets_to q h sweep i f.records x y (at_constant next) j
          (meets_from q h sweep i f.records x y (at_constant next) j a.told a.list a.items f.meets) b;
      runs = beside_wider (omega arith) (omega (arith, none)) (beside_like (over_first w o)
          (over_last v k later) all);
    }

same_grown : {s m : RigState} {w : Writer} (n : ℕ) → payload_in m ≡ payload_in s → WriterStays s m w
    → grown_blocks n m w ≡ grown_blocks n s w
same_grown n p k = ap₂ (λ (f : ℕ) (d : ℕ). ceiling (f + n) d) k.filled_is p

pub over_stops : {Q : Type 0} (q : QueueGhosts Q) (x y : Q) {w : Writer} {c : Chain} {r : Reader}
    {bound : Limits} {s m n t : RigState} {fault : EmFault} → LendsFrame s m → Unmoved s m
    → Opens s m c false r → Keeps q x w s m → StopsSweeping q x y w r bound m n fault
    → GivesFrame [] n t → Unmoved n t
    → StopsList q (pair_held q x w s) (stored_account 0 c.blocks) x y w bound s t fault
over_stops q x y {w} {c} {r} {s = s} {m} l uno o a f g due =
    let over = o.taking_is in
    let none = over_blocks r.blocks r.taking over in
    let same = same_grown f.written (payload_kept [] s m l.touches) a.list in
    record {
      calls = f.calls;
      written = f.written;
      calls_most = f.calls_most;
      written_most = f.written_most;
      stops = stops_wider (omega arith) (omega (arith, none, same)) (omega (arith, same)) (omega arith)
          (stops_like (over_first w o) (stops_lent (pair_held q x w s) l uno
          (λ z. over_held (pair_held q x w m) (chain_blocks m (rest_of r)) r.taking over
          ∙ rw (a.blocks z, a.list.blocks z) refl) f.stops g due));
    }

pub over_to : {Q : Type 0} (q : QueueGhosts Q) (h : Header) (sweep : Sweep) (i next : ℕ) (x y : Q)
    (w v : Writer) (c : Chain) (r k : Reader) (bound left : Limits) {s m n : RigState}
    (t : RigState) (result : Result Standing EmFault) → CanSweepList q c.count x w s c
    → LendsFrame s m → Unmoved s m → Opens s m c false r → Keeps q x w s m
    → SweepsTo q h sweep i c.count x y (at_constant next) w v r k bound left m n result
    → GivesFrame [] n t → Unmoved n t → OnOk result (Keeps q y v n t)
    → ListTo q h sweep i next (pair_held q x w s) (stored_account 0 c.blocks) c x y w v bound left s t
    result
over_to q h sweep i next x y w v c r k bound left t (Ok j) can l uno o a f g due b =
    over_list q h sweep i next x y j can l uno o a f g due b
over_to q h sweep i next x y w v c r k bound left t (Err e) can l uno o a f g due b =
    over_stops q x y l uno o a f g due

-- or one that is released: with no record left its first block isn't loaded.
unloaded_by : {s : RigState} {r : Reader} (b : Bool) → r.loaded ≡ b → r.taking ≡ true → IsReader s r
    → r.count ≡ 0 → owed r ≡ 2 * r.blocks
unloaded_by {s} {r} true e t is none =
    let l = (is.loaded e).count in absurd (omega (arith, l, none))
unloaded_by {s} {r} false e t is none = rw (e, t) (omega arith)

taking_first : {s m : RigState} {c : Chain} (w : Writer) {r : Reader} → Opens s m c true r
    → CoversAccount (both (writer_account w) (releasing c.blocks)) (sweep_account w r)
taking_first w {r} o = record {
  blocks =
      let words = ap (λ (z : Chain). z.blocks) o.words in
      let e = taking_blocks r.blocks r.taking o.taking_is in omega (arith, e, words);
  unstored = refl;
  paid = refl;
  owed = let e = o.owed_is in omega (arith, e);
}

-- All was read, and what was left of the list is a chain again.
pub taken_runs : {Q : Type 0} (q : QueueGhosts Q) (h : Header) (sweep : Sweep) (i next : ℕ)
    (x y : Q) (j : Standing) {w v : Writer} {c : Chain} {r k : Reader} {bound left : Limits}
    {s m n t : RigState} → CanSweepList q c.count x w s c → LendsFrame s m → Unmoved s m
    → Opens s m c true r → Keeps q x w s m
    → (f : Sweeps q h sweep i c.count x y (at_constant next) j w v r k bound left m n)
    → GivesFrame [] n t → Unmoved n t → Keeps q y v n t → ChainStays n t (rest_of k)
    → RunsBeside (sweep_calls sweep f.records) (v.blocks + c.blocks) (three_held q x w c s)
    (pair_held q y v t ++ chain_blocks t (rest_of k)) (both (writer_account w) (releasing c.blocks))
    (both (writer_account v) (releasing k.blocks)) (q.counts x) (q.counts y) s t
taken_runs q h sweep i next x y j {w} {v} {c} {r} {k} {s = s} {m} {n} {t} can l uno o a f g due b st =
    let taking = o.taking_is in
    let later = f.took.taking ∙ taking in
    let words = ap (λ (z : Chain). z.blocks) o.words in
    let count = ap (λ (z : Chain). z.count) o.words in
    let first = taking_blocks r.blocks r.taking taking in
    let last = taking_blocks k.blocks k.taking later in
    let none : k.count ≡ 0 = omega (arith, f.took.left_is, f.len, count) in
    let end : owed k ≡ 2 * k.blocks = unloaded_by k.loaded refl later f.took.is none in
    let all = beside_lent (three_held q x w c s) (pair_held q y v t ++ chain_blocks t (rest_of k))
    can.holds l uno
    (λ z. taking_held (pair_held q x w m) (chain_blocks m (rest_of r)) r.taking taking
    ∙ rw (a.blocks z, a.list.blocks z, o.blocks z) refl)
    f.runs g due
    (λ z. rw (b.blocks z, b.list.blocks z, st.blocks z) refl
    ∙ sym (taking_held (pair_held q y v n) (chain_blocks n (rest_of k)) k.taking later)) in
    beside_wider (omega arith) (omega (arith, first, words)) (beside_like (taking_first w o)
    (record {
      blocks = omega (arith, last);
      unstored = refl;
      paid = refl;
      owed = omega (arith, end);
    }) all)

-- Its blocks were released,
pub taken_list : {T Q : Type 0} (q : QueueGhosts Q) (h : Header) (sweep : Sweep) (i next : ℕ)
    (x y : Q) (j : Standing) {w v : Writer} {c : Chain} {r k : Reader} {bound left : Limits}
    {s m n t u : RigState} (done : T) → CanSweepList q c.count x w s c → LendsFrame s m
    → Unmoved s m → Opens s m c true r → Keeps q x w s m
    → Sweeps q h sweep i c.count x y (at_constant next) j w v r k bound left m n
    → GivesFrame [] n t → Unmoved n t → Keeps q y v n t → ChainStays n t (rest_of k)
    → (q.counts y).blocks ≤ (q.counts y).most → Goes (chain_blocks t (rest_of k)) t u
    → Frees k.blocks t u (Ok done) → Keeps q y v t u
    → SweepsList q h sweep i next (three_held q x w c s) (releasing c.blocks) c x y j w v bound left s
    u
taken_list q h sweep i next x y j {w} {v} {c} {r} {k} {s = s} {m} {n} {t} {u} done can l uno o a f g
    due b st most goes frees last =
    let one = taken_runs q h sweep i next x y j can l uno o a f g due b st in
    let words = ap (λ (z : Chain). z.blocks) o.words in
    let less = f.took.fewer in
    let two = with_account (writer_account v) (discards (rest_of k) (pair_held q y v t)
    (pair_held q y v u) done (beside_holds one) most goes frees
    (λ z. rw (last.blocks z, last.list.blocks z) refl)) in
    record {
      records = f.records;
      len = f.len;
      spent = f.spent;
      are = records_are q h sweep i x y (at_constant next) j o a.told f;
      meets = meets_to q h sweep i f.records x y (at_constant next) j
          (meets_to q h sweep i f.records x y (at_constant next) j
          (meets_from q h sweep i f.records x y (at_constant next) j a.told a.list a.items f.meets) b)
          last;
      runs = beside_wider (omega arith) (omega (arith, less, words)) (beside_like
          (record { blocks = refl; unstored = refl; paid = refl; owed = omega arith })
          (record {
            blocks = omega arith;
            unstored = omega arith;
            paid = omega arith;
            owed = omega arith;
          }) (beside_then one two));
    }

-- or weren't,
pub taken_refused : {T Q : Type 0} (q : QueueGhosts Q) (h : Header) (sweep : Sweep) (i next : ℕ)
    (x y : Q) (j : Standing) {w v : Writer} {c : Chain} {r k : Reader} {bound left : Limits}
    {s m n t u : RigState} {fault : EmFault} → CanSweepList q c.count x w s c → LendsFrame s m
    → Unmoved s m → Opens s m c true r → Keeps q x w s m
    → Sweeps q h sweep i c.count x y (at_constant next) j w v r k bound left m n
    → GivesFrame [] n t → Unmoved n t → Keeps q y v n t → ChainStays n t (rest_of k)
    → (q.counts y).blocks ≤ (q.counts y).most → (q.counts y).unstored ≤ t.pool.shape.frames
    → Goes (chain_blocks t (rest_of k)) t u → Frees {T = T} k.blocks t u (Err fault)
    → BlockCause t u fault
    → StopsList q (three_held q x w c s) (releasing c.blocks) x y w bound s u fault
taken_refused {T} q h sweep i next x y j {w} {v} {c} {r} {k} {s = s} {m} {n} {t} {u} can l uno o a f g
    due b st most few goes frees cause =
    let one = taken_runs q h sweep i next x y j can l uno o a f g due b st in
    let words = ap (λ (z : Chain). z.blocks) o.words in
    let less = f.took.fewer in
    let same = same_grown (sweep_written sweep f.records) (payload_kept [] s m l.touches) a.list in
    let top : v.blocks ≤ grown_blocks 0 n v = grown_low 0 f.runs.runs.session.sound f.meets.is in
    let pay : payload_in n ≡ payload_in m =
    payload_kept (sweep_blocks q x w r m) m n f.runs.runs.session.touches in
    let sum : filled n v + 0 ≡ filled m w + sweep_written sweep f.records =
    omega (arith, f.meets.filled_is) in
    let all : grown_blocks 0 n v ≡ grown_blocks (sweep_written sweep f.records) m w =
    ap₂ (λ (d : ℕ) (e : ℕ). ceiling d e) sum pay in
    let low : v.blocks ≤ grown_blocks (sweep_written sweep f.records) s w =
    omega (arith, top, all, same) in
    let two = stops_with_account (writer_account v) (discard_refused {T = T} (rest_of k)
    (pair_held q y v t) most few goes frees cause) in
    record {
      calls = sweep_calls sweep f.records;
      written = sweep_written sweep f.records;
      calls_most = let e = f.spent.calls in omega (arith, e);
      written_most = let e = f.spent.records in omega (arith, e);
      stops = stops_wider (omega arith) (omega (arith, low, less, words)) (omega (arith, low))
          (omega arith) (stops_then one two);
    }

-- or not all records were met.
pub taken_stops : {Q : Type 0} (q : QueueGhosts Q) (x y : Q) {w : Writer} {c : Chain} {r : Reader}
    {bound : Limits} {s m n t : RigState} {fault : EmFault} → LendsFrame s m → Unmoved s m
    → Opens s m c true r → Keeps q x w s m → StopsSweeping q x y w r bound m n fault
    → GivesFrame [] n t → Unmoved n t
    → StopsList q (three_held q x w c s) (releasing c.blocks) x y w bound s t fault
taken_stops q x y {w} {c} {r} {s = s} {m} l uno o a f g due =
    let taking = o.taking_is in
    let words = ap (λ (z : Chain). z.blocks) o.words in
    let first = taking_blocks r.blocks r.taking taking in
    let same = same_grown f.written (payload_kept [] s m l.touches) a.list in
    record {
      calls = f.calls;
      written = f.written;
      calls_most = f.calls_most;
      written_most = f.written_most;
      stops = stops_wider (omega arith) (omega (arith, first, words, same)) (omega (arith, same))
          (omega arith)
          (stops_like (taking_first w o) (stops_lent (three_held q x w c s) l uno
          (λ z. taking_held (pair_held q x w m) (chain_blocks m (rest_of r)) r.taking taking
          ∙ rw (a.blocks z, a.list.blocks z, o.blocks z) refl) f.stops g due));
    }

-- What stays as the frame comes back, by the result of the sweep.
pub swept_keeps : {A Q : Type 0} (q : QueueGhosts Q) (h : Header) (sweep : Sweep) (i l : ℕ) (x y : Q)
    (p : Standing) (w v : Writer) (r k : Reader) (bound left : Limits) {m n t : RigState}
    (result : Result Standing EmFault) → CanSweep q l x w r m
    → SweepsTo q h sweep i l x y p w v r k bound left m n result → GivesFrame [] n t → OnOk result A
    → (A → IsTrue n.device.told → q.items y t ≡ q.items y n)
    → (A → IsTrue n.device.told → q.blocks y t ≡ q.blocks y n) → OnOk result (Keeps q y v n t)
swept_keeps q h sweep i l x y p w v r k bound left (Ok j) can f g a items blocks =
    given_keeps q y v g f.meets.is (swept_out q h sweep i l l x y p j can f) (items a) (blocks a)
swept_keeps q h sweep i l x y p w v r k bound left (Err e) can f g a items blocks = tt

pub swept_shares : {Q : Type 0} (q : QueueGhosts Q) (h : Header) (sweep : Sweep) (i l : ℕ) (x y : Q)
    (p : Standing) (w v : Writer) (r k : Reader) (bound left : Limits) (m n : RigState)
    (result : Result Standing EmFault) → SweepsTo q h sweep i l x y p w v r k bound left m n result
    → Shares (q.counts x) (q.counts y) m.pool n.pool
swept_shares q h sweep i l x y p w v r k bound left m n (Ok j) f =
    shares_frames f.runs.runs.frames f.runs.calls_on.frames f.runs.calls_on.areas
swept_shares q h sweep i l x y p w v r k bound left m n (Err e) f = f.stops.frames

-- The queue's blocks are none of those that are left of a list, nor are those of the written one.
pub queue_after : {i l : ℕ} {Q : Type 0} (q : QueueGhosts Q) (y : Q) (v : Writer) (d : Chain)
    {held : List ℕ} {a b : Account} {e f : QueueCounts} {s t : RigState}
    → RunsBeside i l held (pair_held q y v t ++ chain_blocks t d) a b e f s t
    → IsTrue t.device.told → Apart (q.blocks y t) (chain_blocks t d)
queue_after q y v d {t = t} h z =
    apart_left (q.blocks y t) (writer_blocks t v) (chain_blocks t d)
    (apart_after (pair_held q y v t) (chain_blocks t d) h z)

-- What stays as they are released.
pub released_keeps : {i l : ℕ} {Q : Type 0} (q : QueueGhosts Q) (y : Q) (v : Writer) (d : Chain)
    {held : List ℕ} {a b : Account} {e f : QueueCounts} {s t u : RigState}
    → RunsBeside i l held (pair_held q y v t ++ chain_blocks t d) a b e f s t → IsWriter t v
    → Goes (chain_blocks t d) t u → (IsTrue t.device.told → q.items y u ≡ q.items y t)
    → (IsTrue t.device.told → q.blocks y u ≡ q.blocks y t) → Keeps q y v t u
released_keeps q y v d {t = t} {u} h i g items blocks = record {
  told = g.touches.told;
  items = items;
  blocks = blocks;
  list = writer_stays (chain_blocks t d) t u v g.touches
      (λ z. apart_right (q.blocks y t) (writer_blocks t v) (chain_blocks t d)
      (apart_after (pair_held q y v t) (chain_blocks t d) h z))
      (has_kept 1 (length v.frame) t.pool u.pool g.frames i.frame) i;
}
