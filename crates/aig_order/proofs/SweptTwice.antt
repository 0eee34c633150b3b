-- A list is begun, two sweeps write to it, and it is finished.
use Rattle.std.proofs.Common.{◌≡◌, ℕ, ◌+◌, ◌*◌, ◌≤◌, min, List, [], ◌∷◌, ◌++◌, length, IsTrue, ap, ap₂, refl, subst, sym, ◌∙◌, arith, Err}
use Rattle.std.proofs.lemmas.List.{append-nil}
use Rattle.em_record.specs.Shape.{fan_of}
use Rattle.em_record.specs.declared.record.Record.{Record}
use Rattle.em_frames.specs.Pool.{singles_of}
use Rattle.em_space.specs.Held.{Holds}
use Rattle.em_space.specs.Ledger.{Halts, Spends}
use Rattle.em_space.specs.Queue.{AreOut}
use Rattle.em_space.specs.Rig.{RigState, DeviceCause}
use Rattle.em_space.specs.declared.fault.EmFault.{EmFault}
use Rattle.em_space.specs.declared.queue.Queue.{Ghosts as QueueGhosts}
use Rattle.em_space.proofs.Held.{apart_none}
use Rattle.em_space.proofs.Sessions.{session_as, session_still}
use Rattle.em_chain.specs.Chain.{ChainStays, chain_blocks, chain_items, payload_in}
use Rattle.em_chain.specs.Counts.{ceiling}
use Rattle.em_chain.specs.Effects.{GivesFrame, LendsFrame, Unmoved}
use Rattle.em_chain.specs.Session.{chain_account, writer_account}
use Rattle.em_chain.specs.Writer.{filled, writer_blocks}
use Rattle.em_chain.specs.Writes.{Begins, Finishes}
use Rattle.em_chain.specs.declared.chain.Chain.{Chain}
use Rattle.em_chain.specs.declared.writer.Writer.{Writer}
use Rattle.em_chain.proofs.Counts.{writer_blocks_are}
use Rattle.em_chain.proofs.Keeps.{payload_kept}
use Rattle.em_chain.proofs.Laws.{chain_stays}
use Rattle.em_chain.proofs.Readers.{length_items}
use Rattle.em_queued.specs.Popped.{grown_blocks}
use Rattle.em_queued.proofs.Queued.{beside_wider, stops_wider}
use Rattle.aig_defs.specs.declared.circuit.Header.{Header}
use Rattle.aig_edges.specs.Accounts.{stored_account}
use Rattle.aig_edges.proofs.Besides.{beside_by}
use Rattle.aig_edges.proofs.Pushed.{stops_lent}
use Rattle.aig_order.specs.declared.limits.Limits.{Limits}
use Rattle.aig_order.specs.declared.standing.Sweep.{Sweep}
use Rattle.aig_order.specs.Passes.{BothFit, CanSweepTwice, SweepsBoth, SweepsTwice, after_both, at_start, bound_room, sweeping_moves}
use Rattle.aig_order.specs.SweepCalls.{moment_of}
use Rattle.aig_order.specs.SweepLists.{pair_held, three_held}
use Rattle.aig_order.specs.SweepPairs.{CanSweepPair, StopsPair, SweepsPair, after_pair}
use Rattle.aig_order.specs.Sweeps.{Moment, at_constant}
use Rattle.aig_order.proofs.Ended.{blocks_within, finish_runs, finish_stops, stops_by}
use Rattle.aig_order.proofs.Reading.{holds_front}

-- A frame was lent to a new list, and the queue stayed.
pub record Begun {Q : Type 0} (q : QueueGhosts Q) (x : Q) (w : Writer) (s m : RigState) : Type 0 where
  pub lends : LendsFrame s m
  pub unmoved : Unmoved s m
  pub begins : Begins m w
  pub out : AreOut (q.counts x) s.pool
  pub len : IsTrue s.device.told → (q.counts x).len ≡ length (q.items x s)
  pub items : IsTrue s.device.told → q.items x m ≡ q.items x s
  pub blocks : IsTrue s.device.told → q.blocks x m ≡ q.blocks x s

nil_of : {A : Type 0} (xs : List A) → length xs ≡ 0 → xs ≡ []
nil_of [] e = refl
nil_of (x ∷ xs) e = absurd (omega arith)

pub chain_kept : {Q : Type 0} (q : QueueGhosts Q) (h : Header) (a b : Sweep) (next : ℕ) (x : Q)
    {w : Writer} {s m : RigState} (c : Chain) → CanSweepTwice q h a b next x s c
    → Begun q x w s m → ChainStays s m c
chain_kept q h a b next x {s = s} {m} c can k =
    chain_stays [] s m c k.lends.touches (λ z. apart_none (chain_blocks s c)) can.chain

-- the blocks that are held stay the same
held_is : {Q : Type 0} (q : QueueGhosts Q) (h : Header) (a b : Sweep) (next : ℕ) (x : Q)
    (w : Writer) {s m : RigState} (c : Chain) → CanSweepTwice q h a b next x s c → Begun q x w s m
    → IsTrue s.device.told → three_held q x w c m ≡ q.blocks x s ++ chain_blocks s c
held_is q h a b next x w {s} {m} c can k z =
    let st = chain_kept q h a b next x c can k in
    rw (k.begins.held, append-nil (q.blocks x m), k.blocks z, st.blocks z) refl

-- and the moment is that before any record.
start_is : {Q : Type 0} (q : QueueGhosts Q) (h : Header) (a b : Sweep) (next : ℕ) (x : Q)
    (w : Writer) {s m : RigState} (c : Chain) → CanSweepTwice q h a b next x s c → Begun q x w s m
    → IsTrue s.device.told → moment_of q x (at_constant next) w m ≡ at_start next
start_is q h a b next x w {s} {m} c can k z =
    ap₂ (λ (is : List Record) (ws : List Record).
    record { items = is; standing = at_constant next; written = ws })
    (k.items z ∙ nil_of (q.items x s) (sym (k.len z) ∙ can.empty)) k.begins.items

pub after_is : {Q : Type 0} (q : QueueGhosts Q) (h : Header) (a b : Sweep) (next : ℕ) (x : Q)
    (w : Writer) {s m : RigState} (c : Chain) → CanSweepTwice q h a b next x s c → Begun q x w s m
    → IsTrue s.device.told
    → after_pair h a b next c.count (chain_items m c) (moment_of q x (at_constant next) w m)
    ≡ after_both h a b next (chain_items s c)
after_is q h a b next x w {s} {m} c can k z =
    let st = chain_kept q h a b next x c can k in
    ap₂ (λ (rs : List Record) (o : Moment). after_pair h a b next c.count rs o) (st.items z)
    (start_is q h a b next x w c can k z)
    ∙ ap (λ (n : ℕ). after_pair h a b next n (chain_items s c) (at_start next))
    (sym (length_items s c can.chain z))

-- Both sweeps may be made.
pub begun_can : {Q : Type 0} (q : QueueGhosts Q) (h : Header) (a b : Sweep) (next : ℕ) (x : Q)
    (w : Writer) {s m : RigState} (c : Chain) → CanSweepTwice q h a b next x s c → Begun q x w s m
    → CanSweepPair q h a b next x w m c
begun_can q h a b next x w {s} {m} c can k =
    let l = k.lends in
    let st = chain_kept q h a b next x c can k in
    let fan = ap fan_of l.frames.shape in
    let singles = ap singles_of l.frames.shape in
    let session = session_as (three_held q x w c m)
    (session_still (q.blocks x s ++ chain_blocks s c) l.sound l.touches can.holds)
    (held_is q h a b next x w c can k) in
    let holds : IsTrue m.device.told → Holds m (three_held q x w c m) =
    λ z. session.holds (sym l.touches.told ∙ z) in
    record {
      meets = record {
        notes = record {
          sound = l.sound;
          free = record {
            singles = omega (arith, fan, can.free.singles, l.frames.free);
            areas = omega (arith, can.free.areas, l.frames.free_areas);
            rack = l.frames.rack ∙ can.free.rack;
          };
          few = omega (arith, can.few);
          limit = omega (arith, can.empty, can.most);
        };
        writer = k.begins.is;
        room = record {
          count = omega (arith, k.begins.count, can.most);
          blocks = omega (arith, k.begins.blocks, can.most);
        };
        holds = λ z. holds_front (pair_held q x w m) (chain_blocks m c) (holds z);
        out = omega (arith, k.out.singles, singles, l.frames.free);
      };
      free = record {
        singles = omega (arith, fan, can.free.singles, l.frames.free);
        areas = omega (arith, can.free.areas, l.frames.free_areas);
        rack = l.frames.rack ∙ can.free.rack;
      };
      most = can.most;
      chain = st.is;
      holds = holds;
      none = λ z.
          let old = sym l.touches.told ∙ z in
          k.items old ∙ nil_of (q.items x s) (sym (k.len old) ∙ can.empty);
      empties = λ z.
          let old = sym l.touches.told ∙ z in
          ap (λ (o : Moment). o.items) (after_is q h a b next x w c can k old) ∙ can.empties old;
    }

pub begun_fits : {Q : Type 0} (q : QueueGhosts Q) (h : Header) (a b : Sweep) (next : ℕ) (x : Q)
    (w : Writer) {s m : RigState} (c : Chain) (bound : Limits) → CanSweepTwice q h a b next x s c
    → Begun q x w s m → (IsTrue s.device.told → BothFit a b (chain_items s c) bound)
    → IsTrue m.device.told → BothFit a b (chain_items m c) bound
begun_fits q h a b next x w c bound can k fits z =
    let old = sym k.lends.touches.told ∙ z in
    subst (λ (rs : List Record). BothFit a b rs bound)
    (sym ((chain_kept q h a b next x c can k).items old)) (fits old)

-- how many blocks the list takes
size_is : {Q : Type 0} (q : QueueGhosts Q) (h : Header) (a b : Sweep) (next : ℕ) (x y : Q)
    (last : ℕ) (w v : Writer) {s m n : RigState} (c : Chain) {bound : Limits} → Begun q x w s m
    → SweepsPair q h a b next c x y last w v bound m n → v.blocks ≡ ceiling v.count (payload_in s)
size_is q h a b next x y last w v {s} {m} {n} c k f =
    let r = f.runs.runs.session in
    let all : filled n v ≡ v.count =
    omega (arith, f.filled_is, f.count_is, k.begins.filled_is, k.begins.count) in
    writer_blocks_are n v r.sound.shape.block_low f.is
    ∙ ap₂ (λ (d : ℕ) (p : ℕ). ceiling d p) all
    (payload_kept (three_held q x w c m) m n r.touches ∙ payload_kept [] s m k.lends.touches)

-- They were made, and the list was finished,
pub twice_made : {Q : Type 0} (q : QueueGhosts Q) (h : Header) (a b : Sweep) (next : ℕ) (x y : Q)
    (last : ℕ) (w v : Writer) {s m n t : RigState} (c d : Chain) {bound : Limits}
    → CanSweepTwice q h a b next x s c → Begun q x w s m
    → SweepsPair q h a b next c x y last w v bound m n → GivesFrame (writer_blocks n v) n t
    → Finishes n t v d
    → Spends v.blocks (writer_account v) (chain_account (min v.blocks 1) d) n t
    → (IsTrue n.device.told → q.blocks y t ≡ q.blocks y n) → (q.counts y).since ≡ 0
    → SweepsBoth q h a b next bound x y c (record { list = d; next = last }) s t
twice_made q h a b next x y last w v {s} {m} {n} {t} c d can k f g e p blocks rests =
    let told = k.lends.touches.told in
    let st = chain_kept q h a b next x c can k in
    let size = size_is q h a b next x y last w v c k f in
    let all = finish_runs (q.blocks x s ++ chain_blocks s c) (three_held q x w c m) (q.blocks y n)
    (q.blocks y t) can.holds k.lends k.unmoved (held_is q h a b next x w c can k) f.runs g e p blocks
    (omega arith) in
    record {
      earlier = f.earlier;
      later = f.later;
      earlier_len = f.earlier_len;
      later_len = f.later_len;
      earlier_is = λ z. f.earlier_is (told ∙ z) ∙ st.items z;
      later_is = λ z. f.later_is (told ∙ z) ∙ st.items z;
      calls_most = f.calls_most;
      written_most = f.written_most;
      is = e.is;
      packed = λ z.
          e.packed (f.runs.runs.session.touches.told ∙ told ∙ z)
          (f.packed (told ∙ z) k.begins.packed);
      count_is = e.count_is ∙ omega (arith, f.count_is, k.begins.count);
      blocks_is = e.blocks_is ∙ size ∙ ap (λ (i : ℕ). ceiling i (payload_in s)) (sym e.count_is);
      empty = f.empty;
      rests = omega (arith, rests);
      items = λ z.
          e.items (f.runs.runs.session.touches.told ∙ told ∙ z) ∙ f.items (told ∙ z)
          ∙ ap (λ (o : Moment). o.written) (after_is q h a b next x w c can k z);
      next_is = λ z.
          f.next_is (told ∙ z)
          ∙ ap (λ (o : Moment). o.standing.next) (after_is q h a b next x w c can k z);
      runs = beside_by (stored_account c.blocks (sweeping_moves c.blocks d.blocks))
          (stored_account d.blocks 0) (omega (arith, k.begins.blocks)) refl
          (omega (arith, k.begins.blocks)) refl
          (omega (arith, k.begins.blocks, e.blocks_is))
          (beside_wider (omega arith) (omega (arith, e.blocks_is)) all);
    }

-- or it wasn't,
pub twice_unfinished : {Q : Type 0} (q : QueueGhosts Q) (h : Header) (a b : Sweep) (next : ℕ)
    (x y : Q) (last : ℕ) (w v : Writer) {s m n t : RigState} (c : Chain) {bound : Limits}
    {fault : EmFault} → CanSweepTwice q h a b next x s c → Begun q x w s m
    → SweepsPair q h a b next c x y last w v bound m n → (q.counts y).unstored ≤ n.pool.shape.frames
    → GivesFrame (writer_blocks n v) n t
    → Halts v.blocks (2 * v.blocks + min v.blocks 1) (min v.blocks 1) (writer_account v) n t fault
    → DeviceCause n t fault → SweepsTwice q h a b next bound x y c s t (Err fault)
twice_unfinished q h a b next x y last w v {s} {m} {n} {t} c {bound} can k f few g p cause =
    let low = can.sound.shape.block_low in
    let room : v.blocks ≤ bound_room s bound =
    blocks_within v.count bound.records (payload_in s)
    (omega (arith, f.count_is, k.begins.count, f.written_most)) (omega (arith, low))
    (size_is q h a b next x y last w v c k f) in
    stops_wider f.calls_most (omega (arith, room)) (omega arith) (omega arith)
    (stops_by (stored_account c.blocks (sweeping_moves c.blocks (bound_room s bound))) 0
    (omega (arith, k.begins.blocks)) (omega (arith, k.begins.blocks))
    (omega (arith, k.begins.blocks, room))
    (finish_stops v (q.blocks x s ++ chain_blocks s c) (three_held q x w c m) (q.blocks y n)
    can.holds k.lends k.unmoved (held_is q h a b next x w c can k) f.runs few g p cause (omega arith)))

-- or a sweep was refused.
pub twice_stops : {Q : Type 0} (q : QueueGhosts Q) (h : Header) (a b : Sweep) (next : ℕ)
    (x y : Q) (w : Writer) {s m n t : RigState} (c : Chain) {bound : Limits} {fault : EmFault}
    → CanSweepTwice q h a b next x s c → Begun q x w s m → StopsPair q c x y w bound m n fault
    → GivesFrame [] n t → Unmoved n t → SweepsTwice q h a b next bound x y c s t (Err fault)
twice_stops q h a b next x y w {s} {m} {n} {t} c {bound} can k f g due =
    let low = can.sound.shape.block_low in
    let size : grown_blocks f.written m w ≡ ceiling f.written (payload_in s) =
    ap₂ (λ (d : ℕ) (p : ℕ). ceiling d p) (omega (arith, k.begins.filled_is))
    (payload_kept [] s m k.lends.touches) in
    let room : grown_blocks f.written m w ≤ bound_room s bound =
    blocks_within f.written bound.records (payload_in s) f.written_most (omega (arith, low)) size in
    stops_wider f.calls_most (omega (arith, room)) (omega arith) (omega arith)
    (stops_by (stored_account c.blocks (sweeping_moves c.blocks (bound_room s bound))) 0
    (omega (arith, k.begins.blocks)) (omega (arith, k.begins.blocks))
    (omega (arith, k.begins.blocks, room))
    (stops_lent (q.blocks x s ++ chain_blocks s c) k.lends k.unmoved
    (held_is q h a b next x w c can k) f.stops g due))
