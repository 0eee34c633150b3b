-- The steps of the end of an interval list over any queue, by the queue's laws.
use Rattle.std.proofs.Common.{◌≡◌, ℕ, ◌+◌, ◌*◌, ◌≤◌, max, List, ◌++◌, IfSome, IsTrue, Result, Ok, Err, OnOk, IfErr, IsErrAnd, ap, refl, subst, sym, ◌∙◌, arith}
use Rattle.em_record.specs.Shape.{ShapeNumbers, payload_of}
use Rattle.em_frames.specs.Pool.{GivenFrames, PoolCounts, singles_of}
use Rattle.em_model.specs.declared.command.Command.{Command}
use Rattle.em_space.specs.Held.{Apart}
use Rattle.em_space.specs.Queue.{AreOut, QueueCounts}
use Rattle.em_space.specs.Rig.{RigState, Sound, Touches}
use Rattle.em_space.specs.declared.fault.EmFault.{EmFault}
use Rattle.em_space.specs.declared.queue.Queue.{Ghosts as QueueGhosts}
use Rattle.em_space.proofs.Lists.{distinct_apart}
use Rattle.em_space.proofs.Queues.{out_same}
use Rattle.em_chain.specs.Chain.{chain_blocks, payload_in}
use Rattle.em_chain.specs.Counts.{ceiling}
use Rattle.em_chain.specs.declared.chain.Chain.{Chain}
use Rattle.em_queued.specs.Queued.{StopsBeside}
use Rattle.em_queued.specs.Room.{FullBeside}
use Rattle.em_sorting.specs.Accounts.{stored_account}
use Rattle.em_sorting.specs.Sorts.{IsSorted, SortsTo, sorting_moves}
use Rattle.em_tree_cost.specs.Shares.{stab_room}
use Rattle.em_segment.specs.Answers.{call_blocks}
use Rattle.em_segment.specs.Finishes.{AnswersStabsTo, CanFinish, ClosesBoth, ReportsAll, StabsCost, StopsClosing, StopsReportingAll}
use Rattle.em_segment.specs.Stabs.{HasCommands, IsStab, stab_account, stab_blocks, stab_size}
use Rattle.em_segment.specs.declared.stab.Stab.{Stab}
use Rattle.em_segment.proofs.StabEnds.{halts_costs, halts_full, halts_stops, stands_answers, stands_apart, stands_costs, stands_out, stands_serve}
use Rattle.em_segment.proofs.StabNumbers.{StabWithin, points_fill, within_found, within_lists, within_pairs}
use Rattle.em_segment.proofs.StabReported.{pairs_answer, pairs_found, pairs_refused, pairs_sorted, pairs_unsorted}
use Rattle.em_segment.proofs.StabSorted.{HasSorted, has_sorted, points_refused, points_sorted}
use Rattle.em_segment.proofs.StabStands.{StabHalts, StabStands, halts_closed, stands_closed}

-- The laws of a queue that the end of an interval list goes by.
pub record StabLaws {Q : Type 0} (q : QueueGhosts Q) : Type 0 where
  pub stays : (x : Q) (held : List ℕ) (s t : RigState) → q.IsQueue x s → Touches held s t
      → (IsTrue s.device.told → Apart (q.blocks x s) held) → AreOut (q.counts x) t.pool
      → q.IsQueue x t × (IsTrue s.device.told → q.items x t ≡ q.items x s)
      × (IsTrue s.device.told → q.blocks x t ≡ q.blocks x s)
  pub frames_stay : (x : Q) (held : List ℕ) (s t : RigState) → q.HasItsFrames x s → Touches held s t
      → AreOut (q.counts x) t.pool → q.HasItsFrames x t
  pub frames_of : (x : Q) (s : RigState) → q.IsQueue x s → q.HasItsFrames x s
  pub out : (x : Q) (s : RigState) → q.HasItsFrames x s → AreOut (q.counts x) s.pool
  pub since_none : (x : Q) (s : RigState) → q.IsQueue x s → (q.counts x).len ≡ 0
      → (q.counts x).since ≡ 0
  pub blocks_most : (x : Q) (s : RigState) → q.IsQueue x s → (q.counts x).blocks ≤ (q.counts x).most
  pub unstored_most : (x : Q) (s : RigState) → q.IsQueue x s
      → (q.counts x).unstored ≤ (q.counts x).frames
  pub fits : (x : Q) (s : RigState) → q.HasItsFrames x s → IsTrue s.device.told
      → IfSome q.room (λ f. (q.counts x).most ≤ f s.pool.shape (q.counts x).k)

-- the queue's frames are out once the two of the list are back
pub closed_out : {c : QueueCounts} {p r : PoolCounts} → p.free + c.frames + 2 ≤ singles_of p.shape
    → AreOut c p → GivenFrames 2 p r → AreOut c r
closed_out can o g = record {
  singles = let e = ap singles_of g.shape in omega (arith, e, can, g.free);
  areas = omega (arith, o.areas, g.free_areas);
}

-- Both lists are chains.
pub record AfterClose {Q : Type 0} (q : QueueGhosts Q) (x : Q) (s t : RigState) (v : Stab)
    (pieces points : Chain) : Type 0 where
  pub is : q.IsQueue x t
  pub stands : StabStands q x x s t v (points.blocks + pieces.blocks)
      (2 * (points.blocks + pieces.blocks) + 2) 0 0 (call_blocks t points pieces)
      (points.blocks + pieces.blocks)

pub after_close : {Q : Type 0} (q : QueueGhosts Q) (x : Q) {s t : RigState} {v : Stab}
    {pieces points : Chain} → StabLaws q → Sound s → q.IsQueue x s → CanFinish q x s v
    → ClosesBoth s t v pieces points → AfterClose q x s t v pieces points
after_close q x {s} {t} {v} laws h i can c =
    let kept = laws.stays x (stab_blocks s v) s t i c.session.touches
    (λ z. distinct_apart (q.blocks x s) (stab_blocks s v) ((can.holds z).distinct z))
    (closed_out can.out (laws.out x s (laws.frames_of x s i)) c.frames) in
    record { is = kept.0; stands = stands_closed q x h can (laws.blocks_most x s i) c kept.2 }

-- The points are in order.
pub record AfterSort {Q : Type 0} (q : QueueGhosts Q) (x y : Q) (s u : RigState) (v : Stab)
    (d pieces : Chain) : Type 0 where
  pub is : q.IsQueue y u
  pub has : HasSorted s u v d pieces
  pub peak : ℕ
  pub moved : ℕ
  pub calls : ℕ
  pub longest : ℕ
  pub stands : StabStands q x y s u v peak moved calls longest (call_blocks u d pieces)
      (d.blocks + pieces.blocks)
  pub empty : (q.counts y).len ≡ 0
  pub peak_most : peak ≤ v.intervals.blocks + 2 * v.stabs.blocks
  pub moved_most : moved ≤ 2 * v.intervals.blocks + 6 * v.stabs.blocks + 3
  pub calls_most : calls ≤ 2 * v.stabs.count
  pub longest_most : longest ≤ 2 * v.stabs.count

-- what putting the points in order takes, in numbers of the list
sort_size : {s t : RigState} {v : Stab} {pieces points : Chain} → Sound s → IsStab s v
    → ClosesBoth s t v pieces points → ceiling points.count (payload_in t) ≡ v.stabs.blocks
sort_size {s} {t} {v} {pieces} {points} h is c =
    ap (λ (n : ℕ). ceiling n (payload_in t)) c.points_count
    ∙ ap (λ (g : ShapeNumbers). ceiling v.stabs.count (payload_of g)) c.session.touches.shape
    ∙ sym (points_fill h is)

pub after_sort : {Q : Type 0} (q : QueueGhosts Q) (x y : Q) {s t u : RigState} {v : Stab}
    {pieces points d : Chain} → StabLaws q → Sound s → IsStab s v → q.IsQueue x s → CanFinish q x s v
    → ClosesBoth s t v pieces points → IsSorted q x y points d t u → q.IsQueue y u
    → AfterSort q x y s u v d pieces
after_sort q x y {s} {t} {u} {v} {pieces} {points} {d} laws h stab i can c g j =
    let a = after_close q x laws h i can c in
    let size = sort_size h stab c in
    let pb = c.pieces_blocks in
    let qb = c.points_blocks in
    let n = c.points_count in
    record {
      is = j;
      has = has_sorted q x y c a.stands g;
      peak = max (points.blocks + pieces.blocks)
          (points.blocks + ceiling points.count (payload_in t) + pieces.blocks);
      moved = 2 * (points.blocks + pieces.blocks) + 2 + (sorting_moves t points + 0);
      calls = 0 + 2 * points.count;
      longest = max 0 (2 * points.count);
      stands = points_sorted q x y c a.stands g (laws.since_none x s i can.empty);
      empty = g.empty;
      peak_most = omega (arith, size, pb, qb);
      moved_most = omega (arith, size, pb, qb);
      calls_most = omega (arith, n);
      longest_most = omega (arith, n);
    }

-- All pairs are found.
pub record AfterReport {Q : Type 0} (q : QueueGhosts Q) (x y : Q) (s u n : RigState) (v : Stab)
    (d pieces c : Chain) (a : AfterSort q x y s u v d pieces) (r : ReportsAll u n d pieces c) : Type 0
  where
    pub is : q.IsQueue y n
    pub stands : StabStands q x y s n v (max a.peak (r.peak + c.blocks))
        (a.moved + (0 + (2 * c.blocks + 1 + r.extra))) (a.calls + 0) (max a.longest 0) (chain_blocks n c)
        c.blocks

pub after_report : {Q : Type 0} (q : QueueGhosts Q) (x y : Q) {s u n : RigState} {v : Stab}
    {d pieces c : Chain} → StabLaws q → CanFinish q x s v → AreOut (q.counts x) s.pool
    → (a : AfterSort q x y s u v d pieces) → (r : ReportsAll u n d pieces c)
    → AfterReport q x y s u n v d pieces c a r
after_report q x y {s} {u} {n} {v} {d} {pieces} {c} laws can out a r =
    let kept = laws.stays y (call_blocks u d pieces) u n a.is r.runs.session.touches
    (stands_apart q x y a.stands)
    (out_same (q.counts y) u.pool n.pool (stands_out q x y can out a.stands) r.runs.frames) in
    record {
      is = kept.0;
      stands = pairs_found q x y a.stands r (laws.blocks_most y u a.is)
          (laws.since_none y u a.is a.empty) kept.2;
    }

-- A step was refused: what is said of the result.
pub record Refuses {Q : Type 0} (q : QueueGhosts Q) (x y : Q) (s t : RigState) (v : Stab)
    (result : Result Chain EmFault) : Type 0 where
  pub queue : OnOk result (q.IsQueue y t)
  pub answers : AnswersStabsTo q x y s t v result
  pub costs : IsTrue s.device.told → (cs : List Command) → HasCommands s v cs
      → StabsCost q x y s t v cs
  pub full : IsTrue s.device.told → (cs : List Command) → HasCommands s v cs
      → IfErr result (FullBeside q.room (stab_account v).blocks (stab_room s.pool.shape (stab_size v cs))
      (q.counts x) (q.counts y).k s)

pub refuses : {Q : Type 0} (q : QueueGhosts Q) (x y : Q) {s t : RigState} {v : Stab} {p m n l : ℕ}
    (result : Result Chain EmFault) (e : EmFault) → IsErrAnd result (λ f. f ≡ e)
    → StabHalts q x y s t v p m n l e
    → (IsTrue s.device.told → (cs : List Command) → HasCommands s v cs → StabWithin s v cs p m n l)
    → Refuses q x y s t v result
refuses q x y (Ok c) e i h w = absurd i
refuses q x y {s} {t} {v} {p} {m} {n} {l} (Err f) e i h w =
    let k = subst (λ (z : EmFault). StabHalts q x y s t v p m n l z) (sym i) h in
    record {
      queue = tt;
      answers = halts_stops q x y k;
      costs = λ z cs has. halts_costs q x y cs k (w z cs has);
      full = λ z cs has. halts_full q x y cs k (w z cs has);
    }

-- The lists were not closed,
pub close_refused : {Q : Type 0} (q : QueueGhosts Q) (x : Q) {s t : RigState} {v : Stab}
    {fault : EmFault} (result : Result Chain EmFault) → StabLaws q → Sound s → IsStab s v
    → q.IsQueue x s → CanFinish q x s v → StopsClosing s t v fault → IsErrAnd result (λ f. f ≡ fault)
    → Refuses q x x s t v result
close_refused q x {s} {t} {v} {fault} result laws h is i can c e =
    let has = laws.frames_of x s i in
    refuses q x x result fault e (halts_closed q x h can (laws.blocks_most x s i) (laws.unstored_most x s i)
    (laws.out x s has) (laws.fits x s has) c)
    (λ z cs has. within_lists cs h is (omega arith) (omega arith) (omega arith) (omega arith))

-- the points not put in order,
pub sort_refused : {Q : Type 0} (q : QueueGhosts Q) (x y : Q) {s t u : RigState} {v : Stab}
    {pieces points : Chain} {fault : EmFault} (result : Result Chain EmFault) → StabLaws q → Sound s
    → IsStab s v → q.IsQueue x s → CanFinish q x s v → ClosesBoth s t v pieces points
    → StopsBeside q.room (2 * points.count) (points.blocks + ceiling points.count (payload_in t)) 0 1
    (q.blocks x t ++ chain_blocks t points) (stored_account points.blocks (sorting_moves t points))
    (q.counts x) (q.counts y) t u fault
    → IsErrAnd result (λ f. f ≡ fault) → Refuses q x y s u v result
sort_refused q x y {s} {t} {u} {v} {pieces} {points} {fault} result laws h is i can c g e =
    let a = after_close q x laws h i can c in
    let size = sort_size h is c in
    let pb = c.pieces_blocks in
    let qb = c.points_blocks in
    let n = c.points_count in
    refuses q x y result fault e
    (points_refused q x y pieces points a.stands g (laws.since_none x s i can.empty))
    (λ z cs has. within_lists cs h is (omega (arith, size, pb, qb)) (omega (arith, size, pb, qb))
    (omega (arith, n)) (omega (arith, n)))

-- the pairs not found,
pub report_refused : {Q : Type 0} (q : QueueGhosts Q) (x y : Q) {s u n : RigState} {v : Stab}
    {d pieces : Chain} {fault : EmFault} (result : Result Chain EmFault) → StabLaws q → Sound s
    → IsStab s v → CanFinish q x s v → AreOut (q.counts x) s.pool
    → AfterSort q x y s u v d pieces → StopsReportingAll u n d pieces fault
    → IsErrAnd result (λ f. f ≡ fault) → Refuses q x y s n v result
report_refused q x y {s} {u} {n} {v} {d} {pieces} {fault} result laws h is can out a r e =
    let touches = a.stands.session.touches in
    refuses q x y result fault e
    (pairs_refused q x y a.stands r (laws.blocks_most y u a.is) (laws.unstored_most y u a.is)
    (stands_out q x y can out a.stands) (stands_serve q x y can.free a.stands)
    (laws.fits y u (laws.frames_of y u a.is)) (laws.since_none y u a.is a.empty))
    (λ z cs has. within_found cs h is a.has touches.shape (touches.told ∙ z) z has
    (r.within (touches.told ∙ z)) (r.few (touches.told ∙ z)) a.peak_most a.moved_most a.calls_most
    a.longest_most)

-- or the pairs put in order, or not.
pub last_sorted : {Q : Type 0} (q : QueueGhosts Q) (x y w : Q) {s u n : RigState} (t : RigState)
    {v : Stab} {d pieces c : Chain} (result : Result Chain EmFault) → StabLaws q → Sound s → IsStab s v
    → CanFinish q x s v → AreOut (q.counts x) s.pool → (a : AfterSort q x y s u v d pieces)
    → (r : ReportsAll u n d pieces c) → SortsTo q y w c n t result
    → OnOk result (q.IsQueue w t) → Refuses q x w s t v result
last_sorted q x y w {s} {u} {n} t {v} {d} {pieces} {c} (Ok e) laws h is can out a r g j =
    let b = after_report q x y laws can out a r in
    let touches = a.stands.session.touches in
    let last = b.stands.session.touches in
    let end = pairs_sorted q x y w b.stands g (laws.since_none y u a.is a.empty) in
    record {
      queue = j;
      answers = stands_answers q x y w end g last.told
          (pairs_answer t e a.has r touches.told last.told g.items);
      costs = λ z cs has. stands_costs q x w cs end
          (within_pairs cs h is a.has touches.shape last.shape b.stands.session.sound (touches.told ∙ z)
          (last.told ∙ z) z has r a.peak_most a.moved_most a.calls_most a.longest_most);
      full = λ z cs has. tt;
    }
last_sorted q x y w {s} {u} {n} t {v} {d} {pieces} {c} (Err fault) laws h is can out a r g j =
    let b = after_report q x y laws can out a r in
    let touches = a.stands.session.touches in
    let last = b.stands.session.touches in
    refuses q x w (Err fault) fault refl
    (pairs_unsorted q x y w c b.stands g (laws.since_none y u a.is a.empty))
    (λ z cs has. within_pairs cs h is a.has touches.shape last.shape b.stands.session.sound
    (touches.told ∙ z) (last.told ∙ z) z has r a.peak_most a.moved_most a.calls_most a.longest_most)
