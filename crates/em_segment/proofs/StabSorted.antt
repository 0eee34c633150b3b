-- The points of an interval list are put in order, beside the intervals.
use Rattle.std.proofs.Common.{◌≡◌, ℕ, ◌+◌, ◌*◌, max, List, [], ◌∷◌, ◌++◌, IsTrue, ap, refl, sym, ◌∙◌, arith, append_assoc}
use Rattle.em_record.specs.Order.{in_order, with_record}
use Rattle.em_record.specs.Shape.{ShapeNumbers, fan_of, payload_of}
use Rattle.em_record.specs.declared.record.Record.{Record}
use Rattle.em_frames.specs.Pool.{GivenFrames, PoolCounts}
use Rattle.em_space.specs.Held.{Holds}
use Rattle.em_space.specs.Queue.{CanServe}
use Rattle.em_space.specs.Rig.{RigState}
use Rattle.em_space.specs.declared.fault.EmFault.{EmFault}
use Rattle.em_space.specs.declared.queue.Queue.{Ghosts as QueueGhosts}
use Rattle.em_space.proofs.Lists.{apart_sym, distinct_apart}
use Rattle.em_chain.specs.Chain.{ChainStays, chain_blocks, chain_items, payload_in}
use Rattle.em_chain.specs.Counts.{ceiling}
use Rattle.em_chain.specs.Writer.{writer_items}
use Rattle.em_chain.specs.declared.chain.Chain.{Chain}
use Rattle.em_chain.proofs.Laws.{chain_stays}
use Rattle.em_queued.specs.Queued.{RunsBeside, StopsBeside}
use Rattle.em_queued.proofs.Queued.{beside_as}
use Rattle.em_sorting.specs.Accounts.{stored_account}
use Rattle.em_sorting.specs.Lacking.{AllLack}
use Rattle.em_sorting.specs.Pushes.{CanServeBeside}
use Rattle.em_sorting.specs.Sorts.{CanSort, IsSorted, sorting_moves}
use Rattle.em_sorting.proofs.Pushed.{beside_value, stops_value}
use Rattle.em_segment_model.specs.Lacking.{AllLack as AllLackOf}
use Rattle.em_segment_model.proofs.Distinct.{asked_lack}
use Rattle.em_segment_parts.specs.Accounts.{stored}
use Rattle.em_segment.specs.Answers.{call_blocks}
use Rattle.em_segment_parts.specs.Chains.{IsPackedChain}
use Rattle.em_segment.specs.Finishes.{CanFinish, ClosesBoth}
use Rattle.em_segment.specs.Stabs.{IsStab}
use Rattle.em_segment.specs.declared.stab.Stab.{Stab}
use Rattle.em_segment.proofs.Closing.{packed_stays}
use Rattle.em_segment_parts.proofs.Regrouping.{holds_first}
use Rattle.em_segment.proofs.StabStands.{StabHalts, StabStands, stands_stop, stands_then}

-- the same of the other crate's word
pub lack_same : (ys xs : List Record) → AllLackOf ys xs → AllLack ys xs
lack_same ys [] h = tt
lack_same ys (x ∷ xs) h = (h.0, lack_same (with_record x ys) xs h.1)

-- With both frames back there is one more than a queue's call asks.
pub more_free : {p q : PoolCounts} → CanServe p → GivenFrames 2 p q → CanServeBeside 1 q
more_free f g = record {
  singles = let e = ap fan_of g.shape in omega (arith, e, f.singles, g.free);
  areas = omega (arith, f.areas, g.free_areas);
  rack = g.rack ∙ f.rack;
}

-- what is held: the queue's blocks, those of the points and those of the intervals
held_apart : {Q : Type 0} (q : QueueGhosts Q) (x y : Q) {s t : RigState} {v : Stab}
    (points pieces : Chain) {p m n l b : ℕ} → StabStands q x y s t v p m n l (call_blocks t points pieces) b
    → IsTrue t.device.told → Holds t ((q.blocks y t ++ chain_blocks t points) ++ chain_blocks t pieces)
held_apart q x y {s} {t} {v} points pieces h z =
    rw (append_assoc (q.blocks y t) (chain_blocks t points) (chain_blocks t pieces))
    (h.session.holds (sym h.session.touches.told ∙ z))

-- The points may be put in order.
pub points_can : {Q : Type 0} (q : QueueGhosts Q) (x : Q) {s t : RigState} {v : Stab}
    {pieces points : Chain} {p m n l b : ℕ} → IsStab s v → CanFinish q x s v → ClosesBoth s t v pieces points
    → StabStands q x x s t v p m n l (call_blocks t points pieces) b → CanSort q x t points
points_can q x {s} {t} {v} {pieces} {points} is can c h = record {
  sound = c.session.sound;
  empty = can.empty;
  free = more_free can.free c.frames;
  most = let few = c.points_are.few in omega (arith, few);
  few = let few = c.points_are.few in omega (arith, can.few, few);
  chain = c.points_are.is;
  holds = λ z. holds_first (q.blocks x t ++ chain_blocks t points) (chain_blocks t pieces)
      (held_apart q x x points pieces h z);
  lacks = λ z.
      let old = sym c.session.touches.told ∙ z in
      rw (c.points_items old, is.has.stabs old) (lack_same [] _ (asked_lack is.given));
}

-- The points are in order, and the intervals stayed.
pub record HasSorted (s u : RigState) (v : Stab) (d pieces : Chain) : Type 0 where
  pub points_are : IsPackedChain u d
  pub pieces_are : IsPackedChain u pieces
  pub points_items : IsTrue s.device.told → chain_items u d ≡ in_order (writer_items s v.stabs)
  pub pieces_items : IsTrue s.device.told → chain_items u pieces ≡ writer_items s v.intervals
  pub points_count : d.count ≡ v.stabs.count
  pub pieces_count : pieces.count ≡ v.intervals.count
  pub points_blocks : d.blocks ≡ ceiling v.stabs.count (payload_in s)
  pub pieces_blocks : pieces.blocks ≡ v.intervals.blocks

pieces_stay : {Q : Type 0} (q : QueueGhosts Q) (x y : Q) {s t u : RigState} {v : Stab}
    {pieces points d : Chain} {p m n l b : ℕ} → IsPackedChain t pieces
    → StabStands q x x s t v p m n l (call_blocks t points pieces) b → IsSorted q x y points d t u
    → ChainStays t u pieces
pieces_stay q x y {s} {t} {u} {v} {pieces} {points} is h g =
    chain_stays (q.blocks x t ++ chain_blocks t points) t u pieces g.runs.runs.session.touches
    (λ z. apart_sym (q.blocks x t ++ chain_blocks t points) (chain_blocks t pieces)
    (distinct_apart (q.blocks x t ++ chain_blocks t points) (chain_blocks t pieces)
    ((held_apart q x x points pieces h z).distinct z))) is.is

pub has_sorted : {Q : Type 0} (q : QueueGhosts Q) (x y : Q) {s t u : RigState} {v : Stab}
    {pieces points d : Chain} {p m n l b : ℕ} → ClosesBoth s t v pieces points
    → StabStands q x x s t v p m n l (call_blocks t points pieces) b → IsSorted q x y points d t u
    → HasSorted s u v d pieces
has_sorted q x y {s} {t} {u} {v} {pieces} {points} {d} c h g =
    let told = c.session.touches.told in
    let later = g.runs.runs.session.touches.told in
    let kept = pieces_stay q x y c.pieces_are h g in
    record {
      points_are = record {
        is = g.is;
        packed = λ z. g.packed (sym later ∙ z);
        few = let few = c.points_are.few in omega (arith, few, g.count_is);
      };
      pieces_are = packed_stays later c.pieces_are kept;
      points_items = λ z. g.items (told ∙ z)
          ∙ ap (λ (xs : List Record). in_order xs) (c.points_items z);
      pieces_items = λ z. kept.items (told ∙ z) ∙ c.pieces_items z;
      points_count = g.count_is ∙ c.points_count;
      pieces_count = c.pieces_count;
      points_blocks = g.blocks_is ∙ ap (λ (n : ℕ). ceiling n (payload_in t)) c.points_count
          ∙ ap (λ (n : ℕ). ceiling v.stabs.count n) (ap (λ (z : ShapeNumbers). payload_of z) c.session.touches.shape);
      pieces_blocks = c.pieces_blocks;
    }

-- It is a step of the end of an interval list,
pub points_sorted : {Q : Type 0} (q : QueueGhosts Q) (x y : Q) {s t u : RigState} {v : Stab}
    {pieces points d : Chain} {p m n l : ℕ} → ClosesBoth s t v pieces points
    → StabStands q x x s t v p m n l (call_blocks t points pieces) (points.blocks + pieces.blocks)
    → IsSorted q x y points d t u → (q.counts x).since ≡ 0
    → StabStands q x y s u v
    (max p (points.blocks + ceiling points.count (payload_in t) + pieces.blocks))
    (m + (sorting_moves t points + 0)) (n + 2 * points.count) (max l (2 * points.count))
    (call_blocks u d pieces) (d.blocks + pieces.blocks)
points_sorted q x y {s} {t} {u} {v} {pieces} {points} {d} c h g none =
    let qs = q.blocks x t in
    let ps = chain_blocks t points in
    let is = chain_blocks t pieces in
    let kept = pieces_stay q x y c.pieces_are h g in
    let beside : RunsBeside (2 * points.count)
    (points.blocks + ceiling points.count (payload_in t) + pieces.blocks) ((qs ++ ps) ++ is)
    ((q.blocks y u ++ chain_blocks u d) ++ is)
    (stored_account (points.blocks + pieces.blocks) (sorting_moves t points))
    (stored_account (d.blocks + pieces.blocks) 0) (q.counts x) (q.counts y) t u =
    beside_value is (stored pieces.blocks)
    (record { blocks = refl; unstored = refl; paid = refl; owed = omega arith })
    (record { blocks = refl; unstored = refl; paid = refl; owed = refl }) (held_apart q x x points pieces h) g.runs in
    let joined : RunsBeside (2 * points.count)
    (points.blocks + ceiling points.count (payload_in t) + pieces.blocks) (qs ++ call_blocks t points pieces)
    (q.blocks y u ++ (chain_blocks u d ++ is))
    (stored_account (points.blocks + pieces.blocks) (sorting_moves t points))
    (stored_account (d.blocks + pieces.blocks) 0) (q.counts x) (q.counts y) t u =
    rw (append_assoc qs ps is, append_assoc (q.blocks y u) (chain_blocks u d) is) at beside in
    let whole = beside_as (q.blocks y u ++ call_blocks u d pieces) joined
    (λ z. ap (λ (ks : List ℕ). q.blocks y u ++ (chain_blocks u d ++ ks)) (kept.blocks z)) in
    stands_then q x x y h whole (record { blocks = refl; unstored = refl; paid = refl }) refl
    (omega (arith, none))

-- or it was refused.
pub points_refused : {Q : Type 0} (q : QueueGhosts Q) (x y : Q) {s t u : RigState} {v : Stab}
    (pieces points : Chain) {p m n l : ℕ} {fault : EmFault}
    → StabStands q x x s t v p m n l (call_blocks t points pieces) (points.blocks + pieces.blocks)
    → StopsBeside q.room (2 * points.count) (points.blocks + ceiling points.count (payload_in t)) 0 1
    (q.blocks x t ++ chain_blocks t points) (stored_account points.blocks (sorting_moves t points))
    (q.counts x) (q.counts y) t u fault
    → (q.counts x).since ≡ 0
    → StabHalts q x y s u v
    (max p (points.blocks + ceiling points.count (payload_in t) + pieces.blocks))
    (m + (sorting_moves t points + 0)) (n + 2 * points.count) (max l (2 * points.count)) fault
points_refused q x y {s} {t} {u} {v} pieces points {fault = fault} h g none =
    let qs = q.blocks x t in
    let ps = chain_blocks t points in
    let is = chain_blocks t pieces in
    let beside : StopsBeside q.room (2 * points.count)
    (points.blocks + ceiling points.count (payload_in t) + pieces.blocks) 0 1 ((qs ++ ps) ++ is)
    (stored_account (points.blocks + pieces.blocks) (sorting_moves t points)) (q.counts x) (q.counts y) t u
    fault =
    stops_value is (stored pieces.blocks)
    (record { blocks = refl; unstored = refl; paid = refl; owed = omega arith }) g in
    let joined : StopsBeside q.room (2 * points.count)
    (points.blocks + ceiling points.count (payload_in t) + pieces.blocks) 0 1
    (qs ++ call_blocks t points pieces)
    (stored_account (points.blocks + pieces.blocks) (sorting_moves t points)) (q.counts x) (q.counts y) t u
    fault = rw (append_assoc qs ps is) at beside in
    stands_stop q x x y h joined (record { blocks = refl; unstored = refl; paid = refl }) (omega arith)
    (omega (arith, none))
