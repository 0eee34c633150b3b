-- The pairs of an interval list are found beside the queue, and put in order.
use Rattle.std.proofs.Common.{IfSome, IsTrue, List, ℕ, [], ap, arith, length, map, max, refl, sym, ◌*◌, ◌++◌, ◌+◌, ◌^◌, ◌∙◌, ◌≡◌, ◌≤◌}
use Rattle.std.proofs.lemmas.List.{length-map}
use Rattle.em_record.specs.Order.{in_order}
use Rattle.em_record.specs.Shape.{fan_of}
use Rattle.em_record.specs.declared.record.Record.{Record}
use Rattle.em_record.proofs.Order.{order_ascends}
use Rattle.em_model.specs.Stab.{NumberedInterval, intervals_after}
use Rattle.em_model.specs.StabAnswers.{stab_pairs}
use Rattle.em_model.specs.declared.command.Command.{Command}
use Rattle.em_model.proofs.Ascending.{Ascend-higher}
use Rattle.em_space.specs.Queue.{AreOut, CanServe}
use Rattle.em_space.specs.Rig.{RigState}
use Rattle.em_space.specs.declared.fault.EmFault.{EmFault}
use Rattle.em_space.specs.declared.queue.Queue.{Ghosts as QueueGhosts}
use Rattle.em_space.proofs.Lists.{distinct_right, in_use_right}
use Rattle.em_space.proofs.Paying.{pays_more}
use Rattle.em_space.proofs.Queues.{shares_same}
use Rattle.em_space.proofs.Within.{goes_wider, within_right}
use Rattle.em_chain.specs.Chain.{chain_blocks, chain_items, payload_in}
use Rattle.em_chain.specs.Counts.{ceiling}
use Rattle.em_chain.specs.Writer.{writer_items}
use Rattle.em_chain.specs.declared.chain.Chain.{Chain}
use Rattle.em_queued.specs.Queued.{StopsBeside}
use Rattle.em_queued.proofs.Queued.{beside_as, called_none, others_beside}
use Rattle.em_sorting.specs.Accounts.{stored_account}
use Rattle.em_sorting.specs.Sorts.{CanSort, IsSorted, sorting_moves}
use Rattle.em_queued.proofs.Room.{full_others}
use Rattle.em_segment_model.specs.Alike.{Alike}
use Rattle.em_segment_model.specs.Commands.{asked_from}
use Rattle.em_segment_model.specs.Points.{asked_record, interval_in, interval_record, pairs_due}
use Rattle.em_segment_model.proofs.Distinct.{pairs_lack}
use Rattle.em_segment_model.proofs.Finish.{due_answers, finish_answers, intervals_in_order}
use Rattle.em_segment_parts.specs.Accounts.{stored}
use Rattle.em_segment.specs.Answers.{call_blocks, due}
use Rattle.em_segment.specs.Finishes.{CanFinish, CanReportAll, ReportsAll, StopsReportingAll}
use Rattle.em_segment.specs.Stabs.{HasCommands, IsStab}
use Rattle.em_segment.specs.declared.stab.Stab.{Stab}
use Rattle.em_segment.proofs.AllReported.{alike_length}
use Rattle.em_segment.proofs.StabCalls.{pairs_length}
use Rattle.em_segment.proofs.StabSorted.{HasSorted, lack_same}
use Rattle.em_segment.proofs.StabStands.{StabHalts, StabStands, frames_room, stands_stop, stands_then}

-- The pairs that are due of the points in order are those of the commands.
pub due_is : {s u : RigState} {v : Stab} {d pieces : Chain} → HasSorted s u v d pieces
    → (cs : List Command) → HasCommands s v cs → IsTrue s.device.told
    → due u d pieces ≡ pairs_due (in_order (map asked_record (asked_from 0 0 cs)))
    (map interval_record (intervals_after [] cs))
due_is o cs has z = rw (o.points_items z, o.pieces_items z, has.stabs z, has.intervals z) refl

-- what holds what is due holds the answers
pub alike_answers : {s u : RigState} {v : Stab} {d pieces : Chain} → HasSorted s u v d pieces
    → (cs : List Command) → HasCommands s v cs → IsTrue s.device.told → (xs : List Record)
    → Alike xs (due u d pieces)
    → Alike xs (pairs_due (in_order (map asked_record (asked_from 0 0 cs)))
    (map interval_record (intervals_after [] cs)))
alike_answers o cs has z xs h = rw (due_is o cs has z) at h

-- as many are due as the commands have answers
pub due_length : {s u : RigState} {v : Stab} {d pieces : Chain} → HasSorted s u v d pieces
    → (cs : List Command) → HasCommands s v cs → IsTrue s.device.told
    → length (due u d pieces) ≡ length (stab_pairs cs)
due_length {u = u} {d = d} {pieces} o cs has z = alike_length (due_answers cs (due u d pieces)
    (alike_answers o cs has z (due u d pieces) (record { weighs = λ f. refl })))

-- All pairs may be found.
pub report_can : {Q : Type 0} (q : QueueGhosts Q) (x y : Q) {s u : RigState} {v : Stab} {d pieces : Chain}
    {p m n l b : ℕ} → IsStab s v → CanFinish q x s v → HasSorted s u v d pieces
    → StabStands q x y s u v p m n l (call_blocks u d pieces) b → CanReportAll u d pieces
report_can q x y {s} {u} {v} {d} {pieces} is can o h =
    let told = h.session.touches.told in
    let ks = call_blocks u d pieces in
    record {
      sound = h.session.sound;
      points_are = o.points_are;
      pieces_are = o.pieces_are;
      singles =
          let e = ap fan_of h.frames.shape in omega (arith, e, can.free.singles, h.frames.free);
      areas = omega (arith, can.free.areas, h.frames.free_areas);
      rack = h.frames.rack ∙ can.free.rack;
      blocks = λ z.
          let all = h.session.holds (sym told ∙ z) in record {
            in_use = in_use_right u (q.blocks y u) ks all.in_use;
            distinct = λ w. distinct_right (q.blocks y u) ks (all.distinct w);
          };
      ordered = λ z. rw (o.points_items (sym told ∙ z)) (order_ascends (writer_items s v.stabs));
      numbered = λ z.
          let old = sym told ∙ z in
          let few : length (intervals_after [] is.given) ≤ 2 ^ 40 =
          let a = length-map (intervals_after [] is.given) interval_record in
          let e = ap (λ (xs : List Record). length xs) (is.has.intervals old) in
          let c = pairs_length is.intervals old in
          omega (arith, a, e, c, is.few) in
          let items = o.pieces_items old ∙ is.has.intervals old in
          rw items (Ascend-higher (λ (i : NumberedInterval). i.number) 0
          (map interval_in (map interval_record (intervals_after [] is.given)))
          (length (intervals_after [] is.given)) (2 ^ 40) few (intervals_in_order is.given));
    }

-- All pairs were found: a step of the end of an interval list,
pub pairs_found : {Q : Type 0} (q : QueueGhosts Q) (x y : Q) {s u n : RigState} {v : Stab}
    {d pieces c : Chain} {p m i l : ℕ}
    → StabStands q x y s u v p m i l (call_blocks u d pieces) (d.blocks + pieces.blocks)
    → (r : ReportsAll u n d pieces c) → (q.counts y).blocks ≤ (q.counts y).most
    → (q.counts y).since ≡ 0 → (IsTrue u.device.told → q.blocks y n ≡ q.blocks y u)
    → StabStands q x y s n v (max p (r.peak + c.blocks)) (m + (0 + (2 * c.blocks + 1 + r.extra))) (i + 0)
    (max l 0) (chain_blocks n c) c.blocks
pairs_found q x y {s} {u} {n} {v} {d} {pieces} {c} h r most none same =
    stands_then q x y y h (beside_as (q.blocks y n ++ chain_blocks n c)
    (others_beside (q.blocks y u) (q.counts y) r.runs most
    (λ z. h.session.holds (sym h.session.touches.told ∙ z)))
    (λ z. ap (λ (ks : List ℕ). ks ++ chain_blocks n c) (same z)))
    (record { blocks = refl; unstored = refl; paid = refl }) refl (omega (arith, none))

-- or it was refused.
pub pairs_refused : {Q : Type 0} (q : QueueGhosts Q) (x y : Q) {s u n : RigState} {v : Stab}
    {d pieces : Chain} {p m i l : ℕ} {fault : EmFault}
    → StabStands q x y s u v p m i l (call_blocks u d pieces) (d.blocks + pieces.blocks)
    → (r : StopsReportingAll u n d pieces fault) → (q.counts y).blocks ≤ (q.counts y).most
    → (q.counts y).unstored ≤ (q.counts y).frames → AreOut (q.counts y) u.pool → CanServe u.pool
    → (IsTrue u.device.told → IfSome q.room (λ f. (q.counts y).most ≤ f u.pool.shape (q.counts y).k))
    → (q.counts y).since ≡ 0
    → StabHalts q x y s n v (max p (r.peak + ceiling r.tried (payload_in u)))
    (m + (0 + (2 * ceiling r.tried (payload_in u) + r.extra + 1))) (i + 0) (max l 0) fault
pairs_refused q x y {s} {u} {n} {v} {d} {pieces} {fault = fault} h r most stores out free fits none =
    let qs = q.blocks y u in
    let ks = call_blocks u d pieces in
    let g = r.stops in
    let k = g.halts in
    let room = frames_room h.session.sound stores out free in
    let beside : StopsBeside q.room 0 (r.peak + ceiling r.tried (payload_in u))
    (2 * ceiling r.tried (payload_in u) + r.extra + 1) 1 (qs ++ ks) (stored (d.blocks + pieces.blocks))
    (q.counts y) (q.counts y) u n fault = record {
      sound = g.goes.sound;
      touches = (goes_wider (qs ++ ks) ks u n (within_right u qs ks) g.goes).touches;
      frames = shares_same (q.counts y) u.pool n.pool g.goes.frames;
      called = called_none (q.counts y);
      most = omega (arith, most, k.most);
      moves = omega (arith, k.moves);
      pays = pays_more k.pays (omega (arith, room));
      cause = g.cause;
      full = full_others (q.counts y) fault most fits k g.cause;
    } in
    stands_stop q x y y h beside (record { blocks = refl; unstored = refl; paid = refl }) (omega arith)
    (omega (arith, none))

-- The pairs may be put in order.
pub pairs_can : {Q : Type 0} (q : QueueGhosts Q) (x y : Q) {s u n : RigState} {v : Stab}
    {d pieces c : Chain} {p m i l b : ℕ} → IsStab s v → CanFinish q x s v → HasSorted s u v d pieces
    → ReportsAll u n d pieces c
    → StabStands q x y s n v p m i l (chain_blocks n c) b → i ≤ 2 ^ 42 → (q.counts y).len ≡ 0
    → CanSort q y n c
pairs_can q x y {s} {u} {n} {v} {d} {pieces} {c} is can o r h few empty = record {
  sound = h.session.sound;
  empty = empty;
  free = record {
    singles = let e = ap fan_of h.frames.shape in omega (arith, e, can.free.singles, h.frames.free);
    areas = omega (arith, can.free.areas, h.frames.free_areas);
    rack = h.frames.rack ∙ can.free.rack;
  };
  most = r.few;
  few = omega (arith, h.n, can.few, few, r.few);
  chain = r.is;
  holds = λ z. h.session.holds (sym h.session.touches.told ∙ z);
  lacks = λ z.
      let old = sym h.session.touches.told ∙ z in
      let mid = sym r.runs.session.touches.told ∙ z in
      lack_same [] (chain_items n c) (pairs_lack is.given (chain_items n c)
      (due_answers is.given (chain_items n c)
      (alike_answers o is.given is.has old (chain_items n c) (r.alike mid))));
}

-- The pairs in order: the last step.
pub pairs_sorted : {Q : Type 0} (q : QueueGhosts Q) (x y w : Q) {s n t : RigState} {v : Stab}
    {c e : Chain} {p m i l : ℕ} → StabStands q x y s n v p m i l (chain_blocks n c) c.blocks
    → IsSorted q y w c e n t → (q.counts y).since ≡ 0
    → StabStands q x w s t v (max p (c.blocks + ceiling c.count (payload_in n)))
    (m + (sorting_moves n c + 0)) (i + 2 * c.count) (max l (2 * c.count)) (chain_blocks t e) e.blocks
pairs_sorted q x y w h g none = stands_then q x y w h g.runs
    (record { blocks = refl; unstored = refl; paid = refl }) refl (omega (arith, none))

pub pairs_unsorted : {Q : Type 0} (q : QueueGhosts Q) (x y w : Q) {s n t : RigState} {v : Stab}
    (c : Chain) {p m i l : ℕ} {fault : EmFault}
    → StabStands q x y s n v p m i l (chain_blocks n c) c.blocks
    → StopsBeside q.room (2 * c.count) (c.blocks + ceiling c.count (payload_in n)) 0 1
    (q.blocks y n ++ chain_blocks n c) (stored_account c.blocks (sorting_moves n c)) (q.counts y)
    (q.counts w) n t fault
    → (q.counts y).since ≡ 0
    → StabHalts q x w s t v (max p (c.blocks + ceiling c.count (payload_in n)))
    (m + (sorting_moves n c + 0)) (i + 2 * c.count) (max l (2 * c.count)) fault
pairs_unsorted q x y w c h g none = stands_stop q x y w h g
    (record { blocks = refl; unstored = refl; paid = refl }) (omega arith) (omega (arith, none))

-- They are the answers.
pub pairs_answer : {s u n : RigState} (t : RigState) {v : Stab} {d pieces c : Chain} (e : Chain) → HasSorted s u v d pieces
    → ReportsAll u n d pieces c → u.device.told ≡ s.device.told → n.device.told ≡ s.device.told
    → (IsTrue n.device.told → chain_items t e ≡ in_order (chain_items n c)) → IsTrue s.device.told
    → (cs : List Command) → HasCommands s v cs → chain_items t e ≡ stab_pairs cs
pairs_answer {n = n} t {c = c} e o r mid late items z cs has =
    items (late ∙ z) ∙ finish_answers cs (chain_items n c)
    (alike_answers o cs has z (chain_items n c) (r.alike (mid ∙ z)))
