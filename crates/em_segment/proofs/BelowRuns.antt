-- The strips of a node that were answered so far, from the last one on.
use Rattle.std.proofs.Common.{◌≡◌, ℕ, ◌+◌, ◌*◌, ◌≤◌, max, List, [], ◌∷◌, ◌++◌, length, refl, sym, ap, subst, ◌∙◌, arith, IsTrue, Result, Ok, Err, IsErrAnd}
use Rattle.std.proofs.lemmas.List.{append-nil, length-append}
use Rattle.std.proofs.lemmas.List.Sums.{sum_by-append}
use Rattle.std.proofs.Math.Nat.{mul-le-mul_right}
use Rattle.std.specs.List.{sum_by}
use Rattle.em_record.specs.Shape.{IsShape}
use Rattle.em_record.specs.declared.record.Record.{Record}
use Rattle.em_space.specs.Rig.{RigState}
use Rattle.em_space.specs.declared.fault.EmFault.{EmFault}
use Rattle.em_chain.specs.Chain.{payload_in}
use Rattle.em_chain.specs.Writer.{writer_blocks}
use Rattle.em_chain.specs.declared.chain.Chain.{Chain}
use Rattle.em_chain.specs.declared.writer.Writer.{Writer}
use Rattle.em_chain.proofs.Keeps.{payload_kept}
use Rattle.em_segment_model.specs.Alike.{Alike}
use Rattle.em_segment_model.specs.Bounds.{holds, pays}
use Rattle.em_segment_model.specs.Sizes.{fan_root, strip_levels}
use Rattle.em_segment_model.proofs.Cost.{child_pays, pays_rise}
use Rattle.em_segment_model.proofs.Levels.{levels_rise}
use Rattle.em_segment_model.proofs.Room.{child_holds, holds_rise}
use Rattle.em_segment.specs.Answers.{Answered, AnswersTo, StopsAnswering, due, weight}
use Rattle.em_segment.specs.Belows.{AnswersBelow, AnswersBelowTo, AnswersLast, AnswersLastTo, CanAnswerBelow, StopsBelow, StopsLast, below_due, below_weight, pieces_of, points_of, strips_blocks, strips_held}
use Rattle.em_segment_parts.specs.Chains.{chains_count, chains_in}
use Rattle.em_segment_parts.specs.Reports.{Reports}
use Rattle.em_segment.specs.declared.node.Below.{Below}
use Rattle.em_segment_parts.proofs.Alikes.{alike_length, alike_same}
use Rattle.em_segment.proofs.BelowAnswers.{TakesLast, last_count, last_due, last_length, last_reports, last_some, last_stops, last_weight, others_can, others_due, others_filled, others_weight}
use Rattle.em_segment.proofs.BelowLists.{chains_last, strips_filled}
use Rattle.em_segment.proofs.CallSizes.{max_within}
use Rattle.em_segment_parts.proofs.Parting.{reports_none, reports_as}
use Rattle.em_segment_parts.proofs.Parts.{reports_stop, reports_then}
use Rattle.em_segment_parts.proofs.Regrouping.{tally_is}

-- as much room as the calls of some strips may take
abbrev pub below_room : ℕ → RigState → Below → ℕ
below_room most s b =
    2 * chains_count (points_of b) + 3 * below_weight s b
    + (fan_root s.pool.shape * fan_root s.pool.shape + 6 * fan_root s.pool.shape + 4
    + 2 * length (points_of b)) * payload_in s
    + strip_levels s.pool.shape most * (2 * fan_root s.pool.shape * payload_in s)

-- as many moves, for this many points, pieces that weigh so much, this many pairs and strips
abbrev pub below_moves : ℕ → RigState → ℕ → ℕ → ℕ → ℕ → ℕ
below_moves most s X e F c =
    (strip_levels s.pool.shape most + 1) * (58 * X + 10 * e) + F + 4 * c * payload_in s

-- The last n strips were answered.
pub record BelowSoFar (most n : ℕ) (s t : RigState) (b d : Below) (w v : Writer) : Type 0 where
  pub written : List Record
  pub peak : ℕ
  pub extra : ℕ
  pub points : ℕ
  pub weighs : ℕ
  pub len : length (points_of d) + n ≡ length (points_of b)
  pub can : CanAnswerBelow most t d v
  pub reports : Reports peak extra (strips_blocks s (points_of b) (pieces_of b))
      (strips_blocks t (points_of d) (pieces_of d)) (strips_held (points_of b) (pieces_of b))
      (strips_held (points_of d) (pieces_of d)) s t w v written
  pub alike : IsTrue s.device.told → Alike (written ++ below_due t d) (below_due s b)
  pub count_is : points + chains_count (points_of d) ≡ chains_count (points_of b)
  pub weight_is : IsTrue s.device.told → weighs + below_weight t d ≡ below_weight s b
  pub moves : IsTrue s.device.told
      → extra * payload_in s ≤ below_moves most s points weighs (length written) n
  pub room : IsTrue s.device.told → peak * payload_in s ≤ below_room most s b

up : (k m n : ℕ) → m ≤ n → k * m ≤ k * n
up k m n l = let h = mul-le-mul_right k l in omega (arith, h)

-- numbers of what was done so far rise
moves_rise : (P r X Z e d F G c k : ℕ) → X ≤ Z → e ≤ d → F ≤ G → c ≤ k
    → (r + 1) * (58 * X + 10 * e) + F + 4 * c * P ≤ (r + 1) * (58 * Z + 10 * d) + G + 4 * k * P
moves_rise P r X Z e d F G c k x y f l =
    let a : (r + 1) * (58 * X + 10 * e) ≤ (r + 1) * (58 * Z + 10 * d) =
    up (r + 1) (58 * X + 10 * e) (58 * Z + 10 * d) (omega (arith, x, y)) in
    let b : 4 * c * P ≤ 4 * k * P = mul-le-mul_right P (omega (arith, l)) in
    omega (arith, a, b, f)

room_rises : (s P r X Z e d c k : ℕ) → X ≤ Z → e ≤ d → c ≤ k
    → 2 * X + 3 * e + (s * s + 6 * s + 4 + 2 * c) * P + r * (2 * s * P)
    ≤ 2 * Z + 3 * d + (s * s + 6 * s + 4 + 2 * k) * P + r * (2 * s * P)
room_rises s P r X Z e d c k x y l =
    let b : (s * s + 6 * s + 4 + 2 * c) * P ≤ (s * s + 6 * s + 4 + 2 * k) * P =
    mul-le-mul_right P (omega (arith, l)) in
    omega (arith, b, x, y)

alike_turn : {xs ds : List Record} (ws es : List Record) → Alike xs ds
    → Alike ((ws ++ xs) ++ es) (ws ++ (es ++ ds))
alike_turn {xs} {ds} ws es a = record {
  weighs = λ f.
      let p = sum_by-append f (ws ++ xs) es in
      let q = sum_by-append f ws xs in
      let m = sum_by-append f ws (es ++ ds) in
      let n = sum_by-append f es ds in
      let u = a.weighs f in
      omega (arith, p, q, m, n, u);
}

-- None yet,
pub below_none : {most : ℕ} {s : RigState} {b : Below} {w : Writer} → CanAnswerBelow most s b w
    → BelowSoFar most 0 s s b b w w
below_none {most} {s} {b} {w} can = record {
  written = [];
  peak = strips_held (points_of b) (pieces_of b);
  extra = 0;
  points = 0;
  weighs = 0;
  len = omega arith;
  can = can;
  reports = reports_none can.sound can.pairs can.blocks;
  alike = λ z. alike_same (below_due s b);
  count_is = omega arith;
  weight_is = λ z. omega arith;
  moves = λ z. omega arith;
  room = λ z.
      let f = strips_filled most s (points_of b) (pieces_of b) can.sound can.are.calls z in omega (arith, f);
}

-- what a call did that took the last strip
pub last_taken : {b d : Below} {p q : Chain}
    → b.points.items ≡ d.points.items ++ record { chain = p } ∷ []
    → b.pieces.items ≡ d.pieces.items ++ record { chain = q } ∷ [] → TakesLast b d p q
last_taken {b} {d} {p} {q} x y = record {
  points = ap chains_in x ∙ chains_last d.points.items p;
  pieces = ap chains_in y ∙ chains_last d.pieces.items q;
}

module _ {most n : ℕ} {s t : RigState} {b d e : Below} {w v : Writer} {p q : Chain}
    (h : BelowSoFar most n s t b d w v) (l : TakesLast d e p q) where
  there : IsTrue s.device.told → IsTrue t.device.told
  there z = h.reports.runs.session.touches.told ∙ z

  same_payload : payload_in t ≡ payload_in s
  same_payload =
      payload_kept (strips_blocks s (points_of b) (pieces_of b) ++ writer_blocks s w) s t
      h.reports.runs.session.touches

  same_shape : t.pool.shape ≡ s.pool.shape
  same_shape = h.reports.runs.session.touches.shape

  few_points : p.count ≤ most
  few_points = (last_some h.can l).1

  -- the moves with those of one call more
  next_moves : (extra F : ℕ) → IsTrue s.device.told
      → extra * payload_in t ≤ pays (payload_in t) (strip_levels t.pool.shape p.count) p.count
      (weight t p q) F
      → (h.extra + extra) * payload_in s
      ≤ below_moves most s (h.points + p.count) (h.weighs + weight t p q) (length h.written + F) (n + 1)
  next_moves extra F z m =
      let P = payload_in s in
      let r = strip_levels s.pool.shape most in
      let rise = levels_rise s.pool.shape p.count most (subst IsShape same_shape h.can.sound.shape)
      few_points in
      let m2 = rw (same_payload, same_shape) at m in
      let up = pays_rise P (strip_levels s.pool.shape p.count) r p.count p.count (weight t p q)
      (weight t p q) F F rise (omega arith) (omega arith) (omega arith) in
      child_pays P r h.points h.weighs (length h.written) n p.count (weight t p q) F h.extra extra
      (h.moves z) (omega (arith, m2, up))

  -- the room with that of one call more
  next_room : (peak : ℕ) → IsTrue s.device.told
      → peak * payload_in t ≤ holds (fan_root t.pool.shape) (payload_in t)
      (strip_levels t.pool.shape p.count) p.count (weight t p q)
      → max h.peak (peak + strips_held (points_of e) (pieces_of e)) * payload_in s
      ≤ below_room most s b
  next_room peak z m =
      let P = payload_in s in
      let k = fan_root s.pool.shape in
      let r = strip_levels s.pool.shape most in
      let rise = levels_rise s.pool.shape p.count most (subst IsShape same_shape h.can.sound.shape)
      few_points in
      let m2 = rw (same_payload, same_shape) at m in
      let up = holds_rise k P (strip_levels s.pool.shape p.count) r p.count p.count (weight t p q)
      (weight t p q) rise (omega arith) (omega arith) in
      let o = rw same_payload at (others_filled h.can l (there z)) in
      let others = strips_held (points_of e) (pieces_of e) in
      let one = child_holds k P r p.count (weight t p q) (chains_count (points_of e)) (below_weight t e)
      (length (points_of e)) others peak (omega (arith, m2, up)) o in
      let count = last_count h.can l in
      let done = h.count_is in
      let weighs = last_weight h.can l in
      let before = h.weight_is z in
      let long = last_length h.can l in
      let len = h.len in
      let all = room_rises k P r (chains_count (points_of e) + p.count) (chains_count (points_of b))
      (below_weight t e + weight t p q) (below_weight s b) (length (points_of e)) (length (points_of b))
      (omega (arith, count, done)) (omega (arith, weighs, before)) (omega (arith, long, len)) in
      let sum : (peak + others) * P ≤ below_room most s b = omega (arith, one, all) in
      max_within h.peak (peak + others) P (below_room most s b) (h.room z) sum

  -- One more was answered,
  pub below_more : {u : RigState} {k : Writer} → Answered t u p q v k → BelowSoFar most (n + 1) s u b e w k
  below_more a =
      let r = last_reports h.can l a.reports in
      let count = last_count h.can l in
      let long = last_length h.can l in
      let before = h.count_is in
      let len = h.len in
      record {
        written = h.written ++ a.written;
        peak = max h.peak (a.peak + strips_held (points_of e) (pieces_of e));
        extra = h.extra + a.extra;
        points = h.points + p.count;
        weighs = h.weighs + weight t p q;
        len = omega (arith, len, long);
        can = others_can h.can l a.reports;
        reports = reports_then h.written a.written h.reports r;
        alike = λ z.
            let x = others_due h.can l a.reports (there z) in
            let y = last_due h.can l in
            let turn = alike_turn h.written (below_due t e) (a.alike (there z)) in
            rw x (record {
              weighs = λ f.
                  turn.weighs f ∙ (ap (λ (xs : List Record). sum_by f (h.written ++ xs)) (sym y)
                  ∙ (h.alike z).weighs f);
            });
        count_is = omega (arith, before, count);
        weight_is = λ z.
            let x = others_weight h.can l a.reports (there z) in
            let y = last_weight h.can l in
            let w = h.weight_is z in
            omega (arith, x, y, w);
        moves = λ z.
            let n = length-append h.written a.written in
            let m = alike_length (a.alike (there z)) in
            let x = next_moves a.extra (length (due t p q)) z (a.within (there z)).moves in
            omega (arith, n, m, x);
        room = λ z. next_room a.peak z (a.within (there z)).room;
      }

  -- or gave up.
  pub below_stop : {u : RigState} {f : EmFault} → StopsAnswering t u p q v f → StopsBelow most s u b w f
  below_stop a =
      let k = reports_stop h.written h.reports (last_stops h.can l a.stops) in
      let long = last_length h.can l in
      let len = h.len in
      let P = payload_in s in
      record {
        peak = max h.peak (a.peak + strips_held (points_of e) (pieces_of e));
        extra = h.extra + a.extra;
        tried = length h.written + a.tried;
        stops = k;
        few = λ z.
            let all = alike_length (h.alike z) in
            let parts = length-append h.written (below_due t d) in
            let due_is = ap (λ (xs : List Record). length xs) (last_due h.can l) in
            let sum = length-append (below_due t e) (due t p q) in
            let m = a.few (there z) in
            omega (arith, all, parts, due_is, sum, m);
        within = λ z.
            let all = alike_length (h.alike z) in
            let parts = length-append h.written (below_due t d) in
            let due_is = ap (λ (xs : List Record). length xs) (last_due h.can l) in
            let sum = length-append (below_due t e) (due t p q) in
            let count = last_count h.can l in
            let done = h.count_is in
            let weighs = last_weight h.can l in
            let before = h.weight_is z in
            let x = next_moves a.extra (length (due t p q)) z (a.within (there z)).moves in
            let up = moves_rise P (strip_levels s.pool.shape most) (h.points + p.count)
            (chains_count (points_of b)) (h.weighs + weight t p q) (below_weight s b)
            (length h.written + length (due t p q)) (length (below_due s b)) (n + 1)
            (length (points_of b)) (omega (arith, count, done)) (omega (arith, weighs, before))
            (omega (arith, all, parts, due_is, sum)) (omega (arith, len, long)) in
            record {
              moves = omega (arith, x, up);
              room = next_room a.peak z (a.within (there z)).room;
            };
      }

none_of : (cs : List Chain) → length cs ≡ 0 → cs ≡ []
none_of [] e = refl
none_of (c ∷ cs) e = absurd (omega (arith, e))

-- All were answered.
pub below_all : {most n : ℕ} {s t : RigState} {b d : Below} {w v : Writer}
    → BelowSoFar most n s t b d w v → n ≡ length (points_of b) → AnswersBelow most s t b w v
below_all {most} {n} {s} {t} {b} {d} {w} {v} h e =
    let len = h.len in
    let none : points_of d ≡ [] = none_of (points_of d) (omega (arith, len, e)) in
    let held : strips_held (points_of d) (pieces_of d) ≡ 0 = rw none refl in
    let blocks : strips_blocks t (points_of d) (pieces_of d) ≡ [] = rw none refl in
    let due_is : below_due t d ≡ [] = rw none refl in
    let weighs : below_weight t d ≡ 0 = rw none refl in
    let count : chains_count (points_of d) ≡ 0 = rw none refl in
    let P = payload_in s in
    record {
      written = h.written;
      peak = h.peak;
      extra = h.extra;
      reports = reports_as (strips_blocks s (points_of b) (pieces_of b)) [] (omega arith) (omega arith) refl
          held (λ z j. refl) (λ z. tally_is blocks) h.reports;
      alike = λ z. record {
        weighs = λ f.
            ap (sum_by f) (sym (append-nil h.written))
            ∙ (ap (λ (xs : List Record). sum_by f (h.written ++ xs)) (sym due_is)
            ∙ (h.alike z).weighs f);
      };
      within = λ z.
          let all = alike_length (h.alike z) in
          let parts = length-append h.written (below_due t d) in
          let x = h.moves z in
          let done = h.count_is in
          let before = h.weight_is z in
          let up = moves_rise P (strip_levels s.pool.shape most) h.points (chains_count (points_of b))
          h.weighs (below_weight s b) (length h.written) (length (below_due s b)) n (length (points_of b))
          (omega (arith, done)) (omega (arith, before)) (omega (arith, all, parts)) (omega (arith, e)) in
          record { moves = omega (arith, x, up); room = h.room z };
    }

-- what the fault of a callee says of the result
pub below_err : {T : Type 0} (most : ℕ) (s t : RigState) (b : Below) (w v : Writer)
    (result : Result T EmFault) (f : EmFault) → IsErrAnd result (λ e. e ≡ f) → StopsBelow most s t b w f
    → AnswersBelowTo most s t b w v result
below_err most s t b w v (Ok x) f h k = absurd h
below_err most s t b w v (Err e) f h k =
    subst (λ (d : EmFault). StopsBelow most s t b w d) (sym h) k

-- what answering the last strip did, by the result
pub last_by : {T : Type 0} (most : ℕ) (s t : RigState) (b d : Below) (p q : Chain) (w v : Writer)
    (result : Result T EmFault) → b.points.items ≡ d.points.items ++ record { chain = p } ∷ []
    → b.pieces.items ≡ d.pieces.items ++ record { chain = q } ∷ [] → AnswersTo s t p q w v result
    → AnswersLastTo most s t b d w v result
last_by most s t b d p q w v (Ok x) e f h =
    record { points = p; pieces = q; points_are = e; pieces_are = f; answers = h }
last_by most s t b d p q w v (Err n) e f h =
    record { points = p; pieces = q; points_are = e; pieces_are = f; stops = h }

-- One more strip was answered, as the step says,
pub below_next : {most n : ℕ} {s t u : RigState} {b d e : Below} {w v k : Writer}
    → BelowSoFar most n s t b d w v → AnswersLast t u d e v k → BelowSoFar most (n + 1) s u b e w k
below_next h a = below_more h (last_taken a.points_are a.pieces_are) a.answers

-- or wasn't.
pub below_ends : {most n : ℕ} {s t u : RigState} {b d e : Below} {w v : Writer} {f : EmFault}
    → BelowSoFar most n s t b d w v → StopsLast t u d e v f → StopsBelow most s u b w f
below_ends h a = below_stop h (last_taken a.points_are a.pieces_are) a.stops
