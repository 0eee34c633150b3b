-- A call of the recursion: nothing to answer, or a node and then its strips.
use Rattle.std.proofs.Common.{◌≡◌, ℕ, ◌+◌, ◌*◌, ◌<◌, ◌≤◌, ◌⊎◌, max, List, [], ◌∷◌, ◌++◌, length, map, refl, sym, ap, subst, ◌∙◌, arith, IsTrue, Result, Ok, Err, inl, inr}
use Rattle.std.proofs.lemmas.List.{length-append}
use Rattle.std.specs.Int.{div_ceil}
use Rattle.em_record.specs.Order.{IsAscending}
use Rattle.em_record.specs.Shape.{IsShape, ShapeNumbers, wide_of}
use Rattle.em_record.specs.declared.record.Record.{Record}
use Rattle.em_frames.specs.Pool.{load_of}
use Rattle.em_space.specs.Held.{Holds}
use Rattle.em_space.specs.Rig.{RigState}
use Rattle.em_space.specs.declared.fault.EmFault.{EmFault}
use Rattle.em_chain.specs.Chain.{chain_items, payload_in}
use Rattle.em_chain.specs.Writer.{writer_blocks}
use Rattle.em_chain.specs.declared.chain.Chain.{Chain}
use Rattle.em_chain.specs.declared.writer.Writer.{Writer}
use Rattle.em_chain.proofs.Keeps.{payload_kept}
use Rattle.em_chain.proofs.Readers.{length_items}
use Rattle.em_segment_model.specs.Alike.{Alike}
use Rattle.em_segment_model.specs.Bounds.{holds}
use Rattle.em_segment_model.specs.Pieces.{Asked, all_pairs}
use Rattle.em_segment_model.specs.Points.{asked_in, joined, pairs_below, pairs_due}
use Rattle.em_segment_model.specs.Sizes.{fan_root, strip_levels}
use Rattle.em_segment_model.specs.Spans.{AllSome, down_lists, ends_below, ends_of, value_span}
use Rattle.em_segment_model.proofs.Cost.{level_pays}
use Rattle.em_segment_model.proofs.Levels.{levels_next, strip_less}
use Rattle.em_segment_model.proofs.Nodes.{node_ends, node_law}
use Rattle.em_segment_model.proofs.Room.{holds_rise, level_holds}
use Rattle.em_segment_model.proofs.Roots.{shape_sized}
use Rattle.em_segment.specs.Answers.{Answered, AnswersTo, CanAnswer, DiscardsTo, IsCall, StopsAnswering, WithinCall, call_blocks, due, weight}
use Rattle.em_segment.specs.Belows.{AnswersBelow, AnswersBelowTo, AnswersNode, AreCalls, CanAnswerBelow, StopsBelow, WithinBelow, below_due, below_weight, pieces_of, points_of}
use Rattle.em_segment_parts.specs.Chains.{chains_count, chains_lists}
use Rattle.em_segment.specs.declared.node.Below.{Below}
use Rattle.em_segment_parts.proofs.Alikes.{alike_length, alike_same}
use Rattle.em_segment.proofs.CallSizes.{call_within, max_within}
use Rattle.em_segment_parts.proofs.Gets.{nil_of}
use Rattle.em_segment_parts.proofs.Parts.{reports_pairs, reports_stop, reports_then, shift_reports, shift_stops}
use Rattle.em_segment_parts.proofs.Regrouping.{holds_first}
use Rattle.em_segment_parts.proofs.StripLoads.{load_some}

-- no piece, no pair
pub none_at : (ps : List Asked) → all_pairs ps [] ≡ []
none_at [] = refl
none_at (p ∷ ps) = none_at ps

none_due : {s : RigState} {points pieces : Chain} {w : Writer} → IsCall s points pieces w
    → (points.count ≡ 0) ⊎ (pieces.count ≡ 0) → IsTrue s.device.told → due s points pieces ≡ []
none_due {s} {points} {pieces} call o z = elim o [
  | inl e ↦
      let xs = nil_of (chain_items s points) (length_items s points call.points_are.is z ∙ e) in
      ap (λ (ps : List Record). pairs_due ps (chain_items s pieces)) xs
  | inr e ↦
      let xs = nil_of (chain_items s pieces) (length_items s pieces call.pieces_are.is z ∙ e) in
      ap (λ (qs : List Record). pairs_due (chain_items s points) qs) xs
      ∙ none_at (map asked_in (chain_items s points))
]

-- The blocks of both chains are held.
pub call_held : {s : RigState} {points pieces : Chain} {w : Writer} → IsCall s points pieces w
    → IsTrue s.device.told → Holds s (call_blocks s points pieces)
call_held {s} {points} {pieces} {w} call z =
    holds_first (call_blocks s points pieces) (writer_blocks s w) (call.blocks z)

-- Without points or without pieces both chains are released.
pub discards_answer : {T : Type 0} {s : RigState} (t : RigState) {points pieces : Chain} {w : Writer}
    (result : Result T EmFault) → IsCall s points pieces w
    → (points.count ≡ 0) ⊎ (pieces.count ≡ 0) → DiscardsTo s t points pieces result
    → AnswersTo s t points pieces w w result
discards_answer t {points = points} {pieces = pieces} (Ok x) call o h = record {
  written = [];
  peak = points.blocks + pieces.blocks;
  extra = 2 * (points.blocks + pieces.blocks);
  reports = shift_reports call.pairs call.blocks h;
  alike = λ z. subst (Alike []) (sym (none_due call o z)) (alike_same []);
  within = λ z. call_within call z (omega arith) (omega arith);
}
discards_answer t {points = points} {pieces = pieces} (Err e) call o h = record {
  peak = points.blocks + pieces.blocks;
  extra = 2 * (points.blocks + pieces.blocks);
  tried = 0;
  stops = shift_stops call.sound call.pairs h;
  few = λ z. omega arith;
  within = λ z. call_within call z (omega arith) (omega arith);
}

-- A node has four strips at least,
pub strips_some : (shape : ShapeNumbers) → IsShape shape → 4 ≤ fan_root shape
strips_some shape is = (shape_sized shape is).s_low

-- so that each of them has fewer points.
pub strip_fewer : (shape : ShapeNumbers) (n : ℕ) → IsShape shape → load_of shape < n
    → div_ceil n (fan_root shape) < n
strip_fewer shape n is big =
    let some = load_some shape is in
    strip_less (fan_root shape) n (strips_some shape is) (omega (arith, some, big))

-- each strip has a point
lists_some : (most : ℕ) (s : RigState) (ps qs : List Chain) → AreCalls most s ps qs
    → IsTrue s.device.told → AllSome (chains_lists s ps)
lists_some most s [] qs h z = tt
lists_some most s (p ∷ ps) [] h z = absurd h
lists_some most s (p ∷ ps) (q ∷ qs) (one, rest) z = (
  (let n = length_items s p one.0.is z in let some = one.2 in omega (arith, n, some)),
  lists_some most s ps qs rest z,
)

module _ {most : ℕ} {s t : RigState} {points pieces : Chain} {w v : Writer} {b : Below}
    (can : CanAnswer s points pieces w) (h : AnswersNode most s t points pieces w v b) where
  there : IsTrue s.device.told → IsTrue t.device.told
  there z = h.reports.runs.session.touches.told ∙ z

  same_shape : t.pool.shape ≡ s.pool.shape
  same_shape = h.reports.runs.session.touches.shape

  same_payload : payload_in t ≡ payload_in s
  same_payload =
      payload_kept (call_blocks s points pieces ++ writer_blocks s w) s t h.reports.runs.session.touches

  -- The strips may be answered.
  pub below_can : CanAnswerBelow most t b v
  below_can =
      let f = h.reports.runs.frames in
      record {
        sound = h.reports.runs.session.sound;
        are = h.are;
        pairs = reports_pairs can.call.pairs h.reports;
        singles = rw (f.shape, f.free) can.singles;
        areas = rw (f.free_areas) can.areas;
        rack = f.rack ∙ can.rack;
        blocks = λ y. h.reports.runs.session.holds (sym h.reports.runs.session.touches.told ∙ y);
      }

  abbrev lists : List (List Record)
  lists = chains_lists t (points_of b)

  all_some : IsTrue s.device.told → AllSome lists
  all_some z = lists_some most t (points_of b) (pieces_of b) h.are.calls (there z)

  ascend : IsTrue s.device.told → IsAscending (joined lists)
  ascend z = subst IsAscending (sym (h.points_is z)) (can.call.ordered z)

  -- the pairs that are due of the strips
  below_is : IsTrue s.device.told
      → below_due t b ≡ pairs_below lists (down_lists (map value_span lists) (chain_items s pieces))
  below_is z = ap (λ (qss : List (List Record)). pairs_below lists qss) (h.pieces_is z)

  -- what was written, and what is alike to what the strips make
  all_alike : {below : List Record} → IsTrue s.device.told → Alike below (below_due t b)
      → Alike (h.written ++ below) (due s points pieces)
  all_alike {below} z a =
      subst (λ (ps : List Record). Alike (h.written ++ below) (pairs_due ps (chain_items s pieces)))
      (h.points_is z)
      (node_law lists (chain_items s pieces) h.written below (all_some z) (ascend z) (h.alike z)
      (subst (Alike below) (below_is z) a))

  weigh_less : IsTrue s.device.told → below_weight t b ≤ weight s points pieces
  weigh_less z =
      let m = node_ends lists (chain_items s pieces) (all_some z) (ascend z) in
      let x = ap (λ (qss : List (List Record)). ends_below lists qss) (h.pieces_is z) in
      let y = ap (λ (ps : List Record). ends_of ps (chain_items s pieces)) (h.points_is z) in
      omega (arith, m, x, y)

  module _ (big : load_of s.pool.shape < points.count)
      (most_is : most ≡ div_ceil points.count (fan_root s.pool.shape)) where
    levels_is : strip_levels s.pool.shape points.count ≡ strip_levels s.pool.shape most + 1
    levels_is =
        let n = levels_next s.pool.shape points.count can.call.sound.shape big in
        let m = ap (strip_levels s.pool.shape) most_is in
        omega (arith, n, m)

    -- with the strips' bounds the call is within its own
    call_bounds : {peak extra : ℕ} → IsTrue s.device.told → WithinBelow most t b peak extra
        → WithinCall s points pieces (max h.peak peak) (h.extra + extra)
    call_bounds {peak} {extra} z g =
        let P = payload_in s in
        let k = fan_root s.pool.shape in
        let r = strip_levels s.pool.shape most in
        let e = weight s points pieces in
        let F = length h.written in
        let F2 = length (below_due t b) in
        let sized = shape_sized s.pool.shape can.call.sound.shape in
        let less = weigh_less z in
        let count = h.count_is in
        let strips = h.strips in
        let moves = rw (same_payload, same_shape) at g.moves in
        let room = rw (same_payload, same_shape) at g.room in
        let paid = level_pays k (wide_of s.pool.shape) s.pool.shape.block P r points.count e F h.extra
        (chains_count (points_of b)) (below_weight t b) F2 (length (points_of b)) extra sized big (h.moves z)
        (omega (arith, count)) less strips moves in
        let all = alike_length (all_alike z (alike_same (below_due t b))) in
        let sum = length-append h.written (below_due t b) in
        let pairs : length (due s points pieces) ≡ F + F2 = omega (arith, all, sum) in
        let own = holds_rise k P 0 (r + 1) points.count points.count e e (omega arith) (omega arith)
        (omega arith) in
        let here = h.room z in
        let inner = level_holds k P r points.count e (chains_count (points_of b)) (below_weight t b)
        (length (points_of b)) peak room (omega (arith, count)) less strips in
        record {
          moves = rw (levels_is, pairs) paid;
          room = rw levels_is (max_within h.peak peak P (holds k P (r + 1) points.count e)
              (omega (arith, here, own)) inner);
        }

    -- All strips were answered,
    pub node_answered : {u : RigState} {k : Writer} → AnswersBelow most t u b v k
        → Answered s u points pieces w k
    node_answered g = record {
      written = h.written ++ g.written;
      peak = max h.peak g.peak;
      extra = h.extra + g.extra;
      reports = reports_then h.written g.written h.reports g.reports;
      alike = λ z. all_alike z (g.alike (there z));
      within = λ z. call_bounds z (g.within (there z));
    }

    -- or not.
    pub node_refused : {u : RigState} {f : EmFault} → StopsBelow most t u b v f
        → StopsAnswering s u points pieces w f
    node_refused g = record {
      peak = max h.peak g.peak;
      extra = h.extra + g.extra;
      tried = length h.written + g.tried;
      stops = reports_stop h.written h.reports g.stops;
      few = λ z.
          let all = alike_length (all_alike z (alike_same (below_due t b))) in
          let sum = length-append h.written (below_due t b) in
          let m = g.few (there z) in
          omega (arith, all, sum, m);
      within = λ z. call_bounds z (g.within (there z));
    }

    pub node_by : {T : Type 0} (u : RigState) (k : Writer) (result : Result T EmFault)
        → AnswersBelowTo most t u b v k result → AnswersTo s u points pieces w k result
    node_by u k (Ok x) g = node_answered g
    node_by u k (Err f) g = node_refused g
