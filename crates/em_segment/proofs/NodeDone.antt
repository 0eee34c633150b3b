-- A whole node: what it wrote, and the calls of its strips that are left.
use Rattle.std.proofs.Common.{◌≡◌, ℕ, ◌+◌, ◌*◌, ◌^◌, ◌<◌, ◌≤◌, max, List, [], ◌∷◌, length, map, refl, sym, ap, subst, ◌∙◌, arith, IsTrue}
use Rattle.std.proofs.Math.Nat.{mul-le-mul_right}
use Rattle.std.proofs.lemmas.List.{append-nil}
use Rattle.arrayvec.specs.ArrayVec.{ArrayVec}
use Rattle.em_record.specs.Order.{IsAscending}
use Rattle.em_record.specs.Shape.{payload_of}
use Rattle.em_record.specs.declared.record.Record.{Record}
use Rattle.em_record.proofs.OrderLaws.{ascends_apart}
use Rattle.em_frames.specs.Pool.{load_of}
use Rattle.em_model.specs.Ascending.{Ascend}
use Rattle.em_model.specs.Stab.{NumberedInterval}
use Rattle.em_space.specs.Rig.{RigState}
use Rattle.em_chain.specs.Chain.{chain_items, payload_in}
use Rattle.em_chain.specs.declared.chain.Chain.{Chain}
use Rattle.em_chain.specs.declared.writer.Writer.{Writer}
use Rattle.em_segment_model.specs.Alike.{Alike}
use Rattle.em_segment_model.specs.Points.{interval_in, joined}
use Rattle.em_segment_model.specs.Reports.{reported_here}
use Rattle.em_segment_model.specs.Slabs.{slabs_from}
use Rattle.em_segment_model.specs.Spans.{down_lists, value_span}
use Rattle.em_segment_model.specs.declared.strip.Span.{Span}
use Rattle.em_segment_model.proofs.Nodes.{down_in_order}
use Rattle.em_segment.specs.Answers.{IsCall, call_blocks}
use Rattle.em_segment.specs.Belows.{AnswersNode, AreCalls, AreSorted, strips_blocks, strips_held}
use Rattle.em_segment_parts.specs.Chains.{AreChains, chains_blocks, chains_held, chains_in, chains_lists}
use Rattle.em_segment_parts.specs.Deals.{down_in, lists_held, lists_of, slabs_in}
use Rattle.em_segment_parts.specs.Reports.{Reports, Shifts}
use Rattle.em_segment_parts.specs.Splits.{AreCut}
use Rattle.em_segment_parts.specs.Strips.{ReportsStrips}
use Rattle.em_segment_parts.specs.declared.dealing.Lists.{Lists}
use Rattle.em_segment_parts.specs.declared.list.Listed.{Listed}
use Rattle.em_segment.proofs.BelowLists.{strips_held_is, strips_regrouped}
use Rattle.em_segment.proofs.NodeBounds.{node_room}
use Rattle.em_segment.proofs.NodeEnds.{stands_numbers, whole_moves}
use Rattle.em_segment.proofs.NodeParts.{down_left, drop_part, strips_left, strips_stay_on}
use Rattle.em_segment.proofs.NodeStands.{stands_here}
use Rattle.em_segment.proofs.NodeStops.{NodeSoFar}
use Rattle.em_segment_parts.proofs.Parting.{reports_as}
use Rattle.em_segment_parts.proofs.Parts.{reports_holds, reports_then}

-- The strips may be called,
calls_of : (most : ℕ) (s : RigState) (ps qs : List Chain) → length qs ≡ length ps → AreChains s ps
    → AreCut most ps → AreChains s qs → AreCalls most s ps qs
calls_of most s [] [] e a c b = tt
calls_of most s [] (q ∷ qs) e a c b = absurd (omega (arith, e))
calls_of most s (p ∷ ps) [] e a c b = absurd (omega (arith, e))
calls_of most s (p ∷ ps) (q ∷ qs) e (one, more) (cut, others) (two, rest) =
    ((one, two, cut.0, cut.1), calls_of most s ps qs (omega (arith, e)) more others rest)

-- each with its points and its pieces in order.
sorted_of : (pss : List (List Record)) (zs : List Span) (items : List Record)
    → IsAscending (joined pss)
    → Ascend (λ (i : NumberedInterval). i.number) 0 (map interval_in items) (2 ^ 40)
    → AreSorted pss (down_lists zs items)
sorted_of [] zs items a n = tt
sorted_of (ps ∷ pss) [] items a n = tt
sorted_of (ps ∷ pss) (z ∷ zs) items a n =
    let both = ascends_apart ps (joined pss) a in
    ((both.0, down_in_order z 0 items (2 ^ 40) n), sorted_of pss zs items both.1 n)

-- The last lists were dropped.
pub node_done : {s u v x : RigState} {points pieces : Chain} {w k : Writer} {most : ℕ} {l : Lists}
    (list : ArrayVec Listed) → IsCall s points pieces w → load_of s.pool.shape < points.count
    → NodeSoFar most 0 s u points pieces (chains_in list.items) l w w []
    → (r : ReportsStrips (slabs_from 0 (length (chains_in list.items))) 0 u v (chains_in list.items)
    (slabs_in l) w k)
    → NodeSoFar most r.extra s v points pieces (chains_in list.items) l w k r.written
    → Shifts (chains_held (slabs_in l)) (2 * chains_held (slabs_in l))
    (chains_blocks v (slabs_in l)) [] (chains_held (slabs_in l)) 0 v x
    → AnswersNode most s x points pieces w k (record { points = list; pieces = l.down })
node_done {s} {u} {v} {x} {points} {pieces} {w} {k} {most} {l} list call big a r h d =
    let strips = chains_in list.items in
    let first = a.stands in
    let st = h.stands in
    let down = down_in l in
    let hs = chains_held (slabs_in l) in
    let hd = chains_held down in
    let out = chains_held strips in
    let holds = reports_holds h.reports in
    let ps = strips_left (2 * hs) strips down (slabs_in l) h.pairs st.are st.down_are holds d in
    let qs = down_left (2 * hs) strips down (slabs_in l) h.pairs st.are st.down_are holds d in
    let up = strips_stay_on strips l a.pairs first.are first.slabs_are (reports_holds a.reports) r.writes in
    let next = drop_part (2 * hs) strips down (slabs_in l) h.pairs st.are st.down_are holds d out hd in
    let all = reports_then r.written [] h.reports next in
    let held = strips_held_is strips down (sym st.down_len) in
    let peak = max h.peak (out + (hd + hs)) in
    let extra = h.extra + 2 * hs in
    let told : IsTrue s.device.told → IsTrue v.device.told = λ y. st.told_is ∙ y in
    let same : IsTrue s.device.told → chains_lists x strips ≡ chains_lists v strips =
    λ y. ps.lists (told y) in
    let spans : IsTrue s.device.told → map value_span (chains_lists v strips)
    ≡ map value_span (chains_lists x strips) =
    λ y. ap (map value_span) (sym (same y)) in
    let points_is : IsTrue s.device.told → joined (chains_lists x strips) ≡ chain_items s points =
    λ y. ap joined (same y) ∙ st.points_is y in
    let pieces_is : IsTrue s.device.told → chains_lists x down
    ≡ down_lists (map value_span (chains_lists x strips)) (chain_items s pieces) =
    λ y. qs.lists (told y) ∙ (st.down_is y
    ∙ ap (λ (zs : List Span). down_lists zs (chain_items s pieces)) (spans y)) in
    record {
      written = r.written;
      peak = peak;
      extra = extra;
      reports = subst (Reports peak extra (call_blocks s points pieces) (strips_blocks x strips down)
          (points.blocks + pieces.blocks) (strips_held strips down) s x w k) (append-nil r.written)
          (reports_as (call_blocks s points pieces) (strips_blocks x strips down) (omega arith)
          (omega arith) refl (sym held) (λ y j. refl)
          (λ y. strips_regrouped x strips down (sym st.down_len)) all);
      are = record {
        calls = calls_of most x strips down st.down_len ps.are st.cut qs.are;
        sorted = λ y.
            let z : IsTrue s.device.told =
            sym (d.session.touches.told ∙ st.told_is) ∙ y in
            subst (AreSorted (chains_lists x strips)) (sym (pieces_is z))
            (sorted_of (chains_lists x strips) (map value_span (chains_lists x strips))
            (chain_items s pieces) (subst IsAscending (sym (points_is z)) (call.ordered z))
            (call.numbered z));
      };
      strips = st.few;
      count_is = st.count_is;
      points_is = points_is;
      pieces_is = pieces_is;
      alike = λ y.
          let kept : chains_lists u strips ≡ chains_lists x strips =
          sym (same y ∙ up.lists (first.told_is ∙ y)) in
          subst (λ (pss : List (List Record)). Alike r.written
          (reported_here (map value_span pss) pss (chain_items s pieces))) kept
          (subst (Alike r.written) (stands_here call first y) (r.alike (first.told_is ∙ y)));
      moves = λ y.
          let count = first.count_is in
          let p : payload_in u ≡ payload_in s = ap payload_of first.shape_is in
          let area : load_of u.pool.shape ≡ load_of s.pool.shape = ap load_of first.shape_is in
          let m = rw (p, area) at (r.moves (first.told_is ∙ y)) in
          let paid = whole_moves call big first y r.extra (length r.written) (omega (arith, m, count)) in
          let extra_is = h.extra_is in
          let most_is : extra ≤ 2 * points.blocks + 2 * out + length strips
          + (2 * pieces.blocks + 2 * lists_held l + 2 * lists_of (length strips)) + r.extra
          + 2 * lists_held l =
          omega (arith, extra_is) in
          let t = mul-le-mul_right (payload_in s) most_is in
          omega (arith, t, paid);
      room = λ y.
          let peak_is = h.peak_is in
          node_room peak (stands_numbers call big first y) (omega (arith, peak_is));
    }
