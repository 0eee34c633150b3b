-- A node, part by part, of which each may give up.
use Rattle.std.proofs.Common.{◌≡◌, ℕ, ◌+◌, ◌*◌, ◌<◌, ◌≤◌, max, List, [], ◌++◌, length, map, sym, ap, subst, ◌∙◌, arith}
use Rattle.std.proofs.Math.Nat.{mul-le-mul_right}
use Rattle.std.proofs.lemmas.List.{length-map}
use Rattle.em_record.specs.Order.{IsAscending}
use Rattle.em_record.specs.Shape.{payload_of, wide_of}
use Rattle.em_record.specs.declared.record.Record.{Record}
use Rattle.em_frames.specs.Pool.{load_of}
use Rattle.em_space.specs.Rig.{RigState}
use Rattle.em_space.specs.declared.fault.EmFault.{EmFault}
use Rattle.em_chain.specs.Chain.{chain_blocks, chain_items, payload_in}
use Rattle.em_chain.specs.Counts.{ceiling}
use Rattle.em_chain.specs.declared.chain.Chain.{Chain}
use Rattle.em_chain.specs.declared.writer.Writer.{Writer}
use Rattle.em_chain.proofs.Readers.{length_items}
use Rattle.em_segment_model.specs.Points.{joined}
use Rattle.em_segment_model.specs.Sizes.{fan_root}
use Rattle.em_segment_model.specs.Slabs.{slabs_from}
use Rattle.em_segment_model.specs.Spans.{ends_of, value_span}
use Rattle.em_segment_model.specs.declared.strip.Span.{Span}
use Rattle.em_segment_model.proofs.Cost.{deal_pays, split_pays}
use Rattle.em_segment_model.proofs.Nodes.{pieces_weigh}
use Rattle.em_segment_model.proofs.Roots.{shape_sized}
use Rattle.em_segment.specs.Answers.{IsCall, StopsAnswering, call_blocks, due, weight}
use Rattle.em_segment_parts.specs.Chains.{chains_blocks, chains_held, chains_lists}
use Rattle.em_segment_parts.specs.Deals.{Deals, StopsDeals, lists_blocks, lists_held, lists_of, sent_all, slabs_in}
use Rattle.em_segment_parts.specs.Pairs.{IsPairs}
use Rattle.em_segment_parts.specs.Reports.{Reports, StopsShifting}
use Rattle.em_segment_parts.specs.Splits.{Splits, strips_in}
use Rattle.em_segment_parts.specs.Strips.{ReportsStrips}
use Rattle.em_segment_parts.specs.declared.dealing.Lists.{Lists}
use Rattle.em_segment_parts.specs.declared.splitting.Strips.{Strips}
use Rattle.em_segment.proofs.CallSizes.{chain_filled}
use Rattle.em_segment_parts.proofs.Chains.{chains_length}
use Rattle.em_segment.proofs.NodeBounds.{NodeNumbers, node_room, node_within, split_numbers, split_room}
use Rattle.em_segment.proofs.NodeParts.{deal_part, down_stay_on, pieces_kept, report_part, slabs_stay_on, split_part, strips_kept, strips_stay_on}
use Rattle.em_segment.proofs.NodeSizes.{cut_some, list_blocks, strip_blocks}
use Rattle.em_segment.proofs.NodeStands.{NodeStands, down_of, stands_dealt, stands_on}
use Rattle.em_segment_parts.proofs.Parts.{reports_holds, reports_pairs, reports_stop, reports_then, shift_left_stops, shift_right_stops, shift_stops}

-- It gave up while it split its points.
pub node_unsplit : {s t : RigState} {points pieces : Chain} {w : Writer} {fault : EmFault}
    → IsCall s points pieces w → load_of s.pool.shape < points.count
    → StopsShifting (points.blocks + fan_root s.pool.shape + 1)
    (4 * points.blocks + 3 * fan_root s.pool.shape + 3) (chain_blocks s points) points.blocks s t fault
    → StopsAnswering s t points pieces w fault
node_unsplit {s} {t} {points} {pieces} {w} {fault} call big h =
    let k = fan_root s.pool.shape in
    let shape = call.sound.shape in
    let e = weight s points pieces in
    record {
      peak = points.blocks + k + 1 + pieces.blocks;
      extra = 4 * points.blocks + 3 * k + 3;
      tried = 0;
      stops = shift_stops call.sound call.pairs
          (shift_left_stops (chain_blocks s pieces) pieces.blocks h);
      few = λ y. omega arith;
      within = λ y.
          let x = chain_filled call.sound call.points_are y in
          let z = chain_filled call.sound call.pieces_are y in
          let len = length_items s pieces call.pieces_are.is y in
          let l = pieces_weigh (chain_items s points) (chain_items s pieces) in
          let n = split_numbers k (wide_of s.pool.shape) s.pool.shape.block (payload_in s)
          points.count pieces.count e points.blocks pieces.blocks (shape_sized s.pool.shape shape)
          big x z (omega (arith, len, l)) in
          let room = split_room n in
          node_within s points pieces (points.blocks + k + 1 + pieces.blocks)
          (4 * points.blocks + 3 * k + 3) (omega (arith, room))
          (split_pays k (wide_of s.pool.shape) s.pool.shape.block (payload_in s) points.count e
          (length (due s points pieces)) points.blocks (shape_sized s.pool.shape shape) big x);
    }

-- It gave up while it dealt its pieces.
pub node_undealt : {s t u : RigState} {points pieces : Chain} {w : Writer} {most : ℕ} {z : Strips}
    {fault : EmFault} → IsCall s points pieces w → load_of s.pool.shape < points.count
    → Splits most s t points z → length (strips_in z) ≤ fan_root s.pool.shape
    → StopsDeals z.spans.items t u pieces fault → StopsAnswering s u points pieces w fault
node_undealt {s} {t} {u} {points} {pieces} {w} {most} {z} {fault} call big sp few h =
    let part = split_part call sp in
    let sound = sp.shifts.session.sound in
    let out = chains_held (strips_in z) in
    let zs = z.spans.items in
    let count : length z.points.items ≡ length (strips_in z) = sym (chains_length z.points.items) in
    let long : length zs ≡ length (strips_in z) = sp.len ∙ count in
    let peak = max (points.blocks + out + pieces.blocks) (out + (pieces.blocks + h.room + 1)) in
    let extra = (2 * points.blocks + 2 * out + length z.points.items)
    + (2 * pieces.blocks + 2 * h.room + 2 * lists_of (length zs) + 4) in
    record {
      peak = peak;
      extra = extra;
      tried = 0;
      stops = reports_stop [] part (shift_stops sound (reports_pairs call.pairs part)
          (shift_right_stops (chains_blocks t (strips_in z)) out h.stops));
      few = λ y. omega arith;
      within = λ y.
          let told = sp.shifts.session.touches.told ∙ y in
          let same : payload_in t ≡ payload_in s = ap payload_of sp.shifts.session.touches.shape in
          let pss = chains_lists t (strips_in z) in
          let a = strip_blocks s t points (strips_in z) call.sound sound same y told call.points_are
          sp.are sp.count_is few in
          let spans : zs ≡ map value_span pss = sp.spans y in
          let items = (pieces_kept call sp).items y in
          let room : h.room
          ≤ ceiling (length (sent_all (map value_span pss) (chain_items s pieces))) (payload_in s)
          + lists_of (length (strips_in z)) =
          subst (λ (n : ℕ). h.room ≤ n)
          (ap (λ (ys : List Span). ceiling (length (sent_all ys (chain_items t pieces)))
          (payload_in t) + lists_of (length zs)) spans
          ∙ (ap (λ (xs : List Record). ceiling (length (sent_all (map value_span pss) xs))
          (payload_in t) + lists_of (length zs)) items
          ∙ (ap (λ (p : ℕ). ceiling (length (sent_all (map value_span pss) (chain_items s pieces))) p
          + lists_of (length zs)) same
          ∙ ap (λ (n : ℕ). ceiling (length (sent_all (map value_span pss) (chain_items s pieces)))
          (payload_in s) + lists_of n) long))) (h.few.few told) in
          let b = list_blocks s pieces pss h.room (length (strips_in z)) call.sound y call.pieces_are
          (cut_some most t (strips_in z) told sp.are sp.cut)
          (subst IsAscending (sym (sp.lists y)) (call.ordered y))
          (sym (length-map (strips_in z) (chain_items t))) few room in
          let e : ends_of (joined pss) (chain_items s pieces) ≡ weight s points pieces =
          ap (λ (xs : List Record). ends_of xs (chain_items s pieces)) (sp.lists y) in
          let n : NodeNumbers (fan_root s.pool.shape) (wide_of s.pool.shape) s.pool.shape.block
          (payload_in s) points.count (weight s points pieces) points.blocks out
          (length (strips_in z)) pieces.blocks h.room (lists_of (length (strips_in z))) = record {
            pieces = pieces.count;
            down = down_of s t (strips_in z) pieces;
            sized = shape_sized s.pool.shape call.sound.shape;
            big = big;
            strips = a;
            lists = rw e at b;
          } in
          let paid = deal_pays _ _ _ _ _ _ _ _ (length (due s points pieces)) _ _ _ _ _ _ n.sized big
          n.strips n.lists in
          let both : lists_of (length zs) ≡ lists_of (length (strips_in z)) = ap lists_of long in
          let moves : extra ≤ 2 * points.blocks + 2 * out + length (strips_in z)
          + (2 * pieces.blocks + 2 * h.room + 2 * lists_of (length (strips_in z)) + 4) =
          omega (arith, count, both) in
          let m = mul-le-mul_right (payload_in s) moves in
          node_within s points pieces peak extra (node_room peak n (omega arith)) (omega (arith, m, paid));
    }

-- Points were split, pieces dealt, and these pairs reported, by at most so many moves.
pub record NodeSoFar (most report : ℕ) (s u : RigState) (points pieces : Chain) (strips : List Chain)
    (l : Lists) (w k : Writer) (xs : List Record) : Type 0 where
  pub stands : NodeStands most s u points pieces strips l
  pub pairs : IsPairs u k
  pub peak : ℕ
  pub extra : ℕ
  pub reports : Reports peak extra (call_blocks s points pieces)
      (chains_blocks u strips ++ lists_blocks u l) (points.blocks + pieces.blocks)
      (chains_held strips + lists_held l) s u w k xs
  pub peak_is : peak
      ≤ max (points.blocks + chains_held strips + pieces.blocks)
      (chains_held strips + pieces.blocks + lists_held l + 1)
  pub extra_is : extra ≤ 2 * points.blocks + 2 * chains_held strips + length strips
      + (2 * pieces.blocks + 2 * lists_held l + 2 * lists_of (length strips)) + report

-- Pieces were dealt,
pub node_dealt : {s t u : RigState} {points pieces : Chain} {w : Writer} {most : ℕ} {z : Strips}
    {l : Lists} → IsCall s points pieces w → Splits most s t points z
    → length (strips_in z) ≤ fan_root s.pool.shape → Deals z.spans.items t u pieces l
    → NodeSoFar most 0 s u points pieces (strips_in z) l w w []
node_dealt {s} {t} {u} {points} {pieces} {w} {most} {z} {l} call sp few de =
    let part = split_part call sp in
    let pairs = reports_pairs call.pairs part in
    let kept = strips_kept (strips_in z) pairs sp.are (reports_holds part) de in
    let next = deal_part (strips_in z) pairs sp.are (reports_holds part) de in
    let all = reports_then [] [] part next in
    let zs = z.spans.items in
    let out = chains_held (strips_in z) in
    let count : length z.points.items ≡ length (strips_in z) = sym (chains_length z.points.items) in
    let long : lists_of (length zs) ≡ lists_of (length (strips_in z)) = ap lists_of (sp.len ∙ count) in
    record {
      stands = stands_dealt de.shifts.session.sound sp few (pieces_kept call sp) de kept;
      pairs = reports_pairs call.pairs all;
      peak = max (points.blocks + out + pieces.blocks) (out + (pieces.blocks + lists_held l));
      extra = (2 * points.blocks + 2 * out + length z.points.items)
          + (2 * pieces.blocks + 2 * lists_held l + 2 * lists_of (length zs));
      reports = all;
      peak_is = omega arith;
      extra_is = omega (arith, count, long);
    }

-- and pairs reported.
pub node_reported : {s u v : RigState} {points pieces : Chain} {w k : Writer} {most : ℕ}
    {strips : List Chain} {l : Lists} → NodeSoFar most 0 s u points pieces strips l w w []
    → (r : ReportsStrips (slabs_from 0 (length strips)) 0 u v strips (slabs_in l) w k)
    → NodeSoFar most r.extra s v points pieces strips l w k r.written
node_reported {s} {u} {v} {points} {pieces} {w} {k} {most} {strips} {l} h r =
    let st = h.stands in
    let holds = reports_holds h.reports in
    let writes = r.writes in
    let next = report_part strips l h.pairs st.are st.slabs_are holds (chains_held strips + lists_held l)
    st.down_are writes in
    let all = reports_then [] r.written h.reports next in
    let touches = writes.runs.session.touches in
    let peak_is = h.peak_is in
    let extra_is = h.extra_is in
    record {
      stands = stands_on st writes.runs.session.sound touches.told touches.shape
          (strips_stay_on strips l h.pairs st.are st.slabs_are holds writes)
          (down_stay_on strips l h.pairs st.are st.slabs_are holds st.down_are writes)
          (slabs_stay_on strips l h.pairs st.are st.slabs_are holds writes);
      pairs = reports_pairs h.pairs next;
      peak = max h.peak (chains_held strips + lists_held l);
      extra = h.extra + r.extra;
      reports = all;
      peak_is = omega (arith, peak_is);
      extra_is = omega (arith, extra_is);
    }
