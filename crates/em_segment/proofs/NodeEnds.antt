-- The last parts of a node: pairs are reported, and the multislabs' lists dropped.
use Rattle.std.proofs.Common.{◌≡◌, ℕ, ◌+◌, ◌*◌, ◌<◌, ◌≤◌, max, List, [], ◌++◌, length, ap, ◌∙◌, arith, IsTrue}
use Rattle.std.proofs.Math.Nat.{mul-le-mul_right}
use Rattle.em_record.specs.Shape.{payload_of, wide_of}
use Rattle.em_frames.specs.Pool.{load_of}
use Rattle.em_space.specs.Rig.{RigState}
use Rattle.em_space.specs.declared.fault.EmFault.{EmFault}
use Rattle.em_chain.specs.Chain.{chain_items, payload_in}
use Rattle.em_chain.specs.declared.chain.Chain.{Chain}
use Rattle.em_chain.specs.declared.writer.Writer.{Writer}
use Rattle.em_segment_model.specs.Sizes.{fan_root}
use Rattle.em_segment_model.specs.Slabs.{slabs_from}
use Rattle.em_segment_model.proofs.Cost.{ListBlocks, node_pays, report_pays}
use Rattle.em_segment_model.proofs.Nodes.{node_down, pieces_weigh}
use Rattle.em_segment_model.proofs.Roots.{shape_sized}
use Rattle.em_chain.proofs.Readers.{length_items}
use Rattle.em_segment.specs.Answers.{IsCall, StopsAnswering, due, weight}
use Rattle.em_segment_parts.specs.Chains.{chains_blocks, chains_held, chains_lists}
use Rattle.em_segment_parts.specs.Deals.{down_in, lists_blocks, lists_held, lists_of, slabs_in}
use Rattle.em_segment_parts.specs.Reports.{StopsShifting}
use Rattle.em_segment_parts.specs.Strips.{ReportsStrips, StopsStrips}
use Rattle.em_segment_parts.specs.declared.dealing.Lists.{Lists}
use Rattle.em_segment_parts.proofs.Alikes.{alike_length}
use Rattle.em_segment.proofs.CallSizes.{chain_filled}
use Rattle.em_segment.proofs.NodeBounds.{NodeNumbers, node_room, node_within}
use Rattle.em_segment.proofs.NodeSizes.{lists_most}
use Rattle.em_segment.proofs.NodeStands.{NodeStands, same_weight, down_of, stands_ascends, stands_due, stands_full, stands_some, stands_strips}
use Rattle.em_segment.proofs.NodeStops.{NodeSoFar}
use Rattle.em_segment_parts.proofs.Parts.{reports_stop, shift_right_stops, shift_stops, writes_stops}

-- What a node's chains are, in numbers.
module _ {most : ℕ} {s u : RigState} {points pieces : Chain} {w : Writer} {strips : List Chain}
    {l : Lists} (call : IsCall s points pieces w) (big : load_of s.pool.shape < points.count)
    (h : NodeStands most s u points pieces strips l) (y : IsTrue s.device.told) where
  pub stands_lists : ListBlocks (fan_root s.pool.shape) (payload_in s) pieces.count
      (down_of s u strips pieces) (weight s points pieces) pieces.blocks (lists_held l)
      (lists_of (length strips))
  stands_lists =
      let len = length_items s pieces call.pieces_are.is y in
      let weigh = pieces_weigh (chain_items s points) (chain_items s pieces) in
      let down = node_down (chains_lists u strips) (chain_items s pieces) (stands_some call h y)
      (stands_ascends call h y) in
      let full = stands_full call h y in
      record {
        few = lists_most (fan_root s.pool.shape) (length strips) h.few;
        pieces_most = omega (arith, len, weigh);
        down_most = rw (same_weight call h y) at down;
        pieces = chain_filled call.sound call.pieces_are y;
        lists = omega (arith, full);
      }

  pub stands_numbers : NodeNumbers (fan_root s.pool.shape) (wide_of s.pool.shape) s.pool.shape.block
      (payload_in s) points.count (weight s points pieces) points.blocks (chains_held strips)
      (length strips) pieces.blocks (lists_held l) (lists_of (length strips))
  stands_numbers = record {
    pieces = pieces.count;
    down = down_of s u strips pieces;
    sized = shape_sized s.pool.shape call.sound.shape;
    big = big;
    strips = stands_strips call h y;
    lists = stands_lists;
  }

  -- A node that was refused while it reported.
  pub report_moves : (report : ℕ)
      → report * payload_in s
      ≤ chains_held strips * payload_in s + length (due s points pieces) + 2 * points.count
      + 2 * (length strips * load_of s.pool.shape) + lists_held l * payload_in s
      → (2 * points.blocks + 2 * chains_held strips + length strips
      + (2 * pieces.blocks + 2 * lists_held l + 2 * lists_of (length strips)) + report) * payload_in s
      ≤ 56 * points.count + 10 * weight s points pieces + length (due s points pieces)
  report_moves report r = report_pays _ _ _ _ _ _ (down_of s u strips pieces) _ (length (due s points pieces)) _ _ _ _ _ _ report
      (shape_sized s.pool.shape call.sound.shape) big (stands_strips call h y) stands_lists r

  -- A node that wrote f pairs.
  pub whole_moves : (report f : ℕ)
      → report * payload_in s
      ≤ chains_held strips * payload_in s + f + 2 * points.count
      + 2 * (length strips * load_of s.pool.shape)
      → (2 * points.blocks + 2 * chains_held strips + length strips
      + (2 * pieces.blocks + 2 * lists_held l + 2 * lists_of (length strips)) + report
      + 2 * lists_held l) * payload_in s
      ≤ 56 * points.count + 10 * weight s points pieces + f
  whole_moves report f r = node_pays _ _ _ _ _ _ (down_of s u strips pieces) _ f _ _ _ _ _ _ report
      (shape_sized s.pool.shape call.sound.shape) big (stands_strips call h y) stands_lists
      (stands_full call h y) r

-- It gave up while it reported its pairs.
pub node_unreported : {s u v : RigState} {points pieces : Chain} {w : Writer} {most : ℕ}
    {strips : List Chain} {l : Lists} {fault : EmFault} → IsCall s points pieces w
    → load_of s.pool.shape < points.count → NodeSoFar most 0 s u points pieces strips l w w []
    → StopsStrips (slabs_from 0 (length strips)) 0 u v strips (slabs_in l) w fault
    → StopsAnswering s v points pieces w fault
node_unreported {s} {u} {v} {points} {pieces} {w} {most} {strips} {l} {fault} call big h k =
    let st = h.stands in
    let peak = max h.peak (chains_held strips + lists_held l) in
    let extra = h.extra + k.extra in
    record {
      peak = peak;
      extra = extra;
      tried = 0 + k.tried;
      stops = reports_stop [] h.reports (writes_stops (chains_held strips + lists_held l)
          (chains_blocks u strips ++ lists_blocks u l) k.stops);
      few = λ y.
          let f = k.few (st.told_is ∙ y) in
          let d = stands_due call st y in
          omega (arith, f, d);
      within = λ y.
          let n = stands_numbers call big st y in
          let d = stands_due call st y in
          let count = st.count_is in
          let L = load_of s.pool.shape in
          let same : payload_in u ≡ payload_in s = ap payload_of st.shape_is in
          let area : load_of u.pool.shape ≡ L = ap load_of st.shape_is in
          let m = rw (same, area) at (k.moves (st.told_is ∙ y)) in
          let paid = report_moves call big st y k.extra (omega (arith, m, d, count)) in
          let extra_is = h.extra_is in
          let peak_is = h.peak_is in
          let all : extra ≤ 2 * points.blocks + 2 * chains_held strips + length strips
          + (2 * pieces.blocks + 2 * lists_held l + 2 * lists_of (length strips)) + k.extra =
          omega (arith, extra_is) in
          let t = mul-le-mul_right (payload_in s) all in
          node_within s points pieces peak extra (node_room peak n (omega (arith, peak_is)))
          (omega (arith, t, paid));
    }

-- It gave up while it dropped lists.
pub node_undropped : {s u v x : RigState} {points pieces : Chain} {w k : Writer} {most : ℕ}
    {strips : List Chain} {l : Lists} {fault : EmFault} → IsCall s points pieces w
    → load_of s.pool.shape < points.count → NodeSoFar most 0 s u points pieces strips l w w []
    → (r : ReportsStrips (slabs_from 0 (length strips)) 0 u v strips (slabs_in l) w k)
    → NodeSoFar most r.extra s v points pieces strips l w k r.written
    → StopsShifting (chains_held (slabs_in l)) (2 * chains_held (slabs_in l))
    (chains_blocks v (slabs_in l)) (chains_held (slabs_in l)) v x fault
    → StopsAnswering s x points pieces w fault
node_undropped {s} {u} {v} {x} {points} {pieces} {w} {k} {most} {strips} {l} {fault} call big a r h d =
    let st = a.stands in
    let hs = chains_held (slabs_in l) in
    let hd = chains_held (down_in l) in
    let out = chains_held strips in
    let peak = max h.peak (out + (hd + hs)) in
    let extra = h.extra + 2 * hs in
    let here : IsTrue s.device.told → length r.written ≤ length (due s points pieces) =
    λ y.
    let e = alike_length (r.alike (st.told_is ∙ y)) in
    let d = stands_due call st y in
    omega (arith, e, d) in
    record {
      peak = peak;
      extra = extra;
      tried = length r.written + 0;
      stops = reports_stop r.written h.reports (shift_stops h.stands.sound h.pairs
          (shift_right_stops (chains_blocks v strips) out
          (shift_right_stops (chains_blocks v (down_in l)) hd d)));
      few = λ y. let n = here y in omega (arith, n);
      within = λ y.
          let n = stands_numbers call big st y in
          let f = here y in
          let count = st.count_is in
          let same : payload_in u ≡ payload_in s = ap payload_of st.shape_is in
          let area : load_of u.pool.shape ≡ load_of s.pool.shape = ap load_of st.shape_is in
          let m = rw (same, area) at (r.moves (st.told_is ∙ y)) in
          let paid = whole_moves call big st y r.extra (length (due s points pieces))
          (omega (arith, m, f, count)) in
          let extra_is = h.extra_is in
          let peak_is = h.peak_is in
          let all : extra ≤ 2 * points.blocks + 2 * out + length strips
          + (2 * pieces.blocks + 2 * lists_held l + 2 * lists_of (length strips)) + r.extra
          + 2 * lists_held l =
          omega (arith, extra_is) in
          let t = mul-le-mul_right (payload_in s) all in
          node_within s points pieces peak extra (node_room peak n (omega (arith, peak_is)))
          (omega (arith, t, paid));
    }
