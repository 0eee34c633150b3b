-- A leaf's call: its points are taken into a load, which is put against its pieces.
use Rattle.std.proofs.Common.{◌≡◌, ◌+◌, ◌*◌, List, [], ◌++◌, take, refl, sym, ap, subst, ◌∙◌, arith, IsTrue, Result, Ok, Err, IsErrAnd}
use Rattle.em_record.specs.Order.{in_order}
use Rattle.em_record.specs.declared.record.Record.{Record}
use Rattle.em_record.proofs.Commutes.{order_ascending}
use Rattle.em_space.specs.Held.{Holds}
use Rattle.em_space.specs.Ledger.{Stops}
use Rattle.em_space.specs.Rig.{RigState}
use Rattle.em_space.specs.declared.fault.EmFault.{EmFault}
use Rattle.em_space.proofs.Lists.{apart_sym, distinct_apart, distinct_left}
use Rattle.em_space.proofs.Runs.{stops_wider}
use Rattle.em_chain.specs.Chain.{ChainStays, chain_blocks, chain_items}
use Rattle.em_chain.specs.Writer.{writer_blocks}
use Rattle.em_chain.specs.declared.chain.Chain.{Chain}
use Rattle.em_chain.specs.declared.writer.Writer.{Writer}
use Rattle.em_chain.proofs.Laws.{chain_stays}
use Rattle.em_segment_model.specs.Alike.{Alike}
use Rattle.em_segment_model.specs.Loads.{leaf_list}
use Rattle.em_segment_model.proofs.Leaf.{leaf_reported}
use Rattle.em_segment_parts.specs.Accounts.{stored}
use Rattle.em_segment.specs.Answers.{Answered, AnswersTo, IsCall, StopsAnswering, call_blocks, due}
use Rattle.em_segment.specs.Leaves.{CanReportPieces, ReportsPieces, ReportsPiecesTo, StopsReportingPieces}
use Rattle.em_segment_parts.specs.Loads.{TakesLoad}
use Rattle.em_segment_parts.specs.Reports.{Reports}
use Rattle.em_segment_parts.proofs.Alikes.{alike_length}
use Rattle.em_segment.proofs.CallSizes.{call_within}
use Rattle.em_segment_parts.proofs.Parting.{reports_beside, reports_as, stops_beside, stops_as}
use Rattle.em_segment_parts.proofs.Parts.{reports_pairs, reports_stop, reports_then, shift_reports, shift_stops}
use Rattle.em_segment_parts.proofs.Regrouping.{holds_first, holds_same, tally_is, tally_last}

module _ {s : RigState} {points pieces : Chain} {w : Writer} (call : IsCall s points pieces w) where
  -- the points' blocks and the pairs'
  points_held : IsTrue s.device.told → Holds s (chain_blocks s points ++ writer_blocks s w)
  points_held z =
      let h = call.blocks z in
      let P = chain_blocks s points in
      let Q = chain_blocks s pieces in
      let W = writer_blocks s w in
      holds_first (P ++ W) Q (holds_same ((P ++ Q) ++ W) ((P ++ W) ++ Q) (tally_last P Q W) h)

  module _ {t : RigState} {area : List Record} (h : TakesLoad s t points area) where
    pieces_stay : ChainStays s t pieces
    pieces_stay = chain_stays (chain_blocks s points) s t pieces h.runs.session.touches
        (λ z. apart_sym (chain_blocks s points) (chain_blocks s pieces)
        (distinct_apart (chain_blocks s points) (chain_blocks s pieces)
        (distinct_left (call_blocks s points pieces) (writer_blocks s w) ((call.blocks z).distinct z))))
        call.pieces_are.is

    -- the points were taken while the pairs waited,
    points_gone : Reports points.blocks (2 * points.blocks) (chain_blocks s points) [] points.blocks 0 s t
        w w []
    points_gone = shift_reports call.pairs points_held h.runs

    -- and the pieces
    pub points_taken : Reports (points.blocks + pieces.blocks) (2 * points.blocks)
        (call_blocks s points pieces) (chain_blocks t pieces) (points.blocks + pieces.blocks) pieces.blocks
        s t w w []
    points_taken =
        reports_as (call_blocks s points pieces) (chain_blocks t pieces) (omega arith) (omega arith) refl
        (omega arith) (λ z j. refl) (λ z. tally_is (sym (pieces_stay.blocks z)))
        (reports_beside (chain_blocks s pieces) pieces.blocks call.blocks points_gone)

    -- The pieces may be put against the load.
    pub load_ready : CanReportPieces t pieces w
    load_ready =
        let back : IsTrue t.device.told → IsTrue s.device.told = λ y. sym h.runs.session.touches.told ∙ y in
        record {
          chain = pieces_stay.is;
          pairs = reports_pairs call.pairs points_taken;
          apart = λ y. distinct_apart (chain_blocks t pieces) (writer_blocks t w)
              ((points_taken.runs.session.holds (back y)).distinct y);
        }

    -- the load has all points, in their order
    load_is : (load : List Record) → load ≡ in_order (take points.count area) → IsTrue s.device.told
        → load ≡ chain_items s points
    load_is load e z =
        e ∙ (ap in_order (sym (h.items z)) ∙ order_ascending (chain_items s points) (call.ordered z))

    load_due : (load : List Record) → load ≡ in_order (take points.count area) → IsTrue s.device.told
        → Alike (leaf_list load (chain_items t pieces)) (due s points pieces)
    load_due load e z =
        rw (load_is load e z, pieces_stay.items z)
        (leaf_reported (chain_items s points) (chain_items s pieces))

    -- All pairs were written,
    pub load_answered : {u : RigState} {v : Writer} (load : List Record)
        → load ≡ in_order (take points.count area) → ReportsPieces load t u pieces w v
        → Answered s u points pieces w v
    load_answered {u} {v} load e g =
        let all = reports_then [] g.written points_taken g.reports in
        let told = h.runs.session.touches.told in
        record {
          written = g.written;
          peak = points.blocks + pieces.blocks;
          extra = 2 * points.blocks + 2 * pieces.blocks;
          reports = reports_as (call_blocks s points pieces) [] (omega arith) (omega arith) refl refl
              (λ z j. refl) (λ z j. refl) all;
          alike = λ z. rw (g.is (told ∙ z)) (load_due load e z);
          within = λ z. call_within call z (omega arith) (omega arith);
        }

    -- or not.
    pub load_refused : {u : RigState} {f : EmFault} (load : List Record)
        → load ≡ in_order (take points.count area) → StopsReportingPieces load t u pieces w f
        → StopsAnswering s u points pieces w f
    load_refused {u} {f} load e g =
        let all = reports_stop [] points_taken g.stops in
        let told = h.runs.session.touches.told in
        record {
          peak = points.blocks + pieces.blocks;
          extra = 2 * points.blocks + 2 * pieces.blocks;
          tried = g.tried;
          stops = stops_as (call_blocks s points pieces) call.sound (omega arith) (omega arith)
              (omega arith) refl (λ z j. refl) all;
          few = λ z.
              let n = alike_length (load_due load e z) in
              let m = g.few (told ∙ z) in
              omega (arith, n, m);
          within = λ z. call_within call z (omega arith) (omega arith);
        }

    pub load_by : {T : Type 0} (u : RigState) (load : List Record) (v : Writer) (result : Result T EmFault)
        → load ≡ in_order (take points.count area) → ReportsPiecesTo load t u pieces w v result
        → AnswersTo s u points pieces w v result
    load_by u load v (Ok x) e g = load_answered load e g
    load_by u load v (Err f) e g = load_refused load e g

  -- The points couldn't be taken.
  pub points_refused : {t : RigState} {f : EmFault}
      → Stops points.blocks (2 * points.blocks) 0 (chain_blocks s points) (stored points.blocks) s t f
      → StopsAnswering s t points pieces w f
  points_refused {t} {f} k =
      let one = shift_stops call.sound call.pairs
      (record { stops = stops_wider (omega arith) (omega arith) (omega arith) k }) in
      record {
        peak = points.blocks + pieces.blocks;
        extra = 2 * points.blocks;
        tried = 0;
        stops = stops_beside (chain_blocks s pieces) pieces.blocks one;
        few = λ z. omega arith;
        within = λ z. call_within call z (omega arith) (omega arith);
      }

-- what the fault of a callee says of the result
pub answers_err : {T : Type 0} (s t : RigState) (points pieces : Chain) (w v : Writer)
    (result : Result T EmFault) (e : EmFault) → IsErrAnd result (λ f. f ≡ e)
    → StopsAnswering s t points pieces w e → AnswersTo s t points pieces w v result
answers_err s t points pieces w v (Ok x) e h k = absurd h
answers_err s t points pieces w v (Err f) e h k =
    subst (λ (d : EmFault). StopsAnswering s t points pieces w d) (sym h) k
