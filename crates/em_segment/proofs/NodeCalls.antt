-- What a node's calls ask, and what they say of the chains that stand in lists.
use Rattle.std.proofs.Common.{◌≡◌, ℕ, ◌≤◌, List, [], ◌++◌, length, map, sym, ap, subst, ◌∙◌, arith, IsTrue, Result, Ok, Err, IsErrAnd}
use Rattle.std.specs.Int.{div_ceil}
use Rattle.arrayvec.specs.ArrayVec.{ArrayVec}
use Rattle.em_record.specs.declared.record.Record.{Record}
use Rattle.em_frames.specs.Pool.{SameFrames}
use Rattle.em_space.specs.Held.{Holds}
use Rattle.em_space.specs.Rig.{RigState, Sound}
use Rattle.em_space.specs.declared.fault.EmFault.{EmFault}
use Rattle.em_chain.specs.Chain.{chain_items}
use Rattle.em_chain.specs.Writer.{WriterHasFrame, writer_blocks}
use Rattle.em_chain.specs.declared.chain.Chain.{Chain}
use Rattle.em_chain.specs.declared.writer.Writer.{Writer}
use Rattle.em_chain.proofs.Keeps.{has_kept}
use Rattle.em_segment_model.specs.Sizes.{fan_root}
use Rattle.em_segment_model.specs.Slabs.{slabs_from}
use Rattle.em_segment_model.specs.Spans.{value_span}
use Rattle.em_segment.specs.Answers.{IsCall, StopsAnswering}
use Rattle.em_segment.specs.Belows.{AnswersNodeTo}
use Rattle.em_segment_parts.specs.Chains.{chains_blocks, chains_in, chains_lists}
use Rattle.em_segment_parts.specs.Deals.{down_in, lists_blocks, slabs_in}
use Rattle.em_segment_parts.specs.Splits.{Splits, strips_in}
use Rattle.em_segment_parts.specs.Strips.{CanReportStrips, ReportsStrips, StopsStrips}
use Rattle.em_segment_parts.specs.declared.dealing.Lists.{Lists}
use Rattle.em_segment_parts.specs.declared.list.Listed.{Listed}
use Rattle.em_segment.specs.declared.node.Below.{Below}
use Rattle.em_segment_parts.specs.declared.splitting.Strips.{Strips}
use Rattle.em_segment_parts.proofs.Chains.{chains_length}
use Rattle.em_segment.proofs.NodeBounds.{strips_reached}
use Rattle.em_segment.proofs.NodeParts.{strips_reportable}
use Rattle.em_segment.proofs.NodeStops.{NodeSoFar}
use Rattle.em_segment_parts.proofs.Parts.{reports_holds}
use Rattle.em_segment_parts.proofs.Regrouping.{holds_first, holds_second}

-- A writer has its frame still, if as many are free.
pub frame_kept : (s t : RigState) (w : Writer) → SameFrames s.pool t.pool → WriterHasFrame s w
    → WriterHasFrame t w
frame_kept s t w f h = has_kept 1 (length w.frame) s.pool t.pool f h

-- A node has no more strips than it may.
pub node_few : {s t : RigState} {points : Chain} {most : ℕ} {z : Strips} → Sound s
    → most ≡ div_ceil points.count (fan_root s.pool.shape) → Splits most s t points z
    → length (strips_in z) ≤ fan_root s.pool.shape
node_few {s} {t} {points} {most} {z} h e sp =
    let few = strips_reached s.pool.shape points.count most (length z.points.items) h.shape e sp.few in
    let long = chains_length z.points.items in
    omega (arith, few, long)

-- Its strips may be reported.
pub node_reportable : {most : ℕ} {s u : RigState} {points pieces : Chain} {w : Writer}
    {strips : List Chain} (l : Lists) → IsCall s points pieces w
    → NodeSoFar most 0 s u points pieces strips l w w [] → CanReportStrips u strips (slabs_in l) w
node_reportable {most} {s} {u} {points} {pieces} {w} {strips} l call h =
    let st = h.stands in
    let back : IsTrue u.device.told → IsTrue s.device.told = λ y. sym st.told_is ∙ y in
    strips_reportable strips l h.pairs st.are st.slabs_are (reports_holds h.reports)
    (map value_span (chains_lists u strips)) (chain_items s pieces) (λ y. st.slabs_is (back y))
    (λ y. call.numbered (back y))

-- The lists of multislabs are held.
pub node_listed : {most n : ℕ} {s v : RigState} {points pieces : Chain} {w k : Writer}
    {strips : List Chain} {xs : List Record} (l : Lists)
    → NodeSoFar most n s v points pieces strips l w k xs → IsTrue v.device.told
    → Holds v (chains_blocks v (slabs_in l))
node_listed {most} {n} {s} {v} {points} {pieces} {w} {k} {strips} {xs} l h y =
    holds_second (chains_blocks v (down_in l)) (chains_blocks v (slabs_in l))
    (holds_second (chains_blocks v strips) (lists_blocks v l)
    (holds_first (chains_blocks v strips ++ lists_blocks v l) (writer_blocks v k)
    (reports_holds h.reports y)))

-- as many of multislabs as the strips have
pub node_wide : {most n : ℕ} {s u : RigState} {points pieces : Chain} {w k : Writer}
    {xs : List Record} (list : ArrayVec Listed) (l : Lists)
    → NodeSoFar most n s u points pieces (chains_in list.items) l w k xs
    → length l.slabs.items ≡ length (slabs_from 0 (length list.items))
node_wide list l h =
    let wide = h.stands.slabs_len in
    let a = chains_length l.slabs.items in
    let b = ap (λ (n : ℕ). length (slabs_from 0 n)) (chains_length list.items) in
    sym a ∙ (wide ∙ b)

-- Strips that stand in a list were reported,
pub listed_reports : {u v : RigState} {lists : List Chain} {w k : Writer} (ls : List Listed)
    → ReportsStrips (slabs_from 0 (length ls)) 0 u v (chains_in ls) lists w k
    → ReportsStrips (slabs_from 0 (length (chains_in ls))) 0 u v (chains_in ls) lists w k
listed_reports {u} {v} {lists} {w} {k} ls h =
    subst (λ (n : ℕ). ReportsStrips (slabs_from 0 n) 0 u v (chains_in ls) lists w k)
    (sym (chains_length ls)) h

-- or weren't.
pub listed_stops : {u v : RigState} {lists : List Chain} {w : Writer} {e : EmFault} (ls : List Listed)
    → StopsStrips (slabs_from 0 (length ls)) 0 u v (chains_in ls) lists w e
    → StopsStrips (slabs_from 0 (length (chains_in ls))) 0 u v (chains_in ls) lists w e
listed_stops {u} {v} {lists} {w} {e} ls h =
    subst (λ (n : ℕ). StopsStrips (slabs_from 0 n) 0 u v (chains_in ls) lists w e)
    (sym (chains_length ls)) h

-- by the result
pub node_err : (most : ℕ) (s t : RigState) (points pieces : Chain) (w v : Writer)
    (result : Result Below EmFault) (e : EmFault) → IsErrAnd result (λ f. f ≡ e)
    → StopsAnswering s t points pieces w e → AnswersNodeTo most s t points pieces w v result
node_err most s t points pieces w v (Ok x) e h k = absurd h
node_err most s t points pieces w v (Err f) e h k =
    subst (λ (n : EmFault). StopsAnswering s t points pieces w n) (sym h) k
