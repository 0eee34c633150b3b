-- A call for which an area is lent.
use Rattle.std.proofs.Common.{◌≡◌, ℕ, ◌+◌, ◌*◌, ◌^◌, List, [], ◌++◌, map, refl, sym, ap, subst, ◌∙◌, arith, IsTrue, Result, Ok, Err}
use Rattle.std.proofs.lemmas.List.{append-nil}
use Rattle.em_record.specs.Shape.{ShapeNumbers, fan_of}
use Rattle.em_record.specs.declared.record.Record.{Record}
use Rattle.em_model.specs.Ascending.{Ascend}
use Rattle.em_model.specs.Stab.{NumberedInterval}
use Rattle.em_frames.specs.Pool.{SameFrames}
use Rattle.em_space.specs.Held.{Holds}
use Rattle.em_space.specs.Rig.{RigState, Sound, Touches}
use Rattle.em_space.specs.declared.fault.EmFault.{EmFault}
use Rattle.em_space.proofs.Held.{apart_none}
use Rattle.em_space.proofs.Sessions.{session_still}
use Rattle.em_chain.specs.Chain.{ChainStays, chain_blocks, chain_items, payload_in}
use Rattle.em_chain.specs.Writer.{WriterStays, filled, writer_blocks}
use Rattle.em_chain.specs.declared.chain.Chain.{Chain}
use Rattle.em_chain.specs.declared.writer.Writer.{Writer}
use Rattle.em_chain.proofs.Keeps.{payload_kept}
use Rattle.em_chain.proofs.Laws.{chain_stays}
use Rattle.em_chain.proofs.Sessions.{wrote_stays, wrote_then}
use Rattle.em_segment_model.specs.Alike.{Alike}
use Rattle.em_segment_model.specs.Points.{interval_in}
use Rattle.em_segment.specs.Answers.{Answered, AnswersTo, IsCall, StopsAnswering, WithinCall, call_blocks, due, weight}
use Rattle.em_segment_parts.specs.Chains.{IsPackedChain}
use Rattle.em_segment_parts.specs.Reports.{unstored_most}
use Rattle.em_segment_parts.proofs.Areas.{GivesArea, LendsArea, area_pairs, area_runs, area_stops, area_writer}

chain_there : {s a : RigState} {c : Chain} → IsPackedChain s c → Touches [] s a → ChainStays s a c
chain_there {s} {a} {c} i g = chain_stays [] s a c g (λ z. apart_none (chain_blocks s c)) i.is

packed_there : {s a : RigState} {c : Chain} → IsPackedChain s c → Touches [] s a → IsPackedChain a c
packed_there {s} {a} {c} i g =
    let st = chain_there i g in
    record {
      is = st.is;
      packed = λ y. let z : IsTrue s.device.told = sym g.told ∙ y in st.packed z (i.packed z);
      few = i.few;
    }

-- what a call did, whatever its result
pub answers_go : {T : Type 0} (a b : RigState) (points pieces : Chain) (w v : Writer)
    (result : Result T EmFault) → AnswersTo a b points pieces w v result
    → Sound b × SameFrames a.pool b.pool
answers_go a b points pieces w v (Ok x) h = (h.reports.runs.session.sound, h.reports.runs.frames)
answers_go a b points pieces w v (Err e) h = (h.stops.stops.goes.sound, h.stops.stops.goes.frames)

module _ {s a : RigState} {points pieces : Chain} {w : Writer} (call : IsCall s points pieces w)
    (l : LendsArea s a) where
  writer_there : WriterStays s a w
  writer_there = area_writer call.pairs.writer l.touches l.free

  blocks_there : IsTrue s.device.told → call_blocks a points pieces ++ writer_blocks a w
      ≡ call_blocks s points pieces ++ writer_blocks s w
  blocks_there z =
      rw (
        (chain_there call.points_are l.touches).blocks z,
        (chain_there call.pieces_are l.touches).blocks z,
        writer_there.blocks z,
      ) refl

  points_there : IsTrue s.device.told → chain_items a points ≡ chain_items s points
  points_there = (chain_there call.points_are l.touches).items

  pieces_there : IsTrue s.device.told → chain_items a pieces ≡ chain_items s pieces
  pieces_there = (chain_there call.pieces_are l.touches).items

  -- The call may be answered with the area lent,
  pub call_lent : IsCall a points pieces w
  call_lent =
      let back : IsTrue a.device.told → IsTrue s.device.told = λ y. sym l.touches.told ∙ y in
      let held = call_blocks s points pieces ++ writer_blocks s w in
      record {
        sound = l.sound;
        points_are = packed_there call.points_are l.touches;
        pieces_are = packed_there call.pieces_are l.touches;
        pairs = area_pairs call.pairs l;
        blocks = λ y. subst (Holds a) (sym (blocks_there (back y)))
            ((session_still held l.sound l.touches call.blocks).holds (back y));
        ordered = λ y. rw (points_there (back y)) (call.ordered (back y));
        numbered = λ y. subst (λ (xs : List Record).
            Ascend (λ (i : NumberedInterval). i.number) 0 (map interval_in xs) (2 ^ 40))
            (sym (pieces_there (back y))) (call.numbered (back y));
      }

  due_there : IsTrue s.device.told → due a points pieces ≡ due s points pieces
  due_there z = rw (points_there z, pieces_there z) refl

  weight_there : IsTrue s.device.told → weight a points pieces ≡ weight s points pieces
  weight_there z = rw (points_there z, pieces_there z) refl

  within_there : {peak extra : ℕ} → IsTrue s.device.told → WithinCall a points pieces peak extra
      → WithinCall s points pieces peak extra
  within_there z h =
      let pa : payload_in a ≡ payload_in s = payload_kept [] s a l.touches in
      record {
        moves = rw (weight_there z, due_there z, pa, l.touches.shape) at h.moves;
        room = rw (weight_there z, pa, l.touches.shape) at h.room;
      }

  -- and is answered when it came back,
  call_answered : {b t : RigState} {v : Writer} → Answered a b points pieces w v → GivesArea b t
      → Answered s t points pieces w v
  call_answered {b} {t} {v} h g =
      let r = h.reports in
      let m = area_writer r.wrote.is g.touches g.free in
      let xs = h.written in
      let wrote = wrote_then [] (xs ++ []) (wrote_stays l.touches.told writer_there)
      (wrote_then xs [] r.wrote (wrote_stays g.touches.told m)) in
      record {
        written = h.written;
        peak = h.peak;
        extra = h.extra;
        reports = record {
          runs = area_runs (call_blocks s points pieces ++ writer_blocks s w) (writer_blocks t v) call.blocks
              l blocks_there r.runs g m.blocks;
          wrote = rw (append-nil xs) at wrote;
          grows = r.grows;
          few = r.few;
        };
        alike = λ z. subst (Alike h.written) (due_there z) (h.alike (l.touches.told ∙ z));
        within = λ z. within_there z (h.within (l.touches.told ∙ z));
      }

  -- or not.
  call_refused : {b t : RigState} {e : EmFault} → StopsAnswering a b points pieces w e → GivesArea b t
      → StopsAnswering s t points pieces w e
  call_refused {b} {t} {e} h g =
      let pa : payload_in a ≡ payload_in s = payload_kept [] s a l.touches in
      let f : filled a w + h.tried ≡ filled s w + h.tried =
      let x = writer_there.filled_is in omega (arith, x) in
      let free : unstored_most a ≡ unstored_most s =
      ap (λ (n : ShapeNumbers). 2 * fan_of n + 2) l.touches.shape in
      let k = rw (f, pa, free) at h.stops.stops in
      record {
        peak = h.peak;
        extra = h.extra;
        tried = h.tried;
        stops = record {
          stops = area_stops (call_blocks s points pieces ++ writer_blocks s w) l blocks_there k g;
        };
        few = λ z. rw (due_there z) at (h.few (l.touches.told ∙ z));
        within = λ z. within_there z (h.within (l.touches.told ∙ z));
      }

  pub call_by : {T : Type 0} {b t : RigState} (v : Writer) (result : Result T EmFault)
      → AnswersTo a b points pieces w v result → GivesArea b t → AnswersTo s t points pieces w v result
  call_by v (Ok x) h g = call_answered h g
  call_by v (Err e) h g = call_refused h g
