-- A strip's points with an area that is lent for them.
use Rattle.std.proofs.Common.{◌≡◌, ℕ, List, [], map, sym, ap, subst, ◌∙◌, IsTrue, Result, Ok, Err}
use Rattle.em_record.specs.Shape.{ShapeNumbers}
use Rattle.em_record.specs.declared.record.Record.{Record}
use Rattle.em_frames.specs.Pool.{SameFrames, load_of}
use Rattle.em_space.specs.Rig.{RigState, Sound}
use Rattle.em_space.specs.declared.fault.EmFault.{EmFault}
use Rattle.em_space.proofs.Held.{apart_none}
use Rattle.em_chain.specs.Chain.{ChainStays, chain_blocks, chain_items, payload_in}
use Rattle.em_chain.specs.Writer.{WriterHasFrame}
use Rattle.em_chain.specs.declared.chain.Chain.{Chain}
use Rattle.em_chain.specs.declared.writer.Writer.{Writer}
use Rattle.em_chain.proofs.Keeps.{payload_kept}
use Rattle.em_chain.proofs.Laws.{chain_stays}
use Rattle.em_segment_model.specs.Alike.{Alike}
use Rattle.em_segment_model.specs.Points.{asked_in, interval_in}
use Rattle.em_segment_model.specs.Reports.{slab_pairs}
use Rattle.em_segment_model.specs.Slabs.{Slab}
use Rattle.em_segment_parts.specs.Chains.{ChainsStay, chains_blocks, chains_lists}
use Rattle.em_segment_parts.specs.Strips.{AreNumbered, CanReportStrip, ReportsStripTo, strip_due}
use Rattle.em_segment_parts.proofs.Areas.{GivesArea, LendsArea, area_blocks, area_pairs, area_refused, area_writes}
use Rattle.em_segment_parts.proofs.Chains.{chains_stay}

-- What the call did, whatever its result.
pub strip_goes : {T : Type 0} (a b : RigState) (slabs : List Slab) (k : ℕ) (points : Chain)
    (lists : List Chain) (w v : Writer) (result : Result T EmFault)
    → ReportsStripTo slabs k a b points lists w v result → Sound b × SameFrames a.pool b.pool
strip_goes a b slabs k points lists w v (Ok x) h = (h.writes.runs.session.sound, h.writes.runs.frames)
strip_goes a b slabs k points lists w v (Err e) h = (h.stops.stops.goes.sound, h.stops.stops.goes.frames)

module _ {s a : RigState} {points : Chain} {lists : List Chain} {w : Writer}
    (can : CanReportStrip s points lists w) (l : LendsArea s a) where
  points_lent : ChainStays s a points
  points_lent = chain_stays [] s a points l.touches (λ z. apart_none (chain_blocks s points)) can.points_are.is

  lists_lent : ChainsStay s a lists
  lists_lent = chains_stay [] s a lists l.touches (λ z. apart_none (chains_blocks s lists))
      can.lists_can.are

  -- the strip may be reported on with the area lent
  pub strip_lent : CanReportStrip a points lists w
  strip_lent =
      let i = can.lists_can in
      let one = points_lent in
      let st = lists_lent in
      let back : IsTrue a.device.told → IsTrue s.device.told = λ y. sym l.touches.told ∙ y in
      record {
        points_are = record {
          is = one.is;
          packed = λ y. one.packed (back y) (can.points_are.packed (back y));
          few = can.points_are.few;
        };
        points_apart = λ y.
            rw (one.blocks (back y), area_blocks i.pairs l (back y)) (can.points_apart (back y));
        lists_can = record {
          are = st.are;
          pairs = area_pairs i.pairs l;
          apart = λ y.
              rw (st.blocks (back y), area_blocks i.pairs l (back y)) (i.apart (back y));
          numbered = λ y.
              subst (λ (xss : List (List Record)). AreNumbered (map (map interval_in) xss))
              (sym (st.lists (back y))) (i.numbered (back y));
        };
      }

  -- what is due is the same
  due_lent : (slabs : List Slab) (k : ℕ) → IsTrue s.device.told
      → strip_due slabs k a points lists ≡ strip_due slabs k s points lists
  due_lent slabs k z =
      ap (λ (xss : List (List Record)). slab_pairs slabs (map (map interval_in) xss) k
      (map asked_in (chain_items a points))) (lists_lent.lists z)
      ∙ ap (λ (xs : List Record). slab_pairs slabs (map (map interval_in) (chains_lists s lists)) k
      (map asked_in xs)) (points_lent.items z)

-- The strip was reported on, from before the area was lent to after it was given back.
pub strip_area : {T : Type 0} {s a b t : RigState} {points : Chain} {lists : List Chain} {w : Writer}
    (slabs : List Slab) (k : ℕ) (v : Writer) (result : Result T EmFault)
    → CanReportStrip s points lists w → LendsArea s a → ReportsStripTo slabs k a b points lists w v result
    → GivesArea b t → ReportsStripTo slabs k s t points lists w v result
strip_area {s = s} {a = a} {points = points} {lists = lists} slabs k v (Ok x) can l h g =
    let pa : payload_in a ≡ payload_in s = payload_kept [] s a l.touches in
    let la : load_of a.pool.shape ≡ load_of s.pool.shape = ap load_of l.touches.shape in
    record {
      written = h.written;
      extra = h.extra;
      writes = area_writes can.lists_can.pairs l h.writes g;
      alike = λ z. subst (Alike h.written) (due_lent can l slabs k z) (h.alike (l.touches.told ∙ z));
      moves = λ z. rw (pa, la) at (h.moves (l.touches.told ∙ z));
    }
strip_area {s = s} {a = a} {points = points} {lists = lists} slabs k v (Err fault) can l h g =
    let pa : payload_in a ≡ payload_in s = payload_kept [] s a l.touches in
    let la : load_of a.pool.shape ≡ load_of s.pool.shape = ap load_of l.touches.shape in
    record {
      tried = h.tried;
      extra = h.extra;
      stops = area_refused can.lists_can.pairs l h.stops g;
      few = λ z. rw (due_lent can l slabs k z) at (h.few (l.touches.told ∙ z));
      moves = λ z. rw (pa, la, due_lent can l slabs k z) at (h.moves (l.touches.told ∙ z));
    }

-- The pairs have their frame after an area was given back.
pub area_frame : {b t : RigState} (v : Writer) → WriterHasFrame b v → GivesArea b t
    → WriterHasFrame t v
area_frame v f g = record {
  len_is = f.len_is ∙ ap (λ (m : ShapeNumbers). m.block) (sym g.touches.shape);
  out = rw (g.touches.shape, g.free) f.out;
}
