-- All pieces of a chain against a leaf's load, while a frame is lent for the reader.
use Rattle.std.proofs.Common.{◌≡◌, ℕ, ◌+◌, ◌<◌, ◌≤◌, min, true, List, [], ◌++◌, length, sym, ap, subst, ◌∙◌, arith, IsTrue, Result, Ok, Err}
use Rattle.std.proofs.lemmas.List.{append-nil}
use Rattle.em_record.specs.Shape.{ShapeNumbers}
use Rattle.em_record.specs.declared.record.Record.{Record}
use Rattle.em_frames.specs.Pool.{HasFrames, SameFrames}
use Rattle.em_space.specs.Free.{linked_from}
use Rattle.em_space.specs.Held.{Holds}
use Rattle.em_space.specs.Rig.{RigState}
use Rattle.em_space.specs.declared.fault.EmFault.{EmFault}
use Rattle.em_space.proofs.Held.{apart_none}
use Rattle.em_space.proofs.Ledgers.{full_by}
use Rattle.em_space.proofs.Lists.{apart_sym, distinct_join, in_use_append}
use Rattle.em_space.proofs.Paying.{pays_kept, pays_more, pays_then}
use Rattle.em_space.proofs.Sessions.{session_as, session_still, session_trans}
use Rattle.em_space.proofs.Steps.{cause_after, touches_then, touches_trans}
use Rattle.em_chain.specs.Chain.{chain_blocks, payload_in}
use Rattle.em_chain.specs.Effects.{GivesFrame, LendsFrame, Unmoved}
use Rattle.em_chain.specs.Reader.{reader_items, rest_of}
use Rattle.em_chain.specs.Reads.{Opens}
use Rattle.em_chain.specs.Session.{pair_blocks}
use Rattle.em_chain.specs.Writer.{IsWriter, WriterStays, filled, writer_blocks}
use Rattle.em_chain.specs.declared.chain.Chain.{Chain}
use Rattle.em_chain.specs.declared.reader.Reader.{Reader}
use Rattle.em_chain.specs.declared.writer.Writer.{Writer}
use Rattle.em_chain.proofs.Keeps.{lent_given, lent_same, payload_kept, touches_none}
use Rattle.em_chain.proofs.Laws.{writer_stays}
use Rattle.em_chain.proofs.Readers.{length_left}
use Rattle.em_chain.proofs.Sessions.{wrote_stays, wrote_then}
use Rattle.em_chain.proofs.Writings.{cause_still, halts_between, writer_lent}
use Rattle.em_segment_model.specs.Loads.{leaf_list}
use Rattle.em_segment.specs.Leaves.{CanReportPieces, ReportsPieces, ReportsPiecesTo, StopsPieces, StopsReportingPieces, TakesBeside, TakesPieces, TakesPiecesTo}
use Rattle.em_segment_parts.specs.Pairs.{IsPairs}
use Rattle.em_segment_parts.proofs.Gets.{nil_of}
use Rattle.em_segment_parts.proofs.Regrouping.{SameTally, off_same, session_same, tally_swap}

module _ {s a : RigState} {c : Chain} {w : Writer} {r : Reader} (can : CanReportPieces s c w)
    (l : LendsFrame s a) (m : Unmoved s a) (o : Opens s a c true r) where
  writer_there : WriterStays s a w
  writer_there = writer_lent can.pairs.writer l

  -- the reader's blocks are the chain's
  blocks_there : IsTrue s.device.told → pair_blocks a r w ≡ writer_blocks s w ++ chain_blocks s c
  blocks_there z =
      ap (λ (ks : List ℕ). ks ++ chain_blocks a (rest_of r)) (writer_there.blocks z)
      ∙ ap (λ (ks : List ℕ). writer_blocks s w ++ ks) (o.blocks z)

  held_swap : IsTrue s.device.told → SameTally (chain_blocks s c ++ writer_blocks s w) (pair_blocks a r w)
  held_swap z =
      subst (SameTally (chain_blocks s c ++ writer_blocks s w)) (sym (blocks_there z))
      (tally_swap (chain_blocks s c) (writer_blocks s w))

  held_here : IsTrue s.device.told → Holds s (chain_blocks s c ++ writer_blocks s w)
  held_here z =
      let x = (can.chain.told z).holds in
      let y = (can.pairs.writer.told z).holds in
      record {
        in_use = in_use_append s (chain_blocks s c) (writer_blocks s w) x.in_use y.in_use;
        distinct = λ q. distinct_join (chain_blocks s c) (writer_blocks s w) (x.distinct q) (y.distinct q)
            (can.apart z);
      }

  -- The reader and the pairs have other blocks.
  pub pieces_beside : TakesBeside a r w
  pieces_beside =
      let st = writer_there in
      let back : IsTrue a.device.told → IsTrue s.device.told = λ y. sym l.touches.told ∙ y in
      record {
        reader = o.is;
        taking = o.taking_is;
        pairs = record {
          writer = st.is;
          filled_is = let e = can.pairs.filled_is in omega (arith, st.filled_is, e);
          few = can.pairs.few;
          packed = λ y. st.packed (back y) (can.pairs.packed (back y));
        };
        apart = λ y.
            rw (st.blocks (back y), o.blocks (back y))
            (apart_sym (chain_blocks s c) (writer_blocks s w) (can.apart (back y)));
      }

-- The pairs' frame after the reader's came back.
writer_back : {s b t : RigState} {v w : Writer} → IsPairs s w → IsWriter b v → SameFrames s.pool t.pool
    → GivesFrame [] b t → WriterStays b t v
writer_back {s} {b} {t} {v} {w} i k f g =
    let has : HasFrames 1 (length v.frame) t.pool = record {
      len_is = k.frame.len_is ∙ ap (λ (n : ShapeNumbers). n.block) (sym g.frames.shape);
      out = rw (f.shape, f.free) i.writer.frame.out;
    } in
    writer_stays [] b t v g.touches (λ z. apart_none (writer_blocks b v)) has k

-- All pieces were taken,
pub pieces_reported : {load : List Record} {s a b t : RigState} {c : Chain} {r q : Reader} {w v : Writer}
    → CanReportPieces s c w → 0 < c.count → LendsFrame s a → Unmoved s a → Opens s a c true r
    → TakesPieces load c.count a b r q w v → GivesFrame [] b t → Unmoved b t
    → ReportsPieces load s t c w v
pieces_reported {load} {s} {a} {b} {t} {c} {r} {q} {w} {v} can some l m o h g n =
    let ys = leaf_list load h.pieces in
    let count = ap (λ (d : Chain). d.count) o.words in
    let blocks = ap (λ (d : Chain). d.blocks) o.words in
    let took = h.pairs.took in
    let left = took.left_is in
    let none : q.count ≡ 0 = omega (arith, left, count, h.len) in
    let gone : q.blocks ≡ 0 = took.none_left (λ e. absurd (omega (arith, e, some, count))) none in
    let frames = lent_given s.pool b.pool t.pool
    (lent_same 1 s.pool a.pool b.pool l.frames h.pairs.runs.frames) g.frames in
    let st = writer_lent can.pairs.writer l in
    let back = writer_back can.pairs h.pairs.wrote.is frames g in
    let last : IsTrue b.device.told → writer_blocks t v ≡ pair_blocks b q v =
    λ y. back.blocks y ∙ (sym (append-nil (writer_blocks b v))
    ∙ ap (λ (k : ℕ). writer_blocks b v ++ linked_from k b.device.contents q.head) (sym gone)) in
    let wrote = wrote_then [] (ys ++ []) (wrote_stays l.touches.told st)
    (wrote_then ys [] h.pairs.wrote (wrote_stays g.touches.told back)) in
    let e = h.pairs.runs.spends in
    let owed_is = o.owed_is in
    let used_l = m.same.used in
    let used_g = n.same.used in
    let most_l = m.same.most in
    let most_g = n.same.most in
    let moves_l = m.moves in
    let moves_g = n.moves in
    record {
      written = ys;
      is = λ z.
          let y : IsTrue a.device.told = l.touches.told ∙ z in
          let rest = nil_of (reader_items b q) (length_left b q took.is (took.told ∙ y) ∙ none) in
          let all : reader_items a r ≡ h.pieces =
          took.items y ∙ (ap (λ (xs : List Record). h.pieces ++ xs) rest ∙ append-nil h.pieces) in
          ap (leaf_list load) (sym all ∙ o.items z);
      reports = record {
        runs = record {
          session = session_trans (session_same (pair_blocks a r w)
              (session_still (chain_blocks s c ++ writer_blocks s w) l.sound l.touches
              (held_here can l m o)) (held_swap can l m o)) (session_trans h.pairs.runs.session
              (session_as (writer_blocks t v) (session_still (pair_blocks b q v) g.sound g.touches
              (λ z. h.pairs.runs.session.holds (sym took.told ∙ z))) last));
          frames = frames;
          spends = record {
            held = omega arith;
            used = omega (arith, e.used, blocks, gone, used_l, used_g);
            most = omega (arith, e.most, blocks, used_l, most_l, most_g);
            moves = omega (arith, e.moves, owed_is, moves_l, moves_g);
            later = omega (arith, e.later, moves_l, moves_g);
            pays = pays_more (pays_then (pays_kept (min w.blocks 1 + 0) (omega (arith, used_l))
                (omega (arith, moves_l))) (pays_then e.pays (pays_kept (min v.blocks 1 + 0)
                (omega (arith, used_g)) (omega (arith, moves_g))) (omega (arith, moves_g)))
                (omega (arith, e.later, moves_g))) (omega arith);
          };
        };
        wrote = rw (append-nil ys) at wrote;
        grows = h.grows;
        few = h.few;
      };
    }

-- or not all of them.
pub pieces_refused : {load : List Record} {s a b t : RigState} {c : Chain} {r : Reader} {w : Writer}
    {e : EmFault} → CanReportPieces s c w → LendsFrame s a → Unmoved s a → Opens s a c true r
    → StopsPieces load a b r w (reader_items a r) e → GivesFrame [] b t → Unmoved b t
    → StopsReportingPieces load s t c w e
pieces_refused {load} {s} {a} {b} {t} {c} {r} {w} {e} can l m o h g n =
    let blocks = ap (λ (d : Chain). d.blocks) o.words in
    let st = writer_lent can.pairs.writer l in
    let pa : payload_in a ≡ payload_in s = payload_kept [] s a l.touches in
    let f : filled a w + h.tried ≡ filled s w + h.tried = let x = st.filled_is in omega (arith, x) in
    let k = rw (f, pa) at h.stops in
    let held = chain_blocks s c ++ writer_blocks s w in
    let d = halts_between m k.halts n in
    let owed_is = o.owed_is in
    record {
      tried = h.tried;
      few = λ z.
          subst (λ (xs : List Record). h.tried ≤ length (leaf_list load xs)) (o.items z)
          (h.few (l.touches.told ∙ z));
      stops = record {
        stops = record {
          goes = record {
            sound = g.sound;
            touches = touches_then held s b t (touches_trans held (pair_blocks a r w) s a b
                (touches_none held s a l.touches) k.goes.touches
                (λ z j i u. off_same j held (pair_blocks a r w) (held_swap can l m o z) u)) g.touches;
            frames = lent_given s.pool b.pool t.pool
                (lent_same 1 s.pool a.pool b.pool l.frames k.goes.frames) g.frames;
          };
          halts = record {
            used = omega (arith, d.used, blocks);
            full = full_by e _ _ (λ p. omega (arith, p, blocks)) d.full;
            most = omega (arith, d.most, blocks);
            moves = omega (arith, d.moves, owed_is);
            later = d.later;
            pays = pays_more d.pays (omega arith);
          };
          cause = cause_still s b t e n g.touches (cause_after [] s a b e l.touches k.cause);
        };
      };
    }

-- by the result
pub pieces_by : {T : Type 0} {s a b t : RigState} {c : Chain} {r : Reader} {w : Writer}
    (load : List Record) (q : Reader) (v : Writer) (result : Result T EmFault) → CanReportPieces s c w
    → 0 < c.count → LendsFrame s a → Unmoved s a → Opens s a c true r
    → TakesPiecesTo load c.count a b r q w v (reader_items a r) result → GivesFrame [] b t → Unmoved b t
    → ReportsPiecesTo load s t c w v result
pieces_by load q v (Ok x) can some l m o h g n = pieces_reported can some l m o h g n
pieces_by load q v (Err e) can some l m o h g n = pieces_refused can l m o h g n
