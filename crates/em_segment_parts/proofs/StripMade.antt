-- A strip that is cut off: a writer was made beside the reader, points were copied, and it was finished.
use Rattle.std.proofs.Common.{◌≡◌, ℕ, ◌+◌, ◌*◌, ◌^◌, ◌<◌, ◌≤◌, min, List, [], ◌∷◌, ◌++◌, length, refl, sym, ap, subst, ◌∙◌, arith, true, IsTrue, Result, Ok, Err, IsErrAnd}
use Rattle.std.proofs.lemmas.List.{append-nil}
use Rattle.em_record.specs.Shape.{ShapeNumbers}
use Rattle.em_record.specs.declared.record.Record.{Record}
use Rattle.em_frames.specs.Pool.{HasFrames, LentFrames}
use Rattle.em_space.specs.Ledger.{Halts, Session, Spends}
use Rattle.em_space.specs.Rig.{DeviceCause, RigState}
use Rattle.em_space.specs.declared.fault.EmFault.{EmFault}
use Rattle.em_space.proofs.Held.{apart_none}
use Rattle.em_space.proofs.Ledgers.{full_by, halts_after, halts_beside, halts_wider, spends_beside, spends_then}
use Rattle.em_space.proofs.Paying.{pays_kept, pays_more, pays_then}
use Rattle.em_space.proofs.Sessions.{session_as, session_others, session_still, session_then, session_trans}
use Rattle.em_space.proofs.Steps.{cause_after, device_cause, touches_then, touches_trans}
use Rattle.em_space.proofs.Within.{touches_within, within_kept, within_left, within_same, within_then}
use Rattle.em_chain.specs.Chain.{chain_blocks}
use Rattle.em_chain.specs.Effects.{GivesFrame, LendsFrame, Unmoved}
use Rattle.em_chain.specs.Reader.{IsReader, ReaderStays, rest_of}
use Rattle.em_chain.specs.Session.{Took, chain_account, pair_account, pair_blocks, taking_account, writer_account}
use Rattle.em_chain.specs.Writer.{IsPackedSoFar, IsWriter, writer_blocks, writer_items}
use Rattle.em_chain.specs.Writes.{Begins, Finishes}
use Rattle.em_chain.specs.declared.chain.Chain.{Chain}
use Rattle.em_chain.specs.declared.reader.Reader.{Reader}
use Rattle.em_chain.specs.declared.writer.Writer.{Writer}
use Rattle.em_chain.proofs.Appending.{pos_of}
use Rattle.em_chain.proofs.Keeps.{lent_given, lent_same, touches_none}
use Rattle.em_chain.proofs.Parts.{has_lent}
use Rattle.em_chain.proofs.Readers.{reader_stays}
use Rattle.em_chain.proofs.Sessions.{took_stays, took_then}
use Rattle.em_chain.proofs.Writings.{cause_still, halts_between}
use Rattle.em_segment_model.specs.Spans.{value_span}
use Rattle.em_segment_model.specs.declared.strip.Span.{Span}
use Rattle.em_segment_parts.specs.Splits.{CanCopy, CopiesStrip, SplitsOff, SplitsOffTo, StopsCopying, StopsSplit}
use Rattle.em_segment_parts.specs.declared.splitting.Strips.{Strips}
use Rattle.em_segment_parts.proofs.Regrouping.{session_turned}

-- A reader stays as a frame is lent,
pub reader_lent : {s a : RigState} {r : Reader} → IsReader s r → LendsFrame s a → ReaderStays s a r
reader_lent {s} {a} {r} i l =
    reader_stays [] s a r l.touches (λ z. apart_none (chain_blocks s (rest_of r)))
    (has_lent 1 (length r.frame) s.pool a.pool l.frames i.frame) i

-- and beside it a writer may copy.
pub made_can : {s a : RigState} {r : Reader} {w : Writer} → IsReader s r → r.taking ≡ true
    → LendsFrame s a → Begins a w → CanCopy a r w
made_can i taking l b = record {
  reader = (reader_lent i l).is;
  taking = taking;
  writer = b.is;
  filled_is = b.filled_is ∙ sym b.count;
  packed = λ z. b.packed;
  apart = λ z. rw b.held tt;
}

-- The points of a strip were copied, and its writer holds a frame yet.
pub record Copied (s b : RigState) (r q : Reader) (w : Writer) (xs : List Record) : Type 0 where
  pub took : Took s b r q xs
  pub session : Session (chain_blocks s (rest_of r)) s b (pair_blocks b q w)
  pub spends : Spends (r.blocks + 1) (taking_account r) (pair_account q w) s b
  pub frames : LentFrames 1 s.pool b.pool
  pub is : IsWriter b w
  pub written : IsTrue s.device.told → writer_items b w ≡ xs
  pub packed : IsTrue s.device.told → IsPackedSoFar b w
  pub count : w.count ≡ length xs

pair_begins : {s a : RigState} {r : Reader} {w : Writer} → IsReader s r → LendsFrame s a → Begins a w
    → IsTrue s.device.told → pair_blocks a r w ≡ chain_blocks s (rest_of r)
pair_begins i l b z =
    let st = reader_lent i l in
    rw (b.held, st.blocks z) refl

pub copied : {n : ℕ} {z : Span} {s a b : RigState} {r q : Reader} {w v : Writer} → IsReader s r
    → LendsFrame s a → Unmoved s a → Begins a w → (c : CopiesStrip n z a b r q w v)
    → Copied s b r q v c.points
copied {n} {z} {s} {a} {b} {r} {q} {w} {v} i l u m c =
    let g = c.pairs in
    let st = reader_lent i l in
    let e = g.runs.spends in
    let none = m.blocks in
    let used = u.same.used in
    let most = u.same.most in
    let moves = u.moves in
    record {
      took = took_then [] c.points (took_stays [] l.touches st) g.took;
      session = session_trans (session_as (pair_blocks a r w) (session_still (chain_blocks s (rest_of r))
          l.sound l.touches (λ y. (i.chain.told y).holds)) (pair_begins i l m)) g.runs.session;
      spends = record {
        held = e.held;
        used = omega (arith, e.used, used, none);
        most = omega (arith, e.most, used, most, none);
        moves = omega (arith, e.moves, moves, none);
        later = omega (arith, e.later, moves);
        pays = pays_then (pays_kept 0 (omega (arith, used)) (omega (arith, moves)))
            (pays_more e.pays (omega (arith, none))) e.later;
      };
      frames = lent_same 1 s.pool a.pool b.pool l.frames g.runs.frames;
      is = g.wrote.is;
      written = λ y. g.wrote.items (l.touches.told ∙ y) ∙ ap (λ (xs : List Record). xs ++ c.points) m.items;
      packed = λ y. g.wrote.packed (l.touches.told ∙ y) m.packed;
      count = omega (arith, g.wrote.count_is, m.count);
    }

-- The strip was finished,
pub made_strip : {n : ℕ} {s b t : RigState} {r q : Reader} {w : Writer} {c : Chain} {z y : Strips}
    {xs : List Record} → IsReader s r → length xs ≡ n → 0 < n → n ≤ 2 ^ 40 → Copied s b r q w xs
    → GivesFrame (writer_blocks b w) b t → Finishes b t w c
    → Spends w.blocks (writer_account w) (chain_account (min w.blocks 1) c) b t
    → y.spans.items ≡ z.spans.items ++ value_span xs ∷ []
    → y.points.items ≡ z.points.items ++ record { chain = c } ∷ []
    → SplitsOff n s t r q z y
made_strip {n} {s} {b} {t} {r} {q} {w} {c} {z} {y} {xs} i len some few h g fi k spans points =
    let told = h.session.touches.told in
    let ks = writer_blocks b w in
    let rest = chain_blocks b (rest_of q) in
    let same = lent_given s.pool b.pool t.pool h.frames g.frames in
    let has : HasFrames 1 (length q.frame) t.pool = record {
      len_is = h.took.is.frame.len_is ∙ ap (λ (v : ShapeNumbers). v.block) (sym g.frames.shape);
      out = rw (same.shape, same.free) i.frame.out;
    } in
    let st = reader_stays ks b t q g.touches
    (λ y. session_others ks rest h.session (sym told ∙ y)) has h.took.is in
    let took = took_then xs [] h.took (took_stays ks g.touches st) in
    let f : Session ks b t (chain_blocks t c) = record {
      sound = g.sound;
      touches = g.touches;
      within = within_kept b ks ks (chain_blocks t c) (within_same b ks) fi.blocks;
      holds = λ y. (fi.is.told (g.touches.told ∙ y)).holds;
    } in
    let v = session_as (chain_blocks t c ++ chain_blocks t (rest_of q))
    (session_then ks (chain_blocks t c) rest h.session f) (λ y. rw (st.blocks (told ∙ y)) refl) in
    let e = spends_then h.spends (spends_beside (taking_account q) k) in
    let held = h.spends.held in
    let count = h.count in
    record {
      points = xs;
      len = len;
      chain = c;
      chain_is = record {
        is = fi.is;
        packed = λ y.
            let d : IsTrue s.device.told = sym (g.touches.told ∙ told) ∙ y in
            fi.packed (told ∙ d) (h.packed d);
        few = omega (arith, fi.count_is, count, len, few);
      };
      count_is = omega (arith, fi.count_is, count, len);
      some =
          let p : 0 < w.blocks = pos_of w.blocks (λ d. let m = h.is.last.none_count d in
          absurd (omega (arith, m, count, len, some))) in
          omega (arith, p, fi.blocks_is);
      items = λ y. fi.items (told ∙ y) ∙ h.written y;
      spans_are = spans;
      points_are = points;
      took = rw (append-nil xs) at took;
      runs = record {
        session = session_turned [] (chain_blocks t c) (chain_blocks t (rest_of q)) v;
        frames = same;
        spends = record {
          held = omega (arith, held, fi.blocks_is);
          used = omega (arith, e.used);
          most = omega (arith, e.most, held);
          moves = omega (arith, e.moves);
          later = e.later;
          pays = e.pays;
        };
      };
    }

-- or wasn't,
pub strip_unfinished : {s b t : RigState} {r q : Reader} {w : Writer} {xs : List Record} {e : EmFault}
    → Copied s b r q w xs → GivesFrame (writer_blocks b w) b t
    → Halts w.blocks (2 * w.blocks + min w.blocks 1) (min w.blocks 1) (writer_account w) b t e
    → DeviceCause b t e → StopsSplit s t r e
strip_unfinished {s} {b} {t} {r} {q} {w} {xs} {e} h g k d =
    let held = h.spends.held in
    let ks = writer_blocks b w in
    let rest = chain_blocks s (rest_of r) in
    record {
      stops = record {
        goes = record {
          sound = g.sound;
          touches = touches_within s b t rest ks h.session.touches
              (within_then s b rest (pair_blocks b q w) ks h.session.touches h.session.within
              (within_left b ks (chain_blocks b (rest_of q)))) g.touches;
          frames = lent_given s.pool b.pool t.pool h.frames g.frames;
        };
        halts = halts_wider (omega (arith, held)) (omega (arith, held)) (omega arith)
            (halts_after h.spends (halts_beside (taking_account q) k));
        cause = cause_after rest s b t e h.session.touches (device_cause b t e d);
      };
    }

-- or a copy gave up.
pub strip_uncopied : {s a b t : RigState} {r : Reader} {w : Writer} {e : EmFault} → IsReader s r
    → LendsFrame s a → Unmoved s a → Begins a w → StopsCopying a b r w e → GivesFrame [] b t
    → Unmoved b t → StopsSplit s t r e
strip_uncopied {s} {a} {b} {t} {r} {w} {e} i l u m h g v =
    let k = h.stops in
    let d = halts_between u k.halts v in
    let none = m.blocks in
    let rest = chain_blocks s (rest_of r) in
    record {
      stops = record {
        goes = record {
          sound = g.sound;
          touches = touches_then rest s b t (touches_trans rest (pair_blocks a r w) s a b
              (touches_none rest s a l.touches) k.goes.touches
              (λ z j p o. rw (pair_begins i l m z) o)) g.touches;
          frames = lent_given s.pool b.pool t.pool
              (lent_same 1 s.pool a.pool b.pool l.frames k.goes.frames) g.frames;
        };
        halts = record {
          used = omega (arith, d.used, none);
          full = full_by e (t.used + (pair_account r w).blocks < s.used + (r.blocks + 1))
              (t.used + r.blocks < s.used + (r.blocks + 1)) (λ p. omega (arith, p, none)) d.full;
          most = omega (arith, d.most, none);
          moves = omega (arith, d.moves, none);
          later = d.later;
          pays = pays_more d.pays (omega (arith, none));
        };
        cause = cause_still s b t e v g.touches (cause_after [] s a b e l.touches k.cause);
      };
    }

pub split_err : {T : Type 0} (n : ℕ) (s t : RigState) (r q : Reader) (z y : Strips)
    (result : Result T EmFault) (e : EmFault) → IsErrAnd result (λ f. f ≡ e) → StopsSplit s t r e
    → SplitsOffTo n s t r q z y result
split_err n s t r q z y (Ok x) e h k = absurd h
split_err n s t r q z y (Err f) e h k = subst (λ (m : EmFault). StopsSplit s t r m) (sym h) k
