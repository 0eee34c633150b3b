-- Records that are written, while other calls look.
use Rattle.std.proofs.Common.{◌≡◌, ℕ, ◌+◌, ◌-◌, ◌*◌, ◌<◌, ◌≤◌, min, List, [], ◌∷◌, ◌++◌, length, sym, ap, ◌∙◌, arith, Ok}
use Rattle.std.proofs.lemmas.List.{append-nil}
use Rattle.em_record.specs.Shape.{ShapeNumbers}
use Rattle.em_frames.specs.Device.{DeviceState}
use Rattle.em_frames.specs.Pool.{HasFrames}
use Rattle.em_record.specs.declared.record.Record.{Record}
use Rattle.em_space.specs.Ledger.{Account, moved, Spends, Halts, Session}
use Rattle.em_space.specs.Rig.{RigState, Sound, Touches, Goes, Cause, BlockCause}
use Rattle.em_space.specs.declared.fault.EmFault.{EmFault}
use Rattle.em_space.specs.declared.fault.EmFault.TheVariants.{DeviceFault, Full, Damaged}
use Rattle.em_space.proofs.Held.{apart_none}
use Rattle.em_space.proofs.Ledgers.{full_by, full_never, spends_moved, spends_still, spends_then, spends_wider}
use Rattle.em_space.proofs.Paying.{pays_kept, pays_more, pays_then}
use Rattle.em_space.proofs.Runs.{runs_of, stops_after, stops_wider}
use Rattle.em_space.proofs.Sessions.{session_as, session_none, session_still, session_trans}
use Rattle.em_space.proofs.Steps.{block_cause, cause_after, goes_nothing, same_frames_then, touches_then, touches_trans}
use Rattle.em_space.proofs.Within.{goes_wider}
use Rattle.em_chain.specs.Chain.{payload_in}
use Rattle.em_chain.specs.Counts.{ceiling}
use Rattle.em_chain.specs.Effects.{LendsFrame, GivesFrame, Unmoved}
use Rattle.em_chain.specs.Session.{StopsWriting, Writes, writer_account, one_more}
use Rattle.em_chain.specs.Writer.{IsWriter, WriterStays, filled, writer_blocks}
use Rattle.em_chain.specs.Writes.{Appends, AppendCosts}
use Rattle.em_chain.specs.declared.writer.Writer.{Writer}
use Rattle.em_chain.proofs.Counts.{writer_blocks_are}
use Rattle.em_chain.proofs.Keeps.{has_kept, lent_given, lent_same, payload_kept, touches_none}
use Rattle.em_chain.proofs.Laws.{writer_stays}
use Rattle.em_chain.proofs.Parts.{has_lent}
use Rattle.em_chain.proofs.Sessions.{ceiling_rises, wrote_none, wrote_one, wrote_stays, wrote_then}
use Rattle.em_chain.proofs.Withins.{within_grows}

-- No call yet,
pub writes_none : {s : RigState} {w : Writer} → Sound s → IsWriter s w → Writes s s w w []
writes_none {s} {w} h i = record {
  extra = 0;
  runs = record {
    session = session_none s (writer_blocks s w) h (λ z. (i.told z).holds);
    frames = (goes_nothing s h).frames;
    spends = record {
      held = omega arith;
      used = omega arith;
      most = omega arith;
      moves = omega arith;
      later = omega arith;
      pays = pays_kept (min w.blocks 1) (omega arith) (omega arith);
    };
  };
  wrote = wrote_none i;
  grows = omega arith;
}

-- a look,
pub writes_looked : {s t : RigState} {w : Writer} → IsWriter s w → Goes [] s t
    → t.used ≡ s.used → t.most ≡ s.most → Writes s t w w []
writes_looked {s} {t} {w} i g used most =
    let st = writer_stays [] s t w g.touches (λ z. apart_none (writer_blocks s w))
    (has_kept 1 (length w.frame) s.pool t.pool g.frames i.frame) i in
    record {
      extra = t.moves - s.moves;
      runs = record {
        session = session_as (writer_blocks t w) (session_still (writer_blocks s w) g.sound g.touches
            (λ z. (i.told z).holds)) st.blocks;
        frames = g.frames;
        spends = record {
          held = omega arith;
          used = omega arith;
          most = omega arith;
          moves = omega (arith, g.touches.moves);
          later = g.touches.moves;
          pays = pays_kept (min w.blocks 1) (omega arith) g.touches.moves;
        };
      };
      wrote = wrote_stays g.touches.told st;
      grows = omega arith;
    }

-- an append,
pub writes_one : {T : Type 0} {s t : RigState} {w v : Writer} {x : Record} (y : T)
    → Goes (writer_blocks s w) s t → Appends s t w v x → AppendCosts s t w v (Ok y)
    → Spends (one_more s w) (writer_account w) (writer_account v) s t → Writes s t w v (x ∷ [])
writes_one {s = s} {t = t} {w = w} {v = v} {x = x} y g a k h = record {
  extra = 0;
  runs = runs_of (writer_blocks s w) (writer_blocks t v) g
      (within_grows s (writer_blocks s w) (writer_blocks t v) a.grown) (λ z. (a.is.told z).holds)
      (record {
        held = omega arith;
        used = h.used;
        most = omega (arith, k.most, k.used);
        moves = omega (arith, h.moves);
        later = h.later;
        pays = h.pays;
      });
  wrote = wrote_one g.touches.told a;
  grows = omega (arith, k.used, k.used_low);
}

-- and more of them.
pub writes_then : {s t u : RigState} {w v k : Writer} (xs ys : List Record) → Writes s t w v xs
    → Writes t u v k ys → Writes s u w k (xs ++ ys)
writes_then {s} {t} {u} {w} {v} {k} xs ys h g =
    let e = spends_then h.runs.spends (spends_moved h.extra g.runs.spends) in
    let m = h.grows in
    let n = g.grows in
    record {
      extra = g.extra + h.extra;
      runs = record {
        session = session_trans h.runs.session g.runs.session;
        frames = same_frames_then s.pool t.pool u.pool h.runs.frames g.runs.frames;
        spends = record {
          held = omega arith;
          used = e.used;
          most = omega (arith, e.most);
          moves = omega (arith, e.moves);
          later = e.later;
          pays = e.pays;
        };
      };
      wrote = wrote_then xs ys h.wrote g.wrote;
      grows = omega arith;
    }

-- More was paid before by calls that gave up.
pub halts_moved : {p l f : ℕ} {a : Account} {s t : RigState} {e : EmFault} (n : ℕ)
    → Halts p l f a s t e → Halts p (n + l) f (moved n a) s t e
halts_moved {p} {l} {f} {a} {s} {t} {e} n h = record {
  used = h.used;
  full = h.full;
  most = h.most;
  moves = omega (arith, h.moves);
  later = h.later;
  pays = h.pays;
}

-- a writer whose places were filled by its records still is one
pub writes_filled : {s t : RigState} {w v : Writer} {xs : List Record} → Writes s t w v xs
    → filled s w ≡ w.count → filled t v ≡ v.count
writes_filled h e = omega (arith, h.wrote.filled_is, h.wrote.count_is, e)

-- A call that was to write some more gave up.
pub writes_stops : {s t u : RigState} {w v : Writer} {e : EmFault} (n : ℕ) (xs : List Record)
    → Writes s t w v xs → StopsWriting t u v n e → StopsWriting s u w (length xs + n) e
writes_stops {s} {t} {u} {w} {v} {e} n xs h k =
    let low = h.runs.session.sound.shape.block_low in
    let pt : payload_in t ≡ payload_in s =
    payload_kept (writer_blocks s w) s t h.runs.session.touches in
    let f : filled t v + n ≡ filled s w + (length xs + n) = omega (arith, h.wrote.filled_is) in
    let b = writer_blocks_are t v low h.wrote.is in
    let r = ceiling_rises (filled t v) (filled t v + n) (payload_in t) (omega arith) (omega arith) in
    let d : v.blocks ≤ ceiling (filled t v + n) (payload_in t) = omega (arith, b, r) in
    let m = rw (f, pt) at d in
    let g = rw (f, pt) at k.stops in
    record {
      extra = h.extra + k.extra;
      stops = stops_wider (omega (arith, m)) (omega arith) (omega arith)
          (stops_after h.runs
          (record { goes = g.goes; halts = halts_moved h.extra g.halts; cause = g.cause }));
    }

-- an append that gave up
pub stops_append : {s t : RigState} {w : Writer} {e : EmFault} → Goes (writer_blocks s w) s t
    → Halts (one_more s w) (2 * one_more s w) (min w.blocks 1) (writer_account w) s t e
    → Cause s t e → StopsWriting s t w 1 e
stops_append {s = s} {w = w} g k c = record {
  extra = 2 * one_more s w;
  stops = stops_wider (omega arith) (omega arith) (omega arith) (record { goes = g; halts = k; cause = c });
}

-- a look that gave up
pub stops_looked : {s t : RigState} {w : Writer} {e : EmFault} → Sound s → IsWriter s w → Goes [] s t
    → t.used ≡ s.used → t.most ≡ s.most → BlockCause s t e → StopsWriting s t w 0 e
stops_looked {s} {t} {w} {e} h i g used most c =
    let low = h.shape.block_low in
    let b : w.blocks ≡ ceiling (filled s w) (payload_in s) = writer_blocks_are s w low i in
    let z : filled s w + 0 ≡ filled s w = omega arith in
    let d : w.blocks ≤ ceiling (filled s w + 0) (payload_in s) = rw z (omega (arith, b)) in
    record {
      extra = t.moves - s.moves + 2 * w.blocks;
      stops = record {
        goes = goes_wider (writer_blocks s w) [] s t (record { off = λ z j u o. tt }) g;
        halts = record {
          used = omega (arith, used, d);
          full = full_never s t e _ c;
          most = omega (arith, most, used, d);
          moves = omega (arith, g.touches.moves);
          later = g.touches.moves;
          pays = pays_more (pays_kept (min w.blocks 1) (omega (arith, used)) g.touches.moves)
              (omega arith);
        };
        cause = block_cause s t e c;
      };
    }

-- A frame was lent beside a writer,
pub writer_lent : {s t : RigState} {w : Writer} → IsWriter s w → LendsFrame s t
    → WriterStays s t w
writer_lent {s} {t} {w} i l = writer_stays [] s t w l.touches (λ z. apart_none (writer_blocks s w))
    (has_lent 1 (length w.frame) s.pool t.pool l.frames i.frame) i

still_session : {s t : RigState} {w : Writer} → Sound t → Touches [] s t → IsWriter s w
    → WriterStays s t w → Session (writer_blocks s w) s t (writer_blocks t w)
still_session {s} {t} {w} h g i st =
    session_as (writer_blocks t w) (session_still (writer_blocks s w) h g (λ z. (i.told z).holds)) st.blocks

still_spends : {s t : RigState} (a : Account) → Unmoved s t → Spends a.blocks a a s t
still_spends a u = spends_still a u.same.used u.same.most u.moves

-- and came back after it went on.
pub writes_lent : {s a b t : RigState} {w v : Writer} {xs : List Record} → IsWriter s w
    → LendsFrame s a → Unmoved s a → Writes a b w v xs → GivesFrame [] b t → Unmoved b t
    → Writes s t w v xs
writes_lent {s} {a} {b} {t} {w} {v} {xs} i l x h g y =
    let k = writer_lent i l in
    let frames = lent_given s.pool b.pool t.pool
    (lent_same 1 s.pool a.pool b.pool l.frames h.runs.frames) g.frames in
    let has : HasFrames 1 (length v.frame) t.pool = record {
      len_is = h.wrote.is.frame.len_is ∙ ap (λ (n : ShapeNumbers). n.block) (sym g.frames.shape);
      out = rw (frames.shape, frames.free) i.frame.out;
    } in
    let m = writer_stays [] b t v g.touches (λ z. apart_none (writer_blocks b v)) has h.wrote.is in
    let n = h.grows in
    let wrote = wrote_then [] (xs ++ []) (wrote_stays l.touches.told k)
    (wrote_then xs [] h.wrote (wrote_stays g.touches.told m)) in
    record {
      extra = h.extra;
      runs = record {
        session = session_trans (still_session l.sound l.touches i k)
            (session_trans h.runs.session (still_session g.sound g.touches h.wrote.is m));
        frames = frames;
        spends = spends_wider (omega arith) (spends_then (still_spends (writer_account w) x)
            (spends_then h.runs.spends (still_spends (moved h.extra (writer_account v)) y)));
      };
      wrote = rw (append-nil xs) at wrote;
      grows = h.grows;
    }

pub cause_still : (a b t : RigState) (e : EmFault) → Unmoved b t → Touches [] b t → Cause a b e
    → Cause a t e
cause_still a b t DeviceFault u k c = omega (arith, k.faults, c)
cause_still a b t (Full used) u k c =
    let e = k.blocks in let f = u.same.used in (c.0 ∙ sym e, f ∙ c.1 ∙ sym e)
cause_still a b t (Damaged block) u k c =
    let d = ap (λ (x : DeviceState). x.told) u.device in (rw d c.0, omega (arith, k.blocks, c.1))

-- Calls between which nothing was moved gave up.
pub halts_between : {p l f : ℕ} {x : Account} {s a b t : RigState} {e : EmFault} → Unmoved s a
    → Halts p l f x a b e → Unmoved b t → Halts p l f x s t e
halts_between {p} {l} {f} {x} {s} {a} {b} {t} {e} u h v =
    let su = u.same.used in
    let tu = v.same.used in
    record {
      used = omega (arith, h.used);
      full = full_by e (b.used + x.blocks < a.used + p) (t.used + x.blocks < s.used + p)
          (λ k. omega (arith, k)) h.full;
      most = omega (arith, h.most, u.same.most, v.same.most);
      moves = omega (arith, h.moves, u.moves, v.moves);
      later = omega (arith, h.later, u.moves, v.moves);
      pays = pays_then (pays_kept x.unstored (omega arith) (omega (arith, u.moves)))
          (pays_then h.pays (pays_kept f (omega arith) (omega (arith, v.moves)))
          (omega (arith, v.moves))) (omega (arith, h.later, v.moves));
    }

pub stops_lent : {s a b t : RigState} {w : Writer} {n : ℕ} {e : EmFault} → IsWriter s w
    → LendsFrame s a → Unmoved s a → StopsWriting a b w n e → GivesFrame [] b t → Unmoved b t
    → StopsWriting s t w n e
stops_lent {s} {a} {b} {t} {w} {n} {e} i l x h g y =
    let k = writer_lent i l in
    let pt : payload_in a ≡ payload_in s = payload_kept [] s a l.touches in
    let m : filled a w + n ≡ filled s w + n = omega (arith, k.filled_is) in
    let d = rw (m, pt) at h.stops.halts in
    let o = h.stops.goes in
    record {
      extra = h.extra;
      stops = record {
        goes = record {
          sound = g.sound;
          touches = touches_then (writer_blocks s w) s b t (touches_trans (writer_blocks s w)
              (writer_blocks a w) s a b (touches_none (writer_blocks s w) s a l.touches) o.touches
              (λ z j i u. rw (k.blocks z) u)) g.touches;
          frames = lent_given s.pool b.pool t.pool
              (lent_same 1 s.pool a.pool b.pool l.frames o.frames) g.frames;
        };
        halts = halts_between x d y;
        cause = cause_still s b t e y g.touches
            (cause_after [] s a b e l.touches h.stops.cause);
      };
    }
