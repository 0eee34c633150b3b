-- Records that are read by a reader that leaves its blocks to a chain, and pairs that are written beside.
use Rattle.std.proofs.Common.{◌≡◌, ℕ, ◌+◌, ◌≤◌, min, Bool, false, List, [], ◌∷◌, ◌++◌, length, sym, ap, subst, ◌∙◌, arith, IsTrue, Ok, Err}
use Rattle.std.specs.Prelude.{if◌then◌else◌}
use Rattle.em_record.specs.declared.record.Record.{Record}
use Rattle.em_space.specs.Held.{Apart}
use Rattle.em_space.specs.Rig.{BlockCause, Goes, RigState, Sound}
use Rattle.em_space.specs.declared.fault.EmFault.{EmFault}
use Rattle.em_space.proofs.Held.{apart_none}
use Rattle.em_space.proofs.Ledgers.{full_never, halts_beside, spends_moved, spends_then}
use Rattle.em_space.proofs.Lists.{apart_right}
use Rattle.em_space.proofs.Paying.{pays_kept, pays_more}
use Rattle.em_space.proofs.Runs.{stops_after, stops_wider}
use Rattle.em_space.proofs.Sessions.{session_as, session_none, session_still, session_trans}
use Rattle.em_space.proofs.Steps.{block_cause, goes_nothing, same_frames_then}
use Rattle.em_space.proofs.Within.{goes_wider, within_apart}
use Rattle.em_chain.specs.Chain.{chain_blocks, payload_in}
use Rattle.em_chain.specs.Counts.{ceiling}
use Rattle.em_chain.specs.Reader.{reader_blocks, rest_of}
use Rattle.em_chain.specs.Reads.{ReadCosts, Reads}
use Rattle.em_chain.specs.Session.{over_account}
use Rattle.em_chain.specs.Writer.{WriterStays, filled, writer_blocks}
use Rattle.em_chain.specs.declared.reader.Reader.{Reader}
use Rattle.em_chain.specs.declared.writer.Writer.{Writer}
use Rattle.em_chain.proofs.Keeps.{has_kept, payload_kept}
use Rattle.em_chain.proofs.Laws.{writer_stays}
use Rattle.em_chain.proofs.Readers.{reader_stays}
use Rattle.em_chain.proofs.Sessions.{took_nothing, took_one, took_stays, took_then, wrote_none, wrote_stays, wrote_then}
use Rattle.em_chain.proofs.Writings.{halts_moved}
use Rattle.em_segment_parts.specs.Lists.{ReadsBeside, ReadsPairs, StopsReading}
use Rattle.em_segment_parts.specs.Pairs.{IsPairs, StopsPairs, WritesPairs}
use Rattle.em_segment_parts.proofs.Writing.{grown_least, grown_rises}

-- No call yet.
pub reads_none : {s : RigState} {r : Reader} {w : Writer} → Sound s → ReadsBeside s r w
    → ReadsPairs 0 s s r r w w [] []
reads_none {s} {r} {w} h b = record {
  runs = record {
    session = session_none s (writer_blocks s w) h (λ z. (b.pairs.writer.told z).holds);
    frames = (goes_nothing s h).frames;
    spends = record {
      held = omega arith;
      used = omega arith;
      most = omega arith;
      moves = omega arith;
      later = omega arith;
      pays = pays_kept (min w.blocks 1 + 0) (omega arith) (omega arith);
    };
  };
  took = took_nothing b.reader;
  wrote = wrote_none b.pairs.writer;
  grows = omega arith;
  few = b.pairs.few;
}

-- the blocks of such a reader are another's
pub over_goes : {s t : RigState} (r : Reader) → r.taking ≡ false → Goes (reader_blocks s r) s t → Goes [] s t
over_goes {s} {t} r e g =
    let none : reader_blocks s r ≡ [] =
    ap (λ (b : Bool). if b then chain_blocks s (rest_of r) else []) e in
    subst (λ (ks : List ℕ). Goes ks s t) none g

pub pairs_still : {s t : RigState} {w : Writer} → IsPairs s w → Goes [] s t → WriterStays s t w
pairs_still {s} {t} {w} i g = writer_stays [] s t w g.touches (λ z. apart_none (writer_blocks s w))
    (has_kept 1 (length w.frame) s.pool t.pool g.frames i.writer.frame) i.writer

-- A record was read,
pub reads_one : {T : Type 0} {s t : RigState} {r q : Reader} {w : Writer} {x : Record} (y : T)
    → ReadsBeside s r w → Goes (reader_blocks s r) s t → Reads s t r q x → ReadCosts s t r q (Ok y)
    → ReadsPairs 0 s t r q w w (x ∷ []) []
reads_one {s = s} {t = t} {r = r} {q = q} {w = w} y b g a k =
    let d = over_goes r b.over g in
    let st = pairs_still b.pairs d in
    let used = k.used_over b.over in
    let most = k.most in
    record {
      runs = record {
        session = session_as (writer_blocks t w) (session_still (writer_blocks s w) d.sound d.touches
            (λ z. (b.pairs.writer.told z).holds)) st.blocks;
        frames = d.frames;
        spends = record {
          held = omega arith;
          used = omega arith;
          most = omega arith;
          moves = omega (arith, k.moves);
          later = d.touches.moves;
          pays = pays_kept (min w.blocks 1 + 0) (omega arith) d.touches.moves;
        };
      };
      took = took_one [] d.touches a;
      wrote = wrote_stays d.touches.told st;
      grows = omega arith;
      few = b.pairs.few;
    }

-- pairs were written,
pub reads_writes : {a : ℕ} {s t : RigState} {r : Reader} {w v : Writer} {ys : List Record}
    → ReadsBeside s r w → WritesPairs a s t w v ys → ReadsPairs a s t r r w v [] ys
reads_writes {a} {s} {t} {r} {w} {v} b h =
    let g = h.runs in
    let e = g.spends in
    let st = reader_stays (writer_blocks s w) s t r g.session.touches b.apart
    (has_kept 1 (length r.frame) s.pool t.pool g.frames b.reader.frame) b.reader in
    record {
      runs = record {
        session = g.session;
        frames = g.frames;
        spends = record {
          held = omega arith;
          used = omega (arith, e.used);
          most = omega (arith, e.most);
          moves = omega (arith, e.moves);
          later = e.later;
          pays = pays_more e.pays (omega arith);
        };
      };
      took = took_stays (writer_blocks s w) g.session.touches st;
      wrote = h.wrote;
      grows = h.grows;
      few = h.few;
    }

-- and more of both.
pub reads_then : {a b : ℕ} {s t u : RigState} {r q p : Reader} {w v k : Writer}
    (xs ys xs2 ys2 : List Record) → ReadsPairs a s t r q w v xs ys → ReadsPairs b t u q p v k xs2 ys2
    → ReadsPairs (a + b) s u r p w k (xs ++ xs2) (ys ++ ys2)
reads_then {a} {b} {s} {t} {u} {r} {q} {p} {w} {v} {k} xs ys xs2 ys2 h g =
    let e = spends_then h.runs.spends (spends_moved a g.runs.spends) in
    let m = h.grows in
    let n = g.grows in
    record {
      runs = record {
        session = session_trans h.runs.session g.runs.session;
        frames = same_frames_then s.pool t.pool u.pool h.runs.frames g.runs.frames;
        spends = record {
          held = omega arith;
          used = e.used;
          most = omega (arith, e.most);
          moves = omega (arith, e.moves);
          later = e.later;
          pays = e.pays;
        };
      };
      took = took_then xs xs2 h.took g.took;
      wrote = wrote_then ys ys2 h.wrote g.wrote;
      grows = omega arith;
      few = g.few;
    }

-- with moves that aren't more than said
pub reads_wider : {a b : ℕ} {s t : RigState} {r q : Reader} {w v : Writer} {xs ys : List Record}
    → a ≤ b → ReadsPairs a s t r q w v xs ys → ReadsPairs b s t r q w v xs ys
reads_wider {a} {b} {s} {t} l h =
    let e = h.runs.spends in
    record {
      runs = record {
        session = h.runs.session;
        frames = h.runs.frames;
        spends = record {
          held = e.held;
          used = e.used;
          most = e.most;
          moves = omega (arith, l, e.moves);
          later = e.later;
          pays = e.pays;
        };
      };
      took = h.took;
      wrote = h.wrote;
      grows = h.grows;
      few = h.few;
    }

-- They are beside each other still.
pub reads_beside : {a : ℕ} {s t : RigState} {r q : Reader} {w v : Writer} {xs ys : List Record}
    → ReadsBeside s r w → ReadsPairs a s t r q w v xs ys → ReadsBeside t q v
reads_beside {s = s} {t = t} {r = r} {q = q} {w = w} {v = v} b h =
    let n = h.wrote.filled_is in
    let c = h.wrote.count_is in
    let e = b.pairs.filled_is in
    let g = h.runs.session in
    record {
      reader = h.took.is;
      over = h.took.taking ∙ b.over;
      pairs = record {
        writer = h.wrote.is;
        filled_is = omega arith;
        few = h.few;
        packed = λ y.
            let z : IsTrue s.device.told = sym h.wrote.told ∙ y in h.wrote.packed z (b.pairs.packed z);
      };
      apart = λ y.
          let z : IsTrue s.device.told = sym h.wrote.told ∙ y in
          let d = h.took.blocks z in
          let m = within_apart s (writer_blocks s w) (writer_blocks t v) (chain_blocks s (rest_of r)) z
          g.within (b.reader.chain.told z).holds.in_use (b.apart z) in
          apart_right d.gone (chain_blocks t (rest_of q)) (writer_blocks t v)
          (subst (λ (ks : List ℕ). Apart ks (writer_blocks t v)) d.is m);
    }

-- A read gave up,
pub stops_read : {T : Type 0} {s t : RigState} {r q : Reader} {w : Writer} {e : EmFault}
    → Sound s → ReadsBeside s r w → Goes (reader_blocks s r) s t
    → ReadCosts {T = T} s t r q (Err e) → BlockCause s t e → StopsReading 0 0 s t r w e
stops_read {s = s} {t = t} {r = r} {w = w} {e = e} h b g k c =
    let d = over_goes r b.over g in
    let used = k.used_err in
    let most = k.most in
    let m = grown_least s w 0 h b.pairs.writer in
    record {
      stops = record {
        goes = goes_wider (writer_blocks s w) [] s t (record { off = λ z j u o. tt }) d;
        halts = record {
          used = omega (arith, m);
          full = full_never s t e _ c;
          most = omega (arith, m);
          moves = omega (arith, k.moves_err);
          later = d.touches.moves;
          pays = pays_more (pays_kept (min w.blocks 1 + 0) (omega arith) d.touches.moves) (omega arith);
        };
        cause = block_cause s t e c;
      };
    }

-- a call that was to write pairs,
pub stops_write : {a n : ℕ} {s t : RigState} (r : Reader) {w : Writer} {e : EmFault}
    → StopsPairs a n s t w e → StopsReading a n s t r w e
stops_write r h =
    let k = h.stops in
    record {
      stops = stops_wider (omega arith) (omega arith) (omega arith)
          (record { goes = k.goes; halts = halts_beside (over_account r) k.halts; cause = k.cause });
    }

-- or one after others.
pub stops_reading_then : {a b n : ℕ} {s t u : RigState} {r q : Reader} {w v : Writer} {e : EmFault}
    (xs ys : List Record) → ReadsPairs a s t r q w v xs ys → StopsReading b n t u q v e
    → StopsReading (a + b) (length ys + n) s u r w e
stops_reading_then {a} {b} {n} {s} {t} {u} {r} {q} {w} {v} {e} xs ys h k =
    let pt : payload_in t ≡ payload_in s =
    payload_kept (writer_blocks s w) s t h.runs.session.touches in
    let f : filled t v + n ≡ filled s w + (length ys + n) = omega (arith, h.wrote.filled_is) in
    let d : v.blocks ≤ ceiling (filled t v + n) (payload_in t) =
    grown_least t v n h.runs.session.sound h.wrote.is in
    let m = rw (f, pt) at d in
    let g = rw (f, pt) at k.stops in
    record {
      stops = stops_wider (omega (arith, m)) (omega arith) (omega arith)
          (stops_after h.runs
          (record { goes = g.goes; halts = halts_moved a g.halts; cause = g.cause }));
    }

pub stops_reading_more : {a b m n : ℕ} {s t : RigState} {r : Reader} {w : Writer} {e : EmFault}
    → Sound s → a ≤ b → m ≤ n → StopsReading a m s t r w e → StopsReading b n s t r w e
stops_reading_more {a} {b} {m} {n} {s} {t} {r} {w} {e} h x y k =
    let i = grown_rises s w m n h y in
    record { stops = stops_wider (omega (arith, i)) (omega (arith, i, x)) (omega arith) k.stops }
