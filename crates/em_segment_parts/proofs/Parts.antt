-- Parts of a call, one after another: some write pairs, the others change other values' blocks.
use Rattle.std.proofs.Common.{◌≡◌, ℕ, ◌+◌, ◌≤◌, max, List, [], ◌++◌, length, sym, ap, ◌∙◌, arith, IsTrue}
use Rattle.em_record.specs.Shape.{fan_of}
use Rattle.em_record.specs.declared.record.Record.{Record}
use Rattle.em_frames.specs.Pool.{SameFrames}
use Rattle.em_space.specs.Held.{Holds}
use Rattle.em_space.specs.Rig.{RigState, Sound, Touches}
use Rattle.em_space.specs.declared.fault.EmFault.{EmFault}
use Rattle.em_space.proofs.Ledgers.{spends_moved, spends_then}
use Rattle.em_space.proofs.Lists.{apart_sym, distinct_apart}
use Rattle.em_space.proofs.Paying.{pays_more}
use Rattle.em_space.proofs.Runs.{runs_first, runs_second, stops_after, stops_first, stops_second, stops_wider}
use Rattle.em_space.proofs.Sessions.{session_as, session_beside, session_trans}
use Rattle.em_space.proofs.Steps.{same_frames_then}
use Rattle.em_chain.specs.Chain.{payload_in}
use Rattle.em_chain.specs.Counts.{ceiling}
use Rattle.em_chain.specs.Session.{writer_account}
use Rattle.em_chain.specs.Writer.{WriterStays, filled, writer_blocks}
use Rattle.em_chain.specs.declared.writer.Writer.{Writer}
use Rattle.em_chain.proofs.Keeps.{has_kept, payload_kept}
use Rattle.em_chain.proofs.Laws.{writer_stays}
use Rattle.em_chain.proofs.Sessions.{wrote_stays, wrote_then}
use Rattle.em_chain.proofs.Writings.{halts_moved}
use Rattle.em_segment_parts.specs.Accounts.{stored}
use Rattle.em_segment_parts.specs.Pairs.{IsPairs, StopsPairs, WritesPairs}
use Rattle.em_segment_parts.specs.Reports.{Reports, Shifts, StopsReporting, StopsShifting}
use Rattle.em_segment_parts.proofs.Writing.{grown_least, grown_rises}

-- The pairs stay over a part that changes other blocks.
pub pairs_beside : {held : List ℕ} {s t : RigState} {w : Writer} → IsPairs s w
    → (IsTrue s.device.told → Holds s (held ++ writer_blocks s w)) → Touches held s t
    → SameFrames s.pool t.pool → WriterStays s t w
pairs_beside {held} {s} {t} {w} i n h f =
    writer_stays held s t w h
    (λ z. apart_sym held (writer_blocks s w) (distinct_apart held (writer_blocks s w) ((n z).distinct z)))
    (has_kept 1 (length w.frame) s.pool t.pool f i.writer.frame) i.writer

-- Such a part writes no pair.
pub shift_reports : {p e n m : ℕ} {held js : List ℕ} {s t : RigState} {w : Writer} → IsPairs s w
    → (IsTrue s.device.told → Holds s (held ++ writer_blocks s w)) → Shifts p e held js n m s t
    → Reports p e held js n m s t w w []
shift_reports {p} {e} {n} {m} {held} {js} {s} {t} {w} i k h =
    let st = pairs_beside i k h.session.touches h.frames in
    let c = h.spends in
    record {
      runs = record {
        session = session_as (js ++ writer_blocks t w)
            (session_beside [] held js (writer_blocks s w) k h.session)
            (λ z. ap (λ (ks : List ℕ). js ++ ks) (st.blocks z));
        frames = h.frames;
        spends = record {
          held = let a = c.held in omega (arith, a);
          used = let a = c.used in omega (arith, a);
          most = let a = c.most in omega (arith, a);
          moves = let a = c.moves in omega (arith, a);
          later = c.later;
          pays = pays_more c.pays (omega arith);
        };
      };
      wrote = wrote_stays h.session.touches.told st;
      grows = omega arith;
      few = i.few;
    }

-- It gave up.
pub shift_stops : {p e n : ℕ} {held : List ℕ} {s t : RigState} {w : Writer} {fault : EmFault} → Sound s
    → IsPairs s w → StopsShifting p e held n s t fault → StopsReporting p e 0 held n s t w fault
shift_stops {s = s} {w = w} h i k =
    let m = grown_least s w 0 h i.writer in
    record {
      stops = stops_wider (omega (arith, m)) (omega (arith, m)) (omega arith)
          (stops_first (writer_blocks s w) (writer_account w) k.stops);
    }

-- Pairs were written, and other blocks stayed.
pub writes_reports : {e : ℕ} {s t : RigState} {w v : Writer} {xs : List Record} (n : ℕ)
    (held ks : List ℕ) → (IsTrue s.device.told → Holds s (held ++ writer_blocks s w))
    → (IsTrue s.device.told → ks ≡ held) → WritesPairs e s t w v xs → Reports n e held ks n n s t w v xs
writes_reports {e} {s} {t} {w} {v} {xs} n held ks k d h =
    let r = runs_second held (stored n) k h.runs in
    let c = r.spends in
    record {
      runs = record {
        session = session_as (ks ++ writer_blocks t v) r.session
            (λ z. ap (λ (js : List ℕ). js ++ writer_blocks t v) (d z));
        frames = r.frames;
        spends = record {
          held = let a = c.held in omega (arith, a);
          used = let a = c.used in omega (arith, a);
          most = let a = c.most in omega (arith, a);
          moves = let a = c.moves in omega (arith, a);
          later = c.later;
          pays = pays_more c.pays (omega arith);
        };
      };
      wrote = h.wrote;
      grows = h.grows;
      few = h.few;
    }

-- They couldn't be.
pub writes_stops : {e tried : ℕ} {s t : RigState} {w : Writer} {fault : EmFault} (n : ℕ)
    (held : List ℕ) → StopsPairs e tried s t w fault → StopsReporting n e tried held n s t w fault
writes_stops n held h =
    record {
      stops = stops_wider (omega arith) (omega arith) (omega arith)
          (stops_second held (stored n) h.stops);
    }

-- One part after another.
pub reports_then : {p q a b n m l : ℕ} {held ks js : List ℕ} {s t u : RigState} {w v k : Writer}
    (xs ys : List Record) → Reports p a held ks n m s t w v xs → Reports q b ks js m l t u v k ys
    → Reports (max p q) (a + b) held js n l s u w k (xs ++ ys)
reports_then {p} {q} {a} {b} {n} {m} {l} {held} {ks} {js} {s} {t} {u} {w} {v} {k} xs ys h g =
    let c = spends_then h.runs.spends (spends_moved a g.runs.spends) in
    let x = h.grows in
    let y = g.grows in
    record {
      runs = record {
        session = session_trans h.runs.session g.runs.session;
        frames = same_frames_then s.pool t.pool u.pool h.runs.frames g.runs.frames;
        spends = record {
          held = let d = g.runs.spends.held in omega (arith, d);
          used = c.used;
          most = let d = c.most in omega (arith, d, x, y);
          moves = let d = c.moves in omega (arith, d);
          later = c.later;
          pays = c.pays;
        };
      };
      wrote = wrote_then xs ys h.wrote g.wrote;
      grows = omega (arith, x, y);
      few = g.few;
    }

-- The next one gave up.
pub reports_stop : {p q a b n m tried : ℕ} {held ks : List ℕ} {s t u : RigState} {w v : Writer}
    {fault : EmFault} (xs : List Record) → Reports p a held ks n m s t w v xs
    → StopsReporting q b tried ks m t u v fault
    → StopsReporting (max p q) (a + b) (length xs + tried) held n s u w fault
reports_stop {p} {q} {a} {b} {n} {m} {tried} {held} {ks} {s} {t} {u} {w} {v} {fault} xs h k =
    let shape = h.runs.session.touches.shape in
    let pt : payload_in t ≡ payload_in s =
    payload_kept (held ++ writer_blocks s w) s t h.runs.session.touches in
    let fan : fan_of t.pool.shape ≡ fan_of s.pool.shape = ap fan_of shape in
    let f : filled t v + tried ≡ filled s w + (length xs + tried) = omega (arith, h.wrote.filled_is) in
    let d : v.blocks ≤ ceiling (filled t v + tried) (payload_in t) =
    grown_least t v tried h.runs.session.sound h.wrote.is in
    let x = rw (f, pt) at d in
    let g = rw (f, pt) at k.stops in
    record {
      stops = stops_wider (omega (arith, x)) (omega arith) (omega (arith, fan))
          (stops_after h.runs
          (record { goes = g.goes; halts = halts_moved a g.halts; cause = g.cause }));
    }

-- with no more than said
pub reports_wider : {p q a b n m : ℕ} {held ks : List ℕ} {s t : RigState} {w v : Writer}
    {xs : List Record} → p ≤ q → a ≤ b → Reports p a held ks n m s t w v xs
    → Reports q b held ks n m s t w v xs
reports_wider {p} {q} {a} {b} x y h =
    let c = h.runs.spends in
    record {
      runs = record {
        session = h.runs.session;
        frames = h.runs.frames;
        spends = record {
          held = let d = c.held in omega (arith, d, x);
          used = c.used;
          most = let d = c.most in omega (arith, d, x);
          moves = let d = c.moves in omega (arith, d, y);
          later = c.later;
          pays = c.pays;
        };
      };
      wrote = h.wrote;
      grows = h.grows;
      few = h.few;
    }

pub reporting_wider : {p q a b m n k : ℕ} {held : List ℕ} {s t : RigState} {w : Writer}
    {fault : EmFault} → Sound s → p ≤ q → a ≤ b → m ≤ n → StopsReporting p a m held k s t w fault
    → StopsReporting q b n held k s t w fault
reporting_wider {p} {q} {a} {b} {m} {n} {k} {held} {s} {t} {w} h x y z g =
    let r = grown_rises s w m n h z in
    record { stops = stops_wider (omega (arith, r, x)) (omega (arith, r, y)) (omega arith) g.stops }

-- What a part left may be written on.
pub reports_pairs : {p a n m : ℕ} {held ks : List ℕ} {s t : RigState} {w v : Writer}
    {xs : List Record} → IsPairs s w → Reports p a held ks n m s t w v xs → IsPairs t v
reports_pairs {s = s} {t = t} i h =
    let n = h.wrote.filled_is in
    let c = h.wrote.count_is in
    let e = i.filled_is in
    record {
      writer = h.wrote.is;
      filled_is = omega (arith, n, c, e);
      few = h.few;
      packed = λ z.
          let y : IsTrue s.device.told = sym h.wrote.told ∙ z in h.wrote.packed y (i.packed y);
    }

pub reports_holds : {p a n m : ℕ} {held ks : List ℕ} {s t : RigState} {w v : Writer}
    {xs : List Record} → Reports p a held ks n m s t w v xs → IsTrue t.device.told
    → Holds t (ks ++ writer_blocks t v)
reports_holds {s = s} h y = let z : IsTrue s.device.told = sym h.wrote.told ∙ y in h.runs.session.holds z

-- A part that changes the first of two values' blocks,
pub shift_left : {p n m : ℕ} {ks js : List ℕ} {s t : RigState} (e : ℕ) (ys zs : List ℕ) (x : ℕ)
    → (IsTrue s.device.told → Holds s (ks ++ ys)) → (IsTrue s.device.told → zs ≡ ys)
    → Shifts p e ks js n m s t → Shifts (p + x) e (ks ++ ys) (js ++ zs) (n + x) (m + x) s t
shift_left {js = js} e ys zs x k d h =
    let r = runs_first ys (stored x) k h in
    let c = r.spends in
    record {
      session = session_as (js ++ zs) r.session (λ z. ap (λ (is : List ℕ). js ++ is) (d z));
      frames = r.frames;
      spends = record {
        held = c.held;
        used = c.used;
        most = c.most;
        moves = let a = c.moves in omega (arith, a);
        later = c.later;
        pays = c.pays;
      };
    }

-- or those of the second one.
pub shift_right : {p n m : ℕ} {ks js : List ℕ} {s t : RigState} (e : ℕ) (xs zs : List ℕ) (x : ℕ)
    → (IsTrue s.device.told → Holds s (xs ++ ks)) → (IsTrue s.device.told → zs ≡ xs)
    → Shifts p e ks js n m s t → Shifts (x + p) e (xs ++ ks) (zs ++ js) (x + n) (x + m) s t
shift_right {js = js} e xs zs x k d h =
    let r = runs_second xs (stored x) k h in
    let c = r.spends in
    record {
      session = session_as (zs ++ js) r.session (λ z. ap (λ (is : List ℕ). is ++ js) (d z));
      frames = r.frames;
      spends = record {
        held = c.held;
        used = c.used;
        most = c.most;
        moves = let a = c.moves in omega (arith, a);
        later = c.later;
        pays = c.pays;
      };
    }

-- Such a part gave up.
pub shift_left_stops : {p e n : ℕ} {ks : List ℕ} {s t : RigState} {fault : EmFault} (ys : List ℕ)
    (x : ℕ) → StopsShifting p e ks n s t fault → StopsShifting (p + x) e (ks ++ ys) (n + x) s t fault
shift_left_stops ys x h = record {
  stops = stops_wider (omega arith) (omega arith) (omega arith) (stops_first ys (stored x) h.stops);
}

pub shift_right_stops : {p e n : ℕ} {ks : List ℕ} {s t : RigState} {fault : EmFault} (xs : List ℕ)
    (x : ℕ) → StopsShifting p e ks n s t fault → StopsShifting (x + p) e (xs ++ ks) (x + n) s t fault
shift_right_stops xs x h = record {
  stops = stops_wider (omega arith) (omega arith) (omega arith) (stops_second xs (stored x) h.stops);
}

-- Parts that write no pair, one after another.
pub shifts_then : {p q n m l : ℕ} {held ks js : List ℕ} {s t u : RigState} (a b : ℕ)
    → Shifts p a held ks n m s t → Shifts q b ks js m l t u → Shifts (max p q) (a + b) held js n l s u
shifts_then {p} {q} {n} {m} {l} {held} {ks} {js} {s} {t} {u} a b h g =
    let c = spends_then h.spends (spends_moved a g.spends) in
    record {
      session = session_trans h.session g.session;
      frames = same_frames_then s.pool t.pool u.pool h.frames g.frames;
      spends = record {
        held = c.held;
        used = c.used;
        most = c.most;
        moves = let d = c.moves in omega (arith, d);
        later = c.later;
        pays = c.pays;
      };
    }

pub shifts_stop : {p q b n m : ℕ} {held ks : List ℕ} {s t u : RigState} {fault : EmFault} (a : ℕ)
    → Shifts p a held ks n m s t → StopsShifting q b ks m t u fault
    → StopsShifting (max p q) (a + b) held n s u fault
shifts_stop {s = s} {t = t} a h k =
    let fan : fan_of t.pool.shape ≡ fan_of s.pool.shape = ap fan_of h.session.touches.shape in
    let g = k.stops in
    record {
      stops = stops_wider (omega arith) (omega arith) (omega (arith, fan))
          (stops_after h (record { goes = g.goes; halts = halts_moved a g.halts; cause = g.cause }));
    }

pub shifts_wider : {p q n m : ℕ} {held ks : List ℕ} {s t : RigState} (a b : ℕ) → p ≤ q → a ≤ b
    → Shifts p a held ks n m s t → Shifts q b held ks n m s t
shifts_wider a b x y h =
    let c = h.spends in
    record {
      session = h.session;
      frames = h.frames;
      spends = record {
        held = let d = c.held in omega (arith, d, x);
        used = c.used;
        most = let d = c.most in omega (arith, d, x);
        moves = let d = c.moves in omega (arith, d, y);
        later = c.later;
        pays = c.pays;
      };
    }

pub shifting_wider : {p q a b n : ℕ} {held : List ℕ} {s t : RigState} {fault : EmFault} → p ≤ q
    → a ≤ b → StopsShifting p a held n s t fault → StopsShifting q b held n s t fault
shifting_wider x y h = record { stops = stops_wider x y (omega arith) h.stops }
