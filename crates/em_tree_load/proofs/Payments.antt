-- Calls one after another, of which it is known what was paid.
use Rattle.std.proofs.Common.{◌≡◌, ℕ, ◌+◌, ◌≤◌, List, [], ◌++◌, refl, arith, IsTrue}
use Rattle.em_space.specs.Held.{Holds, Within}
use Rattle.em_space.specs.Queue.{Pays}
use Rattle.em_space.specs.Rig.{RigState, Sound, Cause, Goes}
use Rattle.em_space.specs.declared.fault.EmFault.{EmFault}
use Rattle.em_space.proofs.Apart.{off_left}
use Rattle.em_space.proofs.Paying.{pays_kept, pays_more, pays_then}
use Rattle.em_space.proofs.Sessions.{session_none, session_still, session_trans}
use Rattle.em_space.proofs.Steps.{cause_after, same_frames, same_frames_then}
use Rattle.em_space.proofs.Within.{goes_wider, goes_within, within_none}
use Rattle.em_tree_walk.specs.Paid.{RunsPaid, StopsPaid}
use Rattle.em_tree_walk.proofs.Losses.{loses_beside, loses_same, loses_still, loses_then, loses_whole}
use Rattle.em_tree_walk.proofs.Regions.{SameTally, goes_same, off_same, session_from, session_part, session_same}

-- nothing was done
pub paid_none : (s : RigState) (ks : List ℕ) (n : ℕ) → Sound s → (IsTrue s.device.told → Holds s ks)
    → RunsPaid ks ks n n s s
paid_none s ks n h v = record {
  session = session_none s ks h v;
  frames = same_frames s.pool;
  pays = pays_kept n (omega arith) (omega arith);
  loses = loses_still ks s s refl;
}

pub paid_goes : {held ks : List ℕ} {m n : ℕ} {s t : RigState} → RunsPaid held ks m n s t
    → Goes held s t
paid_goes h = record {
  sound = h.session.sound;
  touches = h.session.touches;
  frames = h.frames;
}

-- another order of what is held
pub paid_same : {held ks : List ℕ} {m n : ℕ} {s t : RigState} (js : List ℕ)
    → RunsPaid held ks m n s t → (IsTrue s.device.told → SameTally ks js)
    → RunsPaid held js m n s t
paid_same {held} {ks} {s = s} {t = t} js h e = record {
  session = session_same js h.session e;
  frames = h.frames;
  pays = h.pays;
  loses = loses_same held ks js s t h.loses e;
}

pub paid_from : {held ks : List ℕ} {m n : ℕ} {s t : RigState} (gs : List ℕ)
    → RunsPaid held ks m n s t → (IsTrue s.device.told → SameTally gs held)
    → RunsPaid gs ks m n s t
paid_from {held} {ks} {s = s} {t = t} gs h e = record {
  session = session_from gs h.session e;
  frames = h.frames;
  pays = h.pays;
  loses = loses_whole held gs ks s t h.loses e;
}

-- A call on some of the blocks, of which a weren't stored before and b aren't after it,
pub paid_part : {held whole : List ℕ} {m n a b : ℕ} {s t u : RigState} (ks js rest : List ℕ)
    (x : ℕ) → n ≡ a + x → RunsPaid held whole m n s t
    → (IsTrue s.device.told → SameTally whole (ks ++ rest)) → RunsPaid ks js a b t u
    → RunsPaid held (js ++ rest) m (b + x) s u
paid_part {held} {whole} {n = n} {a = a} {b = b} {s = s} {t = t} {u = u} ks js rest x few h e g = record {
  session = session_part ks js rest h.session e g.session;
  frames = same_frames_then s.pool t.pool u.pool h.frames g.frames;
  pays =
      let more : Pays n (b + x) t u = pays_more g.pays (omega (arith, few)) in
      pays_then h.pays more g.session.touches.moves;
  loses = loses_then held (ks ++ rest) (js ++ rest) s t u h.session.touches.told
      (loses_same held whole (ks ++ rest) s t h.loses e) (loses_beside [] ks js rest t u g.loses);
}

-- and one that gave up.
pub paid_stops : {held whole : List ℕ} {m n a b : ℕ} {s t u : RigState} {fault : EmFault}
    (ks rest : List ℕ) (x : ℕ) → n ≡ a + x → RunsPaid held whole m n s t
    → (IsTrue s.device.told → SameTally whole (ks ++ rest)) → StopsPaid ks a b t u fault
    → StopsPaid held m (b + x) s u fault
paid_stops {held} {whole} {n = n} {a = a} {b = b} {s = s} {t = t} {u = u} {fault = fault} ks rest x
    few h e g =
    let inner : Within s held ks = record {
      off = λ z j i o. off_left j ks rest (off_same j whole (ks ++ rest) (e z)
          (h.session.within.off z j i o));
    } in
    record {
      goes = goes_within held ks s t u (paid_goes h) inner g.goes;
      pays =
          let more : Pays n (b + x) t u = pays_more g.pays (omega (arith, few)) in
          pays_then h.pays more g.goes.touches.moves;
      cause = cause_after held s t u fault h.session.touches g.cause;
    }

-- more that isn't stored, and another order of what was held
pub stops_paid_more : {held : List ℕ} {m n : ℕ} {s t : RigState} {fault : EmFault} (gs : List ℕ)
    (p : ℕ) → n ≤ p → StopsPaid held m n s t fault
    → (IsTrue s.device.told → SameTally gs held) → StopsPaid gs m p s t fault
stops_paid_more {m = m} {n = n} gs p few h e = record {
  goes = goes_same gs h.goes e;
  pays = pays_more h.pays (omega (arith, few));
  cause = h.cause;
}

-- A call that changes no block,
pub paid_still : {s r : RigState} (ks : List ℕ) (n : ℕ) → Goes [] s r → r.used ≡ s.used
    → (IsTrue s.device.told → Holds s ks) → RunsPaid ks ks n n s r
paid_still {s} {r} ks n g used v = record {
  session = session_still ks g.sound g.touches v;
  frames = g.frames;
  pays = let later = g.touches.moves in pays_kept n (omega (arith, used)) later;
  loses = loses_still ks s r used;
}

-- and one on the same blocks after it.
pub paid_then : {held ks js : List ℕ} {m n p : ℕ} {s t u : RigState} (gs : List ℕ)
    → RunsPaid held ks m n s t → (IsTrue s.device.told → SameTally ks gs)
    → RunsPaid gs js n p t u → RunsPaid held js m p s u
paid_then {held} {ks} {js} {s = s} {t = t} {u = u} gs h e g = record {
  session = session_trans (session_same gs h.session e) g.session;
  frames = same_frames_then s.pool t.pool u.pool h.frames g.frames;
  pays = pays_then h.pays g.pays g.session.touches.moves;
  loses = loses_then held gs js s t u h.session.touches.told (loses_same held ks gs s t h.loses e)
      g.loses;
}

pub paid_then_stops : {held ks : List ℕ} {m n p : ℕ} {s t u : RigState} {fault : EmFault}
    (gs : List ℕ) → RunsPaid held ks m n s t → (IsTrue s.device.told → SameTally ks gs)
    → StopsPaid gs n p t u fault → StopsPaid held m p s u fault
paid_then_stops {held} {ks} {s = s} {t = t} {u = u} {fault = fault} gs h e g = record {
  goes = goes_within held gs s t u (paid_goes h)
      (record { off = λ z j i o. off_same j ks gs (e z) (h.session.within.off z j i o) }) g.goes;
  pays = pays_then h.pays g.pays g.goes.touches.moves;
  cause = cause_after held s t u fault h.session.touches g.cause;
}

-- A call that changed no block and gave up.
pub still_stops : {s r : RigState} {fault : EmFault} (ks : List ℕ) (m n : ℕ) → m ≤ n → Goes [] s r
    → r.used ≡ s.used → Cause s r fault → StopsPaid ks m n s r fault
still_stops {s} {r} ks m n few g used cause = record {
  goes = goes_wider ks [] s r (within_none s ks [] (λ z. refl)) g;
  pays =
      let later = g.touches.moves in
      let kept : Pays m m s r = pays_kept m (omega (arith, used)) later in
      pays_more kept (omega (arith, few));
  cause = cause;
}
