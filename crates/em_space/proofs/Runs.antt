-- Sessions with their ledgers, one after another and beside other values.
use Rattle.std.proofs.Common.{◌≡◌, ℕ, ◌+◌, ◌≤◌, List, [], ◌++◌, IsTrue, ◌∙◌, max}
use Rattle.std.proofs.lemmas.List.{append-nil}
use Rattle.em_space.specs.Held.{Holds, Within}
use Rattle.em_space.specs.Ledger.{Account, both, Spends, Session, Runs, Stops}
use Rattle.em_space.specs.Rig.{RigState, Sound, Goes}
use Rattle.em_space.specs.declared.fault.EmFault.{EmFault}
use Rattle.em_space.proofs.Ledgers.{spends_none, spends_then, spends_beside, spends_behind, spends_wider, halts_after, halts_beside, halts_behind, halts_wider}
use Rattle.em_space.proofs.Sessions.{session_none, session_as, session_trans, session_beside}
use Rattle.em_space.proofs.Steps.{goes_nothing, same_frames_then, cause_after}
use Rattle.em_space.proofs.Within.{goes_wider, goes_within, within_left, within_right}

-- No call yet.
pub runs_none : (s : RigState) (ks : List ℕ) (a : Account) → Sound s
    → (IsTrue s.device.told → Holds s ks) → Runs a.blocks ks ks a a s s
runs_none s ks a h n = record {
  session = session_none s ks h n;
  frames = (goes_nothing s h).frames;
  spends = spends_none a s;
}

-- From what a call says today.
pub runs_of : {p : ℕ} {a b : Account} {s t : RigState} (ks js : List ℕ) → Goes ks s t
    → Within s ks js → (IsTrue t.device.told → Holds t js) → Spends p a b s t
    → Runs p ks js a b s t
runs_of {p} {a} {b} {s} {t} ks js g w n k = record {
  session = record {
    sound = g.sound;
    touches = g.touches;
    within = w;
    holds = λ z. n (g.touches.told ∙ z);
  };
  frames = g.frames;
  spends = k;
}

pub runs_goes : {p : ℕ} {ks js : List ℕ} {a b : Account} {s t : RigState}
    → Runs p ks js a b s t → Goes ks s t
runs_goes h = record {
  sound = h.session.sound;
  touches = h.session.touches;
  frames = h.frames;
}

-- the same blocks, if the device tells
pub runs_as : {p : ℕ} {ks js : List ℕ} {a b : Account} {s t : RigState} (ls : List ℕ)
    → Runs p ks js a b s t → (IsTrue s.device.told → ls ≡ js) → Runs p ks ls a b s t
runs_as ls h e = record {
  session = session_as ls h.session e;
  frames = h.frames;
  spends = h.spends;
}

pub runs_wider : {p q : ℕ} {ks js : List ℕ} {a b : Account} {s t : RigState} → p ≤ q
    → Runs p ks js a b s t → Runs q ks js a b s t
runs_wider w h = record {
  session = h.session;
  frames = h.frames;
  spends = spends_wider w h.spends;
}

-- One call after another.
pub runs_then : {p q : ℕ} {held ks js : List ℕ} {a b c : Account} {s t u : RigState}
    → Runs p held ks a b s t → Runs q ks js b c t u → Runs (max p q) held js a c s u
runs_then {s = s} {t = t} {u = u} h g = record {
  session = session_trans h.session g.session;
  frames = same_frames_then s.pool t.pool u.pool h.frames g.frames;
  spends = spends_then h.spends g.spends;
}

-- The last call gave up.
pub stops_after : {p q l f : ℕ} {held ks : List ℕ} {a b : Account} {s t u : RigState}
    {e : EmFault} → Runs p held ks a b s t → Stops q l f ks b t u e
    → Stops (max p q) l f held a s u e
stops_after {held = held} {ks = ks} {s = s} {t = t} {u = u} {e = e} h g = record {
  goes = goes_within held ks s t u (runs_goes h) h.session.within g.goes;
  halts = halts_after h.spends g.halts;
  cause = cause_after held s t u e h.session.touches g.cause;
}

pub stops_wider : {p q l m f g : ℕ} {ks : List ℕ} {a : Account} {s t : RigState} {e : EmFault}
    → p ≤ q → l ≤ m → f ≤ g → Stops p l f ks a s t e → Stops q m g ks a s t e
stops_wider w x y h = record {
  goes = h.goes;
  halts = halts_wider w x y h.halts;
  cause = h.cause;
}

-- A call on the first of two values,
pub runs_first : {p : ℕ} {ks js : List ℕ} {a b : Account} {s t : RigState} (ys : List ℕ)
    (x : Account) → (IsTrue s.device.told → Holds s (ks ++ ys)) → Runs p ks js a b s t
    → Runs (p + x.blocks) (ks ++ ys) (js ++ ys) (both a x) (both b x) s t
runs_first {ks = ks} {js = js} ys x n h = record {
  session = session_beside [] ks js ys n h.session;
  frames = h.frames;
  spends = spends_beside x h.spends;
}

-- and on the second one.
pub runs_second : {p : ℕ} {ks js : List ℕ} {a b : Account} {s t : RigState} (xs : List ℕ)
    (x : Account) → (IsTrue s.device.told → Holds s (xs ++ ks)) → Runs p ks js a b s t
    → Runs (x.blocks + p) (xs ++ ks) (xs ++ js) (both x a) (both x b) s t
runs_second {ks = ks} {js = js} {s = s} {t = t} xs x n h = record {
  session =
      let m : IsTrue s.device.told → Holds s (xs ++ (ks ++ [])) = λ z. rw (append-nil ks) (n z) in
      let g : Session (xs ++ (ks ++ [])) s t (xs ++ (js ++ [])) =
      session_beside xs ks js [] m h.session in
      rw (append-nil ks, append-nil js) at g;
  frames = h.frames;
  spends = spends_behind x h.spends;
}

-- A call on one of two values gave up.
pub stops_first : {p l f : ℕ} {ks : List ℕ} {a : Account} {s t : RigState} {e : EmFault}
    (ys : List ℕ) (x : Account) → Stops p l f ks a s t e
    → Stops (p + x.blocks) (l + x.paid) (f + x.unstored) (ks ++ ys) (both a x) s t e
stops_first {ks = ks} {s = s} {t = t} ys x h = record {
  goes = goes_wider (ks ++ ys) ks s t (within_left s ks ys) h.goes;
  halts = halts_beside x h.halts;
  cause = h.cause;
}

pub stops_second : {p l f : ℕ} {ks : List ℕ} {a : Account} {s t : RigState} {e : EmFault}
    (xs : List ℕ) (x : Account) → Stops p l f ks a s t e
    → Stops (x.blocks + p) (x.paid + l) (x.unstored + f) (xs ++ ks) (both x a) s t e
stops_second {ks = ks} {s = s} {t = t} xs x h = record {
  goes = goes_wider (xs ++ ks) ks s t (within_right s xs ks) h.goes;
  halts = halts_behind x h.halts;
  cause = h.cause;
}
