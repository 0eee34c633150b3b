-- Calls that take a few blocks and store them: one after another, and beside other blocks.
use Rattle.std.proofs.Common.{◌≡◌, ℕ, ◌+◌, ◌<◌, ◌≤◌, List, [], ◌∷◌, ◌++◌, length, sym, arith, IsTrue}
use Rattle.std.proofs.lemmas.List.{length-append}
use Rattle.em_space.specs.Free.{AreDistinct, Off}
use Rattle.em_space.specs.Held.{AllInUse, Holds}
use Rattle.em_space.specs.Ledger.{Runs, Session, Stops}
use Rattle.em_space.specs.Rig.{RigState, Cause, Goes, InUse, IfFull}
use Rattle.em_space.specs.declared.fault.EmFault.{EmFault}
use Rattle.em_space.specs.declared.fault.EmFault.TheVariants.{Damaged, DeviceFault, Full}
use Rattle.em_space.proofs.Apart.{off_append, off_left, off_right}
use Rattle.em_space.proofs.Ledgers.{full_by, full_never}
use Rattle.em_space.proofs.Paying.{pays_kept, pays_more, pays_then}
use Rattle.em_space.proofs.Sessions.{session_as, session_beside, session_still, session_trans}
use Rattle.em_space.proofs.Steps.{block_cause, cause_after, same_frames_then, touches_wider}
use Rattle.em_space.proofs.Within.{goes_wider, goes_within, within_same}
use Rattle.em_balance.specs.Effects.{owing}
use Rattle.em_tree_walk.specs.SplitPaths.{StopsUpTo, TakesUpTo}
use Rattle.em_tree_walk.proofs.Losses.{loses_as, loses_beside, loses_from, loses_still, loses_then}
use Rattle.em_tree_walk.specs.Reads.{ReadsOnly, StopsReading}
use Rattle.em_tree_walk.specs.Taken.{StopsTaking, StoresNode}

-- One call after another.
pub takes_then : {n m k j : ℕ} {held ks js : List ℕ} {s t u : RigState}
    → TakesUpTo n m held ks s t → TakesUpTo k j ks js t u → TakesUpTo (n + k) (m + j) held js s u
takes_then {n} {m} {k} {j} {held} {ks} {js} {s} {t} {u} x y =
    let a = x.used in
    let b = y.used in
    let c = x.most in
    let d = y.most in
    let e = x.moves in
    let f = y.moves in
    record {
      session = session_trans x.session y.session;
      frames = same_frames_then s.pool t.pool u.pool x.frames y.frames;
      used = omega arith;
      most = omega arith;
      moves = omega arith;
      pays = pays_then x.pays y.pays y.session.touches.moves;
      loses = loses_then held ks js s t u x.session.touches.told x.loses y.loses;
    }

-- A call on one of several values.
pub takes_beside : {n m : ℕ} {s t : RigState} (xs ks js ys : List ℕ)
    → (IsTrue s.device.told → Holds s (xs ++ (ks ++ ys))) → TakesUpTo n m ks js s t
    → TakesUpTo n m (xs ++ (ks ++ ys)) (xs ++ (js ++ ys)) s t
takes_beside {s = s} {t = t} xs ks js ys h x = record {
  session = session_beside xs ks js ys h x.session;
  frames = x.frames;
  used = x.used;
  most = x.most;
  moves = x.moves;
  pays = x.pays;
  loses = loses_beside xs ks js ys s t x.loses;
}

-- the same blocks, if the device tells
pub takes_as : {n m : ℕ} {held ks : List ℕ} {s t : RigState} (js : List ℕ)
    → TakesUpTo n m held ks s t → (IsTrue s.device.told → js ≡ ks) → TakesUpTo n m held js s t
takes_as {held = held} {ks = ks} {s = s} {t = t} js x e = record {
  session = session_as js x.session e;
  frames = x.frames;
  used = x.used;
  most = x.most;
  moves = x.moves;
  pays = x.pays;
  loses = loses_as held ks js s t x.loses e;
}

-- the same blocks before it
session_from : {held ks : List ℕ} {s t : RigState} (hs : List ℕ) → Session held s t ks
    → (IsTrue s.device.told → hs ≡ held) → Session hs s t ks
session_from {held} {ks} {s} {t} hs h e = record {
  sound = h.sound;
  touches = touches_wider hs held s t h.touches (λ z k u o. rw (sym (e z)) o);
  within = record { off = λ z j u o. h.within.off z j u (rw (sym (e z)) o) };
  holds = h.holds;
}

pub takes_from : {n m : ℕ} {held ks : List ℕ} {s t : RigState} (hs : List ℕ)
    → TakesUpTo n m held ks s t → (IsTrue s.device.told → hs ≡ held) → TakesUpTo n m hs ks s t
takes_from {held = held} {ks = ks} {s = s} {t = t} hs x e = record {
  session = session_from hs x.session e;
  frames = x.frames;
  used = x.used;
  most = x.most;
  moves = x.moves;
  pays = x.pays;
  loses = loses_from held hs ks s t x.loses e;
}

pub takes_wider : {n m : ℕ} {held ks : List ℕ} {s t : RigState} (k j : ℕ) → n ≤ k → m ≤ j
    → TakesUpTo n m held ks s t → TakesUpTo k j held ks s t
takes_wider {n} {m} {held} {ks} {s} {t} k j less lesser x =
    let a = x.used in
    let c = x.most in
    let e = x.moves in
    record {
      session = x.session;
      frames = x.frames;
      used = omega arith;
      most = omega arith;
      moves = omega arith;
      pays = x.pays;
      loses = x.loses;
    }

-- a block at another place of the list
off_moved : (j k : ℕ) (xs ys : List ℕ) → Off j (k ∷ xs ++ ys) → Off j (xs ++ (k ∷ ys))
off_moved j k xs ys o =
    off_append j xs (k ∷ ys) (off_left j xs ys o.1) (o.0, off_right j xs ys o.1)

in_use_moved : (s : RigState) (k : ℕ) (xs ys : List ℕ) → AllInUse s (k ∷ xs ++ ys)
    → AllInUse s (xs ++ (k ∷ ys))
in_use_moved s k [] ys a = a
in_use_moved s k (x ∷ xs) ys a = (a.1.0, in_use_moved s k xs ys (a.0, a.1.1))

distinct_moved : (k : ℕ) (xs ys : List ℕ) → AreDistinct (k ∷ xs ++ ys)
    → AreDistinct (xs ++ (k ∷ ys))
distinct_moved k [] ys d = d
distinct_moved k (x ∷ xs) ys d = (
  off_moved x k xs ys ((λ e. d.0.0 (sym e)), d.1.0),
  distinct_moved k xs ys (d.0.1, d.1.1),
)

pub takes_moved : {n m : ℕ} {held : List ℕ} {s t : RigState} (k : ℕ) (xs ys : List ℕ)
    → TakesUpTo n m held (k ∷ xs ++ ys) s t → TakesUpTo n m held (xs ++ (k ∷ ys)) s t
takes_moved {n} {m} {held} {s} {t} k xs ys x = record {
  session = record {
    sound = x.session.sound;
    touches = x.session.touches;
    within = record { off = λ z j u o. off_moved j k xs ys (x.session.within.off z j u o) };
    holds = λ z. record {
      in_use = in_use_moved t k xs ys (x.session.holds z).in_use;
      distinct = λ y. distinct_moved k xs ys ((x.session.holds z).distinct y);
    };
  };
  frames = x.frames;
  used = x.used;
  most = x.most;
  moves = x.moves;
  pays = x.pays;
  loses = λ z.
      let a = x.loses z in
      let n = length-append xs ys in
      let m = length-append xs (k ∷ ys) in
      omega (arith, a, n, m);
}

-- The last call gave up.
pub stops_then : {n m k j : ℕ} {held ks : List ℕ} {s t u : RigState} {e : EmFault}
    → TakesUpTo n m held ks s t → StopsUpTo k j ks t u e → StopsUpTo (n + k) (m + j) held s u e
stops_then {n} {m} {k} {j} {held} {ks} {s} {t} {u} {e} x y =
    let a = x.used in
    let b = y.used in
    let c = x.most in
    let d = y.most in
    let f = x.moves in
    let g = y.moves in
    let blocks = x.session.touches.blocks in
    let goes : Goes held s t = record {
      sound = x.session.sound;
      touches = x.session.touches;
      frames = x.frames;
    } in
    record {
      goes = goes_within held ks s t u goes x.session.within y.goes;
      used = omega arith;
      most = omega arith;
      moves = omega arith;
      pays = pays_then x.pays y.pays y.goes.touches.moves;
      full = full_by e (t.blocks < t.used + k) (s.blocks < s.used + (n + k))
          (λ h. omega (arith, h, a, blocks)) y.full;
      cause = cause_after held s t u e x.session.touches y.cause;
    }

pub stops_beside : {n m : ℕ} {s t : RigState} {e : EmFault} (xs ks ys : List ℕ)
    → StopsUpTo n m ks s t e → StopsUpTo n m (xs ++ (ks ++ ys)) s t e
stops_beside {n} {m} {s} {t} {e} xs ks ys x = record {
  goes = goes_wider (xs ++ (ks ++ ys)) ks s t
      (record { off = λ z j u o. off_left j ks ys (off_right j xs (ks ++ ys) o) }) x.goes;
  used = x.used;
  most = x.most;
  moves = x.moves;
  pays = x.pays;
  full = x.full;
  cause = x.cause;
}

pub stops_from : {n m : ℕ} {held : List ℕ} {s t : RigState} {e : EmFault} (hs : List ℕ)
    → StopsUpTo n m held s t e → (IsTrue s.device.told → hs ≡ held) → StopsUpTo n m hs s t e
stops_from {n} {m} {held} {s} {t} {e} hs x same = record {
  goes = goes_wider hs held s t (record { off = λ z j u o. rw (sym (same z)) o }) x.goes;
  used = x.used;
  most = x.most;
  moves = x.moves;
  pays = x.pays;
  full = x.full;
  cause = x.cause;
}

pub stops_wider : {n m : ℕ} {held : List ℕ} {s t : RigState} {e : EmFault} (k j : ℕ) → n ≤ k
    → m ≤ j → StopsUpTo n m held s t e → StopsUpTo k j held s t e
stops_wider {n} {m} {held} {s} {t} {e} k j less lesser x =
    let a = x.used in
    let c = x.most in
    let f = x.moves in
    record {
      goes = x.goes;
      used = omega arith;
      most = omega arith;
      moves = omega arith;
      pays = x.pays;
      full = full_by e (s.blocks < s.used + n) (s.blocks < s.used + k)
          (λ h. omega (arith, h, less)) x.full;
      cause = x.cause;
    }

-- No block was taken: blocks were read,
pub reads_take : {n : ℕ} {s t : RigState} (ks : List ℕ) → (IsTrue s.device.told → Holds s ks)
    → ReadsOnly n s t → TakesUpTo 0 n ks ks s t
reads_take {n} {s} {t} ks h r =
    let used = r.same.used in
    let most = r.same.most in
    let later = r.goes.touches.moves in
    record {
      session = session_still ks r.goes.sound r.goes.touches h;
      frames = r.goes.frames;
      used = omega arith;
      most = omega arith;
      moves = r.moves;
      pays = pays_kept 0 (omega arith) later;
      loses = loses_still ks s t used;
    }

-- or couldn't be,
pub reads_stop_take : {n : ℕ} {s t : RigState} {e : EmFault} (ks : List ℕ) → StopsReading n s t e
    → StopsUpTo 0 n ks s t e
reads_stop_take {n} {s} {t} {e} ks x =
    let r = x.reads in
    let used = r.same.used in
    let most = r.same.most in
    let later = r.goes.touches.moves in
    record {
      goes = record {
        sound = r.goes.sound;
        touches = touches_wider ks [] s t r.goes.touches (λ z k u o. tt);
        frames = r.goes.frames;
      };
      used = omega arith;
      most = omega arith;
      moves = r.moves;
      pays = pays_more (pays_kept 0 (omega arith) later) (omega arith);
      full = full_never s t e (s.blocks < s.used + 0) x.cause;
      cause = block_cause s t e x.cause;
    }

-- or a node's block was stored,
pub store_takes : {s t : RigState} {k : ℕ} → (IsTrue s.device.told → InUse t k) → StoresNode s t k
    → TakesUpTo 0 2 (k ∷ []) (k ∷ []) s t
store_takes {s} {t} {k} u x =
    let used = x.same.used in
    let most = x.same.most in
    let later = x.goes.touches.moves in
    record {
      session = record {
        sound = x.goes.sound;
        touches = x.goes.touches;
        within = within_same s (k ∷ []);
        holds = λ z. record { in_use = (u z, tt); distinct = λ y. (tt, tt) };
      };
      frames = x.goes.frames;
      used = omega arith;
      most = omega arith;
      moves = x.moves;
      pays = pays_kept 0 (omega arith) later;
      loses = loses_still (k ∷ []) s t used;
    }

-- or couldn't be.
pub store_stops : {s t : RigState} {k : ℕ} {e : EmFault} → StopsTaking s t k e
    → StopsUpTo 0 2 (k ∷ []) s t e
store_stops {s} {t} {k} {e} x =
    let used = x.stores.same.used in
    let most = x.stores.same.most in
    let later = x.stores.goes.touches.moves in
    record {
      goes = x.stores.goes;
      used = omega arith;
      most = omega arith;
      moves = x.stores.moves;
      pays = pays_more (pays_kept 0 (omega arith) later) (omega arith);
      full = full_never s t e (s.blocks < s.used + 0) x.cause;
      cause = block_cause s t e x.cause;
    }

-- A block more was taken, as a ledger says it,
pub runs_take : {n m : ℕ} {held ks : List ℕ} {s t : RigState}
    → Runs (n + 1) held ks (owing n m) (owing (n + 1) 0) s t → length held ≡ n → length ks ≡ n + 1
    → TakesUpTo 1 m held ks s t
runs_take {n} {m} {held} {ks} {s} {t} r before after =
    let used = r.spends.used in
    let most = r.spends.most in
    let moves = r.spends.moves in
    record {
      session = r.session;
      frames = r.frames;
      used = omega arith;
      most = omega arith;
      moves = omega arith;
      pays = r.spends.pays;
      loses = λ z. omega (arith, used, before, after);
    }

room_by : (n : ℕ) (s t : RigState) (e : EmFault) → t.blocks ≡ s.blocks → Cause s t e
    → IfFull e (λ _. t.used + n < s.used + (n + 1)) → IfFull e (λ _. s.blocks < s.used + 1)
room_by n s t DeviceFault e c h = tt
room_by n s t (Full used) e c h = let a = c.1 in omega (arith, h, e, a)
room_by n s t (Damaged k) e c h = tt

-- or wasn't.
pub stops_take : {n m : ℕ} {held : List ℕ} {s t : RigState} {e : EmFault}
    → Stops (n + 1) 0 1 held (owing n m) s t e → StopsUpTo 1 m held s t e
stops_take {n} {m} {held} {s} {t} {e} x =
    let used = x.halts.used in
    let most = x.halts.most in
    let moves = x.halts.moves in
    record {
      goes = x.goes;
      used = omega arith;
      most = omega arith;
      moves = omega arith;
      pays = x.halts.pays;
      full = room_by n s t e x.goes.touches.blocks x.cause x.halts.full;
      cause = x.cause;
    }
