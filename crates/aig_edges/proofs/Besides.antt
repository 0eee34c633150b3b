-- Calls of a queue beside other values, whose blocks and accounts are written in another way.
use Rattle.std.proofs.Common.{◌≡◌, ℕ, ◌+◌, ◌<◌, ◌≤◌, List, [], ◌++◌, IsTrue, ap, subst, sym, arith, append_assoc}
use Rattle.em_space.specs.Free.{Off}
use Rattle.em_space.specs.Held.{Apart, Holds}
use Rattle.em_space.specs.Ledger.{Account, Session, Stops}
use Rattle.em_space.specs.Queue.{QueueCounts}
use Rattle.em_space.specs.Rig.{RigState, Touches}
use Rattle.em_space.specs.declared.fault.EmFault.{EmFault}
use Rattle.em_space.proofs.Apart.{off_append, off_left, off_right}
use Rattle.em_space.proofs.Ledgers.{full_by}
use Rattle.em_space.proofs.Lists.{apart_append, apart_left, apart_right, apart_sym, distinct_apart, distinct_join, distinct_left, distinct_right, in_use_append, in_use_left, in_use_right}
use Rattle.em_space.proofs.Paying.{pays_more}
use Rattle.em_space.proofs.Sessions.{session_beside}
use Rattle.em_space.proofs.Steps.{touches_wider}
use Rattle.em_chain.specs.Chain.{IsChain, ChainStays, chain_blocks}
use Rattle.em_chain.specs.declared.chain.Chain.{Chain}
use Rattle.em_chain.proofs.Laws.{chain_stays}
use Rattle.em_queued.specs.Queued.{RunsBeside}
use Rattle.em_queued.proofs.Queued.{beside_as}

-- Blocks that are held, in another order.
holds_swapped : {s : RigState} (xs ys zs : List ℕ) → Holds s (xs ++ (ys ++ zs))
    → Holds s (xs ++ (zs ++ ys))
holds_swapped {s} xs ys zs h =
    let u = in_use_right s xs (ys ++ zs) h.in_use in
    record {
      in_use = in_use_append s xs (zs ++ ys) (in_use_left s xs (ys ++ zs) h.in_use)
          (in_use_append s zs ys (in_use_right s ys zs u) (in_use_left s ys zs u));
      distinct = λ z.
          let d = h.distinct z in
          let r = distinct_right xs (ys ++ zs) d in
          let a = apart_sym xs (ys ++ zs) (distinct_apart xs (ys ++ zs) d) in
          distinct_join xs (zs ++ ys) (distinct_left xs (ys ++ zs) d)
          (distinct_join zs ys (distinct_right ys zs r) (distinct_left ys zs r)
          (apart_sym ys zs (distinct_apart ys zs r)))
          (apart_sym (zs ++ ys) xs (apart_append zs ys xs (apart_right ys zs xs a)
          (apart_left ys zs xs a)));
    }

session_swapped : {held : List ℕ} {s t : RigState} (xs ys zs : List ℕ)
    → Session held s t (xs ++ (ys ++ zs)) → Session held s t (xs ++ (zs ++ ys))
session_swapped {held} {s} {t} xs ys zs h = record {
  sound = h.sound;
  touches = h.touches;
  within = record {
    off = λ z j u o.
        let w = h.within.off z j u o in
        let r = off_right j xs (ys ++ zs) w in
        off_append j xs (zs ++ ys) (off_left j xs (ys ++ zs) w)
        (off_append j zs ys (off_right j ys zs r) (off_left j ys zs r));
  };
  holds = λ z. holds_swapped xs ys zs (h.holds z);
}

pub beside_swapped : {i p : ℕ} {held : List ℕ} {a b : Account} {c d : QueueCounts}
    {s t : RigState} (xs ys zs : List ℕ) → RunsBeside i p held (xs ++ (ys ++ zs)) a b c d s t
    → RunsBeside i p held (xs ++ (zs ++ ys)) a b c d s t
beside_swapped xs ys zs h = record {
  runs = record {
    session = session_swapped xs ys zs h.runs.session;
    frames = h.runs.frames;
    spends = h.runs.spends;
  };
  calls_on = h.calls_on;
}

-- other accounts of as many blocks, with as many moves to come at least
pub beside_by : {i p : ℕ} {ks js : List ℕ} {a b : Account} {c d : QueueCounts} {s t : RigState}
    (x y : Account) → x.blocks ≡ a.blocks → y.blocks ≡ b.blocks → x.unstored ≡ a.unstored
    → y.unstored ≡ b.unstored
    → a.owed + b.paid + x.paid + y.owed ≤ x.owed + y.paid + a.paid + b.owed
    → RunsBeside i p ks js a b c d s t → RunsBeside i p ks js x y c d s t
beside_by {i} {p} {ks} {js} {a} {b} {c} {d} {s} {t} x y xb yb xu yu m h =
    let e = h.runs.spends in
    record {
      runs = record {
        session = h.runs.session;
        frames = h.runs.frames;
        spends = record {
          held = omega (arith, e.held, yb);
          used = omega (arith, e.used, xb, yb);
          most = omega (arith, e.most, xb);
          moves = omega (arith, e.moves, m);
          later = e.later;
          pays = pays_more e.pays (omega (arith, xu, yu));
        };
      };
      calls_on = h.calls_on;
    }

-- some of the blocks that are held
pub holds_skip : {s : RigState} (xs ys zs : List ℕ) → Holds s (xs ++ (ys ++ zs)) → Holds s (xs ++ zs)
holds_skip {s} xs ys zs h =
    let u = in_use_right s xs (ys ++ zs) h.in_use in
    record {
      in_use = in_use_append s xs zs (in_use_left s xs (ys ++ zs) h.in_use) (in_use_right s ys zs
          u);
      distinct = λ z.
          let d = h.distinct z in
          let r = distinct_right xs (ys ++ zs) d in
          let a = apart_sym xs (ys ++ zs) (distinct_apart xs (ys ++ zs) d) in
          distinct_join xs zs (distinct_left xs (ys ++ zs) d) (distinct_right ys zs r)
          (apart_sym zs xs (apart_right ys zs xs a));
    }

pub holds_last : {s : RigState} (xs ys : List ℕ) → Holds s (xs ++ ys) → Holds s ys
holds_last {s} xs ys h = record {
  in_use = in_use_right s xs ys h.in_use;
  distinct = λ z. distinct_right xs ys (h.distinct z);
}

-- Values that were held beside others, between two of them.
pub holds_between : {s : RigState} (qs rs ls : List ℕ) → Holds s (qs ++ (rs ++ ls))
    → Holds s ((qs ++ ls) ++ rs)
holds_between {s} qs rs ls h =
    subst (λ (ks : List ℕ). Holds s ks) (sym (append_assoc qs ls rs)) (holds_swapped qs rs ls h)

pub apart_between : {s : RigState} (qs rs ls : List ℕ) → IsTrue s.device.told
    → Holds s (qs ++ (rs ++ ls)) → Apart rs (qs ++ ls)
apart_between qs rs ls z h =
    apart_sym (qs ++ ls) rs (distinct_apart (qs ++ ls) rs ((holds_between qs rs ls h).distinct z))

-- They are held after a call on the others.
pub session_past : {s t : RigState} (qs rs ls ps gs : List ℕ)
    → (IsTrue s.device.told → Holds s (qs ++ (rs ++ ls))) → Session (qs ++ ls) s t (ps ++ gs)
    → Session (qs ++ (rs ++ ls)) s t (ps ++ (rs ++ gs))
session_past {s} {t} qs rs ls ps gs h g =
    let all = session_beside [] (qs ++ ls) (ps ++ gs) rs (λ z. holds_between qs rs ls (h z)) g in
    let last = session_swapped ps gs rs (subst (λ (ks : List ℕ). Session ((qs ++ ls) ++ rs) s t ks)
    (append_assoc ps gs rs) all) in
    let off = λ (j : ℕ) (o : Off j (qs ++ (rs ++ ls))).
    let r = off_right j qs (rs ++ ls) o in
    off_append j (qs ++ ls) rs (off_append j qs ls (off_left j qs (rs ++ ls) o)
    (off_right j rs ls r)) (off_left j rs ls r) in
    record {
      sound = last.sound;
      touches = touches_wider (qs ++ (rs ++ ls)) ((qs ++ ls) ++ rs) s t last.touches
          (λ z j u o. off j o);
      within = record { off = λ z j u o. last.within.off z j u (off j o) };
      holds = last.holds;
    }

-- The first of three values is the last one then,
pub beside_turned : {i p : ℕ} {held : List ℕ} {a b : Account} {c d : QueueCounts}
    {s t : RigState} (qs xs ys zs : List ℕ)
    → RunsBeside i p held (qs ++ (xs ++ (ys ++ zs))) a b c d s t
    → RunsBeside i p held (qs ++ (ys ++ (zs ++ xs))) a b c d s t
beside_turned qs xs ys zs h = beside_as (qs ++ (ys ++ (zs ++ xs)))
    (beside_swapped qs xs (ys ++ zs) h)
    (λ z. ap (λ (l : List ℕ). qs ++ l) (sym (append_assoc ys zs xs)))

-- and the last two change places.
pub beside_crossed : {i p : ℕ} {held : List ℕ} {a b : Account} {c d : QueueCounts}
    {s t : RigState} (qs xs ys zs : List ℕ)
    → RunsBeside i p held (qs ++ (xs ++ (ys ++ zs))) a b c d s t
    → RunsBeside i p held (qs ++ (xs ++ (zs ++ ys))) a b c d s t
beside_crossed qs xs ys zs h = beside_as (qs ++ (xs ++ (zs ++ ys)))
    (beside_swapped (qs ++ xs) ys zs (beside_as ((qs ++ xs) ++ (ys ++ zs)) h
    (λ z. append_assoc qs xs (ys ++ zs))))
    (λ z. sym (append_assoc qs xs (zs ++ ys)))

-- The queue's blocks and those of the first value together.
pub beside_front : {i p : ℕ} {held : List ℕ} {a b : Account} {c d : QueueCounts}
    {s t : RigState} (qs xs ys : List ℕ) → RunsBeside i p held (qs ++ (xs ++ ys)) a b c d s t
    → RunsBeside i p held ((qs ++ xs) ++ ys) a b c d s t
beside_front qs xs ys h = beside_as ((qs ++ xs) ++ ys) h (λ z. append_assoc qs xs ys)

-- the same of a call that gave up
pub stops_by : {p q l m u : ℕ} {ks : List ℕ} {a : Account} {s t : RigState} {e : EmFault}
    (x : Account) → p ≤ q → x.blocks ≡ a.blocks → x.unstored ≡ a.unstored
    → a.owed + l + x.paid ≤ x.owed + m + a.paid
    → Stops p l u ks a s t e → Stops q m u ks x s t e
stops_by {p} {q} {l} {m} {u} {ks} {a} {s} {t} {e} x w xb xu n h =
    let k = h.halts in
    record {
      goes = h.goes;
      halts = record {
        used = omega (arith, k.used, w, xb);
        full = full_by e (t.used + a.blocks < s.used + p) (t.used + x.blocks < s.used + q)
            (λ f. omega (arith, f, w, xb)) k.full;
        most = omega (arith, k.most, w, xb);
        moves = omega (arith, k.moves, n);
        later = k.later;
        pays = pays_more k.pays (omega (arith, xu));
      };
      cause = h.cause;
    }

-- a chain among those that stayed
pub stays_beside : {s t : RigState} (ks ys : List ℕ) (c : Chain) → Touches ks s t
    → (IsTrue s.device.told → Holds s (ks ++ ys))
    → (IsTrue s.device.told → Apart ys ks → Apart (chain_blocks s c) ks) → IsChain s c
    → ChainStays s t c
stays_beside {s} {t} ks ys c g h f i = chain_stays ks s t c g
    (λ z. f z (apart_sym ks ys (distinct_apart ks ys ((h z).distinct z)))) i
