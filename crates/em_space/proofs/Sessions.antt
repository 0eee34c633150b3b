-- Several values at once, of which one is called.
use Rattle.std.proofs.Common.{◌≡◌, ℕ, suc, ◌<◌, List, [], ◌∷◌, ◌++◌, length, get_or, set, take, drop, IsTrue, sym, ◌∙◌}
use Rattle.std.proofs.lemmas.List.{append-nil}
use Rattle.em_space.specs.Held.{Apart, Holds}
use Rattle.em_space.specs.Ledger.{Session}
use Rattle.em_space.specs.Rig.{RigState, Sound, Touches, Goes, Allocates}
use Rattle.em_space.proofs.Apart.{off_append, off_left, off_right}
use Rattle.em_space.proofs.Held.{all_kept, holds_kept, apart_none}
use Rattle.em_space.proofs.Lists.{apart_sym, apart_append, apart_left, apart_right, distinct_left, distinct_right, distinct_apart, distinct_join, in_use_left, in_use_right, in_use_append, flat, flat_at, flat_set}
use Rattle.em_space.proofs.Steps.{goes_nothing, touches_trans, touches_wider}
use Rattle.em_space.proofs.Within.{within_same, within_new, within_apart}

-- No call yet.
pub session_none : (s : RigState) (ks : List ℕ) → Sound s → (IsTrue s.device.told → Holds s ks)
    → Session ks s s ks
session_none s ks h n = record {
  sound = h;
  touches = touches_wider ks [] s s (goes_nothing s h).touches (λ z k u o. tt);
  within = within_same s ks;
  holds = n;
}

-- A block came into use,
pub session_allocates : {s t : RigState} (k : ℕ) → Goes [] s t → Allocates s t k
    → Session [] s t (k ∷ [])
session_allocates {s} {t} k g a = record {
  sound = g.sound;
  touches = g.touches;
  within = within_new s [] (k ∷ []) (λ z. (a.fresh z, tt));
  holds = λ z. record { in_use = (a.in_use, tt); distinct = λ y. (tt, tt) };
}

-- and one is no more in use.
pub session_releases : {s t : RigState} (k : ℕ) → Goes (k ∷ []) s t → Session (k ∷ []) s t []
session_releases {s} {t} k g = record {
  sound = g.sound;
  touches = g.touches;
  within = record { off = λ z j u o. tt };
  holds = λ z. record { in_use = tt; distinct = λ y. tt };
}

-- the same blocks, if the device tells
pub session_as : {held ks : List ℕ} {s t : RigState} (js : List ℕ) → Session held s t ks
    → (IsTrue s.device.told → js ≡ ks) → Session held s t js
session_as {held} {ks} {s} {t} js h e = record {
  sound = h.sound;
  touches = h.touches;
  within = record { off = λ z j i o. rw (e z) (h.within.off z j i o) };
  holds = λ z. rw (e z) (h.holds z);
}

-- One session after another.
pub session_trans : {held ks js : List ℕ} {s t u : RigState} → Session held s t ks
    → Session ks t u js → Session held s u js
session_trans {held} {ks} {js} {s} {t} {u} h g = record {
  sound = g.sound;
  touches = touches_trans held ks s t u h.touches g.touches (λ z j i o. h.within.off z j i o);
  within = record {
    off = λ z j i o. g.within.off (h.touches.told ∙ z) j (h.touches.others z j i o).in_use
        (h.within.off z j i o);
  };
  holds = λ z. g.holds (h.touches.told ∙ z);
}

-- A call on one of the values, as a session of all of them.
pub session_beside : {s t : RigState} (xs ks js ys : List ℕ)
    → (IsTrue s.device.told → Holds s (xs ++ (ks ++ ys))) → Session ks s t js
    → Session (xs ++ (ks ++ ys)) s t (xs ++ (js ++ ys))
session_beside {s} {t} xs ks js ys n g = record {
  sound = g.sound;
  touches = touches_wider (xs ++ (ks ++ ys)) ks s t g.touches
      (λ z k i o. off_left k ks ys (off_right k xs (ks ++ ys) o));
  within = record {
    off = λ z j i o. off_append j xs (js ++ ys) (off_left j xs (ks ++ ys) o)
        (off_append j js ys
        (g.within.off z j i (off_left j ks ys (off_right j xs (ks ++ ys) o)))
        (off_right j ks ys (off_right j xs (ks ++ ys) o)));
  };
  holds = λ z.
      let a = n z in
      let d = a.distinct z in
      let b = g.holds z in
      let dr = distinct_right xs (ks ++ ys) d in
      let dx = apart_sym xs (ks ++ ys) (distinct_apart xs (ks ++ ys) d) in
      let before = in_use_left s xs (ks ++ ys) a.in_use in
      let rest = in_use_right s xs (ks ++ ys) a.in_use in
      let behind = in_use_right s ks ys rest in
      let off_behind = apart_sym ks ys (distinct_apart ks ys dr) in
      let off_before = apart_sym ks xs (apart_left ks ys xs dx) in
      record {
        in_use = in_use_append t xs (js ++ ys)
            (all_kept ks s t xs g.touches (λ _. off_before) before)
            (in_use_append t js ys b.in_use
            (all_kept ks s t ys g.touches (λ _. off_behind) behind));
        distinct = λ y. distinct_join xs (js ++ ys) (distinct_left xs (ks ++ ys) d)
            (distinct_join js ys (b.distinct y) (distinct_right ks ys dr)
            (apart_sym ys js (within_apart s ks js ys z g.within behind off_behind)))
            (apart_sym (js ++ ys) xs (apart_append js ys xs
            (apart_sym xs js (within_apart s ks js xs z g.within before off_before))
            (apart_right ks ys xs dx)));
      };
}

-- A call on one of the values.
pub session_mid : {held : List ℕ} {s t u : RigState} (xs ks js ys : List ℕ)
    → Session held s t (xs ++ (ks ++ ys)) → Session ks t u js
    → Session held s u (xs ++ (js ++ ys))
session_mid {held} {s} {t} {u} xs ks js ys h g = session_trans h
    (session_beside xs ks js ys (λ z. h.holds (sym h.touches.told ∙ z)) g)

-- A call on the first of the values,
pub session_then : {held : List ℕ} {s t u : RigState} (ks js ys : List ℕ)
    → Session held s t (ks ++ ys) → Session ks t u js → Session held s u (js ++ ys)
session_then ks js ys h g = session_mid [] ks js ys h g

-- and on the last one.
pub session_last : {held : List ℕ} {s t u : RigState} (xs ks js : List ℕ)
    → Session held s t (xs ++ ks) → Session ks t u js → Session held s u (xs ++ js)
session_last {held} {s} {t} {u} xs ks js h g =
    let a : Session held s t (xs ++ (ks ++ [])) = rw (append-nil ks) h in
    let b : Session held s u (xs ++ (js ++ [])) = session_mid xs ks js [] a g in
    rw (append-nil js) at b

-- A call on one member of a group: on the blocks of one list of several.
pub session_at : {held : List ℕ} {s t u : RigState} (ls : List (List ℕ)) (i : ℕ) (js : List ℕ)
    → i < length ls → Session held s t (flat ls) → Session (get_or ls i []) t u js
    → Session held s u (flat (set ls i js))
session_at {held} {s} {t} {u} ls i js lt h g =
    rw (flat_set ls i js lt)
    (session_mid (flat (take i ls)) (get_or ls i []) js (flat (drop (suc i) ls))
    (rw (flat_at ls i lt) at h) g)

-- What it says of the values that weren't called: their blocks are apart from those of the call.
pub session_others : {held : List ℕ} {s t : RigState} (ks ys : List ℕ)
    → Session held s t (ks ++ ys) → IsTrue s.device.told → Apart ys ks
session_others {held} {s} {t} ks ys h z =
    apart_sym ks ys (distinct_apart ks ys ((h.holds z).distinct (h.touches.told ∙ z)))

-- A call that changes no block that was in use.
pub session_still : {s t : RigState} (ks : List ℕ) → Sound t → Touches [] s t
    → (IsTrue s.device.told → Holds s ks) → Session ks s t ks
session_still {s} {t} ks h g n = record {
  sound = h;
  touches = touches_wider ks [] s t g (λ z k u o. tt);
  within = within_same s ks;
  holds = λ z. holds_kept [] s t ks g (λ _. apart_none ks) (n z);
}
