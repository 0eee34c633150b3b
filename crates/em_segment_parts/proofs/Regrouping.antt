-- Lists of block numbers in another order.
use Rattle.std.proofs.Common.{◌≡◌, ℕ, ◌+◌, ◌<◌, ◌≤◌, List, [], ◌∷◌, ◌++◌, refl, sym, ap, subst, arith, IsTrue, Bool, true, false, ⊎_elim}
use Rattle.std.proofs.Math.Dec.{eqb}
use Rattle.std.proofs.lemmas.Bool.{eq-eqb}
use Rattle.std.proofs.lemmas.Bool.Decides.{eqb_tells}
use Rattle.em_space.specs.Free.{AreDistinct, Off}
use Rattle.em_space.specs.Held.{AllInUse, Holds}
use Rattle.em_space.specs.Ledger.{Session}
use Rattle.em_space.specs.Rig.{Goes, InUse, RigState}
use Rattle.em_space.proofs.Lists.{distinct_left, distinct_right, in_use_left, in_use_right}
use Rattle.em_space.proofs.Steps.{touches_wider}

-- 1 for a number that is the one looked for
abbrev pub hit : Bool → ℕ
hit true = 1
hit false = 0

-- how often a number stands in a list
abbrev pub tally : ℕ → List ℕ → ℕ
tally j [] = 0
tally j (k ∷ ks) = hit (eqb j k) + tally j ks

-- the same numbers, each as often
abbrev pub SameTally : List ℕ → List ℕ → Type 0
SameTally xs ys = (j : ℕ) → tally j xs ≡ tally j ys

pub tally_append : (j : ℕ) (xs ys : List ℕ) → tally j (xs ++ ys) ≡ tally j xs + tally j ys
tally_append j [] ys = omega arith
tally_append j (x ∷ xs) ys = let h = tally_append j xs ys in omega (arith, h)

pub tally_is : {xs ys : List ℕ} → xs ≡ ys → SameTally xs ys
tally_is e j = ap (tally j) e

pub tally_swap : (xs ys : List ℕ) → SameTally (xs ++ ys) (ys ++ xs)
tally_swap xs ys j =
    let a = tally_append j xs ys in let b = tally_append j ys xs in omega (arith, a, b)

-- beside the same others
pub tally_beside : (xs ys zs : List ℕ) → SameTally xs ys → SameTally (xs ++ zs) (ys ++ zs)
tally_beside xs ys zs e j =
    let a = tally_append j xs zs in
    let b = tally_append j ys zs in
    let c = e j in
    omega (arith, a, b, c)

-- the last two of three change places
pub tally_last : (xs ys zs : List ℕ) → SameTally ((xs ++ ys) ++ zs) ((xs ++ zs) ++ ys)
tally_last xs ys zs j =
    let a = tally_append j (xs ++ ys) zs in
    let b = tally_append j (xs ++ zs) ys in
    let c = tally_append j xs ys in
    let d = tally_append j xs zs in
    omega (arith, a, b, c, d)

off_tally : (j : ℕ) (ks : List ℕ) → Off j ks → tally j ks ≡ 0
off_tally j [] o = refl
off_tally j (k ∷ ks) o =
    let h = off_tally j ks o.1 in
    ⊎_elim (λ t. absurd (o.0 t.1))
    (λ f. let e = ap hit f.0 in omega (arith, e, h)) (eqb_tells j k)

tally_off : (j : ℕ) (ks : List ℕ) → tally j ks ≡ 0 → Off j ks
tally_off j [] e = tt
tally_off j (k ∷ ks) e = (
  λ h. let t = ap hit (eq-eqb j k h) in absurd (omega (arith, t, e)),
  tally_off j ks (omega (arith, e)),
)

pub off_same : (j : ℕ) (xs ys : List ℕ) → SameTally xs ys → Off j xs → Off j ys
off_same j xs ys e o =
    let a = off_tally j xs o in
    let b = e j in
    tally_off j ys (omega (arith, a, b))

distinct_tally : (ks : List ℕ) → AreDistinct ks → (j : ℕ) → tally j ks ≤ 1
distinct_tally [] d j = omega arith
distinct_tally (k ∷ ks) d j =
    let h = distinct_tally ks d.1 j in
    ⊎_elim
    (λ t.
    let P : ℕ → Type 0 = λ i. Off i ks in
    let o = off_tally j ks (subst P (sym t.1) d.0) in
    let e = ap hit t.0 in
    omega (arith, e, o))
    (λ f. let e = ap hit f.0 in omega (arith, e, h)) (eqb_tells j k)

tally_distinct : (ks : List ℕ) → ((j : ℕ) → tally j ks ≤ 1) → AreDistinct ks
tally_distinct [] h = tt
tally_distinct (k ∷ ks) h = (
  (let a = h k in let e = ap hit (eq-eqb k k refl) in tally_off k ks (omega (arith, a, e))),
  tally_distinct ks (λ j. let a = h j in omega (arith, a)),
)

distinct_same : (xs ys : List ℕ) → SameTally xs ys → AreDistinct xs → AreDistinct ys
distinct_same xs ys e d = tally_distinct ys (λ j.
    let a = distinct_tally xs d j in
    let b = e j in
    omega (arith, a, b))

one_in_use : (s : RigState) (ks : List ℕ) (j : ℕ) → AllInUse s ks → 0 < tally j ks → InUse s j
one_in_use s [] j u h = absurd (omega (arith, h))
one_in_use s (k ∷ ks) j u h = ⊎_elim
    (λ t. let P : ℕ → Type 0 = InUse s in subst P (sym t.1) u.0)
    (λ f. let e = ap hit f.0 in one_in_use s ks j u.1 (omega (arith, e, h))) (eqb_tells j k)

all_in_use : (s : RigState) (ks : List ℕ) → ((j : ℕ) → 0 < tally j ks → InUse s j) → AllInUse s ks
all_in_use s [] h = tt
all_in_use s (k ∷ ks) h = (
  h k (let e = ap hit (eq-eqb k k refl) in omega (arith, e)),
  all_in_use s ks (λ j l. h j (omega (arith, l))),
)

-- What is held is held in any order,
pub holds_same : {s : RigState} (xs ys : List ℕ) → SameTally xs ys → Holds s xs → Holds s ys
holds_same {s} xs ys e h = record {
  in_use = all_in_use s ys (λ j l. let b = e j in one_in_use s xs j h.in_use (omega (arith, l, b)));
  distinct = λ z. distinct_same xs ys e (h.distinct z);
}

-- and so is the first of two lists,
pub holds_first : {s : RigState} (xs ys : List ℕ) → Holds s (xs ++ ys) → Holds s xs
holds_first {s} xs ys h = record {
  in_use = in_use_left s xs ys h.in_use;
  distinct = λ z. distinct_left xs ys (h.distinct z);
}

pub holds_second : {s : RigState} (xs ys : List ℕ) → Holds s (xs ++ ys) → Holds s ys
holds_second {s} xs ys h = record {
  in_use = in_use_right s xs ys h.in_use;
  distinct = λ z. distinct_right xs ys (h.distinct z);
}

-- as is what a session leaves,
pub session_same : {held ks : List ℕ} {s t : RigState} (js : List ℕ) → Session held s t ks
    → (IsTrue s.device.told → SameTally ks js) → Session held s t js
session_same {held} {ks} {s} {t} js h e = record {
  sound = h.sound;
  touches = h.touches;
  within = record { off = λ z j i o. off_same j ks js (e z) (h.within.off z j i o) };
  holds = λ z. holds_same ks js (e z) (h.holds z);
}

-- and what it began with.
pub session_from : {held ks : List ℕ} {s t : RigState} (gs : List ℕ) → Session held s t ks
    → (IsTrue s.device.told → SameTally gs held) → Session gs s t ks
session_from {held} {ks} {s} {t} gs h e = record {
  sound = h.sound;
  touches = touches_wider gs held s t h.touches (λ z k u o. off_same k gs held (e z) o);
  within = record { off = λ z j i o. h.within.off z j i (off_same j gs held (e z) o) };
  holds = h.holds;
}

pub goes_same : {held : List ℕ} {s t : RigState} (gs : List ℕ) → Goes held s t
    → (IsTrue s.device.told → SameTally gs held) → Goes gs s t
goes_same {held} {s} {t} gs h e = record {
  sound = h.sound;
  touches = touches_wider gs held s t h.touches (λ z k u o. off_same k gs held (e z) o);
  frames = h.frames;
}

-- The last two of three values change places.
pub session_turned : {held : List ℕ} {s t : RigState} (xs ys zs : List ℕ)
    → Session held s t ((xs ++ ys) ++ zs) → Session held s t (xs ++ (zs ++ ys))
session_turned xs ys zs h = session_same (xs ++ (zs ++ ys)) h (λ z j.
    let a = tally_append j (xs ++ ys) zs in
    let b = tally_append j xs ys in
    let c = tally_append j xs (zs ++ ys) in
    let d = tally_append j zs ys in
    omega (arith, a, b, c, d))
