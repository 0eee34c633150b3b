-- Blocks that are none of a list; blocks that weren't in use are apart from those that were.
use Rattle.std.proofs.Common.{ℕ, List, [], ◌∷◌, ◌++◌, IsTrue, subst}
use Rattle.em_space.specs.Free.{Off}
use Rattle.em_space.specs.Rig.{RigState, InUse, Goes}
use Rattle.em_space.specs.Held.{Apart, AllInUse, NoneInUse}
use Rattle.em_space.proofs.Steps.{goes_trans}

-- a block that is none of two lists, and one that is none of both together
pub off_append : (k : ℕ) (xs ys : List ℕ) → Off k xs → Off k ys → Off k (xs ++ ys)
off_append k [] ys a b = b
off_append k (x ∷ xs) ys a b = (a.0, off_append k xs ys a.1 b)

pub off_left : (k : ℕ) (xs ys : List ℕ) → Off k (xs ++ ys) → Off k xs
off_left k [] ys a = tt
off_left k (x ∷ xs) ys a = (a.0, off_left k xs ys a.1)

pub off_right : (k : ℕ) (xs ys : List ℕ) → Off k (xs ++ ys) → Off k ys
off_right k [] ys a = a
off_right k (x ∷ xs) ys a = off_right k xs ys a.1

-- a block in use is none of these,
pub off_new : (s : RigState) (k : ℕ) (js : List ℕ) → InUse s k → NoneInUse s js → Off k js
off_new s k [] u n = tt
off_new s k (j ∷ js) u n =
    ((λ e. n.0 (subst (λ (i : ℕ). InUse s i) e u)), off_new s k js u n.1)

-- nor is any of several.
pub apart_new : (s : RigState) (ks js : List ℕ) → AllInUse s ks → NoneInUse s js → Apart ks js
apart_new s [] js u n = tt
apart_new s (k ∷ ks) js u n = (off_new s k js u.0 n, apart_new s ks js u.1 n)

-- The second call changes blocks that weren't in use before the first.
pub goes_made : (ks : List ℕ) (a b c : RigState) → (IsTrue a.device.told → NoneInUse a ks)
    → Goes [] a b → Goes ks b c → Goes [] a c
goes_made ks a b c fresh x y =
    goes_trans [] ks a b c x y (λ t k u o. off_new a k ks u (fresh t))
