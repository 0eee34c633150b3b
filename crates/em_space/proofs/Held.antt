-- Values whose blocks a call leaves alone: what the frame condition gives.
use Rattle.std.proofs.Common.{◌≡◌, ℕ, ◌<◌, List, [], ◌∷◌, Bool, true, false, IsTrue, refl, sym, ◌∙◌, arith}
use Rattle.em_space.specs.Free.{Off}
use Rattle.em_space.specs.Rig.{RigState, Sound, InUse, Touches}
use Rattle.em_space.specs.Held.{Apart, AllInUse, contents_of, Holds}

-- a block that isn't of the list stays in use
pub in_use_kept : (held : List ℕ) (s t : RigState) (k : ℕ) → Touches held s t
    → (IsTrue s.device.told → Off k held) → InUse s k → InUse t k
in_use_kept held s t k h o u = record {
  told = λ y. let z : IsTrue s.device.told = sym h.told ∙ y in (h.others z k u (o z)).in_use.told y;
  untold = λ f. rw h.blocks (u.untold (sym h.told ∙ f));
}

pub all_kept : (held : List ℕ) (s t : RigState) (ks : List ℕ) → Touches held s t
    → (IsTrue s.device.told → Apart ks held) → AllInUse s ks → AllInUse t ks
all_kept held s t [] h a u = tt
all_kept held s t (k ∷ ks) h a u =
    (in_use_kept held s t k h (λ y. (a y).0) u.0, all_kept held s t ks h (λ y. (a y).1) u.1)

-- A value keeps its blocks over a call that may change others alone,
pub holds_kept : (held : List ℕ) (s t : RigState) (ks : List ℕ) → Touches held s t
    → (IsTrue s.device.told → Apart ks held) → Holds s ks → Holds t ks
holds_kept held s t ks h a v = record {
  in_use = all_kept held s t ks h a v.in_use;
  distinct = λ y. v.distinct (sym h.told ∙ y);
}

-- and what they hold.
pub contents_kept : (held : List ℕ) (s t : RigState) (ks : List ℕ) → Touches held s t
    → IsTrue s.device.told → Apart ks held → AllInUse s ks → contents_of t ks ≡ contents_of s ks
contents_kept held s t [] h y a u = refl
contents_kept held s t (k ∷ ks) h y a u =
    rw ((h.others y k u.0 a.0).contents, contents_kept held s t ks h y a.1 u.1) refl

-- every list is apart from the empty one
pub apart_none : (ks : List ℕ) → Apart ks []
apart_none [] = tt
apart_none (k ∷ ks) = (tt, apart_none ks)

below_by : (s : RigState) (k : ℕ) → Sound s → InUse s k → (b : Bool) → s.device.told ≡ b
    → k < s.blocks
below_by s k h u true e =
    let l = (u.told e).0.0 in let m = h.numbers.most_high in omega arith
below_by s k h u false e = u.untold e

-- a block in use is one of the device
pub in_use_below : (s : RigState) (k : ℕ) → Sound s → InUse s k → k < s.blocks
in_use_below s k h u = below_by s k h u s.device.told refl
