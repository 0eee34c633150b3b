-- Values whose blocks come from others or weren't in use.
use Rattle.std.proofs.Common.{◌≡◌, ℕ, List, [], ◌∷◌, ◌++◌, length, IsTrue, ◌∙◌, arith}
use Rattle.em_space.specs.Rig.{RigState, Touches, Goes}
use Rattle.em_space.specs.Held.{Apart, AllInUse, NoneInUse, Within}
use Rattle.em_space.proofs.Apart.{off_left, off_new, off_right}
use Rattle.em_space.proofs.Steps.{goes_trans, touches_trans, touches_wider}

pub within_same : (s : RigState) (ks : List ℕ) → Within s ks ks
within_same s ks = record { off = λ z j u o. o }

-- no block at all
pub within_none : (s : RigState) (held ks : List ℕ) → (IsTrue s.device.told → 0 ≡ length ks)
    → Within s held ks
within_none s held [] e = record { off = λ z j u o. tt }
within_none s held (k ∷ ks) e = record {
  off = λ z j u o. absurd (let n = e z in omega arith);
}

-- each of two lists
pub within_left : (s : RigState) (ks js : List ℕ) → Within s (ks ++ js) ks
within_left s ks js = record { off = λ z j u o. off_left j ks js o }

pub within_right : (s : RigState) (ks js : List ℕ) → Within s (ks ++ js) js
within_right s ks js = record { off = λ z j u o. off_right j ks js o }

-- a value that holds the same blocks as before
pub within_kept : (s : RigState) (held ks js : List ℕ) → Within s held ks
    → (IsTrue s.device.told → js ≡ ks) → Within s held js
within_kept s held ks js w e = record { off = λ z j u o. rw (e z) (w.off z j u o) }

-- new blocks alone
pub within_new : (s : RigState) (held ks : List ℕ) → (IsTrue s.device.told → NoneInUse s ks)
    → Within s held ks
within_new s held ks n = record { off = λ z j u o. off_new s j ks u (n z) }

-- one call after another
pub within_then : (s t : RigState) (held ks js : List ℕ) → Touches held s t → Within s held ks
    → Within t ks js → Within s held js
within_then s t held ks js h a b = record {
  off = λ z j u o. b.off (h.told
      ∙ z) j (h.others z j u o).in_use (a.off z j u o);
}

pub touches_within : (s t u : RigState) (held ks : List ℕ) → Touches held s t → Within s held ks
    → Touches ks t u → Touches held s u
touches_within s t u held ks h a g = touches_trans held ks s t u h g (λ z j i o. a.off z j i o)

-- a call that may change blocks of what was held, or blocks that weren't in use at first
pub goes_within : (held ks : List ℕ) (a b c : RigState) → Goes held a b → Within a held ks
    → Goes ks b c → Goes held a c
goes_within held ks a b c x w y = goes_trans held ks a b c x y (λ z k u o. w.off z k u o)

-- a call that may change blocks of a longer list
pub goes_wider : (h g : List ℕ) (a b : RigState) → Within a h g → Goes g a b → Goes h a b
goes_wider h g a b w x = record {
  sound = x.sound;
  touches = touches_wider h g a b x.touches w.off;
  frames = x.frames;
}

-- what was apart from the held blocks is apart from those of the result
pub within_apart : (s : RigState) (held ks g : List ℕ) → IsTrue s.device.told → Within s held ks
    → AllInUse s g → Apart g held → Apart g ks
within_apart s held ks [] z w u a = tt
within_apart s held ks (x ∷ xs) z w u a = (w.off z x u.0 a.0, within_apart s held ks xs z w u.1 a.1)
