-- Lists of block numbers.
use Rattle.std.proofs.Common.{◌≡◌, ℕ, List, [], ◌∷◌, ◌++◌, sym, subst}
use Rattle.std.proofs.lemmas.List.{map-append}
use Rattle.em_frames.specs.Device.{block_at}
use Rattle.em_space.specs.Free.{Off, AreDistinct}
use Rattle.em_space.specs.Rig.{RigState, InUse}
use Rattle.em_space.specs.Held.{contents_of, AllInUse, Apart}
use Rattle.em_space.proofs.Lists.{apart_sym, distinct_apart, distinct_join}

-- one block more at the end
pub distinct_push : (xs : List ℕ) (j : ℕ) → AreDistinct xs → Off j xs → AreDistinct (xs ++ j ∷ [])
distinct_push xs j d o =
    distinct_join xs (j ∷ []) d (tt, tt) (apart_sym (j ∷ []) xs (o, tt))

-- the last of distinct blocks isn't among those before
pub distinct_last : (xs : List ℕ) (j : ℕ) → AreDistinct (xs ++ j ∷ []) → Apart xs (j ∷ [])
distinct_last xs j d = distinct_apart xs (j ∷ []) d

-- what wasn't in use is none of the blocks that were
pub fresh_off : (s : RigState) (xs : List ℕ) (j : ℕ) → AllInUse s xs → (InUse s j → ⊥) → Off j xs
fresh_off s [] j u f = tt
fresh_off s (x ∷ xs) j u f = (
  (λ e. f (subst (λ (n : ℕ). InUse s n) (sym e) u.0)),
  fresh_off s xs j
      u.1 f,
)

pub contents_append : (s : RigState) (xs ys : List ℕ)
    → contents_of s (xs ++ ys) ≡ contents_of s xs ++ contents_of s ys
contents_append s xs ys = map-append (λ (k : ℕ). block_at s.device k) xs ys
