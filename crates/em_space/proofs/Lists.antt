-- Lists of block numbers: parts of a list, and lists one after another.
use Rattle.std.proofs.Common.{◌≡◌, ℕ, zero, suc, ◌<◌, List, [], ◌∷◌, ◌++◌, length, get_or, set, take, drop, refl, sym, ap, ◌∙◌, arith, append_assoc}
use Rattle.em_space.specs.Free.{Off, AreDistinct, AreBelow}
use Rattle.em_space.specs.Held.{Apart, AllInUse}
use Rattle.em_space.specs.Rig.{RigState}
use Rattle.em_space.proofs.Apart.{off_append, off_left, off_right}
use Rattle.em_space.proofs.Held.{apart_none}

apart_cons : (xs : List ℕ) (y : ℕ) (ys : List ℕ) → Off y xs → Apart xs ys → Apart xs (y ∷ ys)
apart_cons [] y ys o a = tt
apart_cons (x ∷ xs) y ys o a = (((λ e. o.0 (sym e)), a.0), apart_cons xs y ys o.1 a.1)

pub apart_sym : (xs ys : List ℕ) → Apart xs ys → Apart ys xs
apart_sym [] ys a = apart_none ys
apart_sym (x ∷ xs) ys a = apart_cons ys x xs a.0 (apart_sym xs ys a.1)

pub apart_append : (xs ys zs : List ℕ) → Apart xs zs → Apart ys zs → Apart (xs ++ ys) zs
apart_append [] ys zs a b = b
apart_append (x ∷ xs) ys zs a b = (a.0, apart_append xs ys zs a.1 b)

pub apart_left : (xs ys zs : List ℕ) → Apart (xs ++ ys) zs → Apart xs zs
apart_left [] ys zs a = tt
apart_left (x ∷ xs) ys zs a = (a.0, apart_left xs ys zs a.1)

pub apart_right : (xs ys zs : List ℕ) → Apart (xs ++ ys) zs → Apart ys zs
apart_right [] ys zs a = a
apart_right (x ∷ xs) ys zs a = apart_right xs ys zs a.1

-- the first part of a distinct list is distinct,
pub distinct_left : (xs ys : List ℕ) → AreDistinct (xs ++ ys) → AreDistinct xs
distinct_left [] ys d = tt
distinct_left (x ∷ xs) ys d = (off_left x xs ys d.0, distinct_left xs ys d.1)

-- and the second one,
pub distinct_right : (xs ys : List ℕ) → AreDistinct (xs ++ ys) → AreDistinct ys
distinct_right [] ys d = d
distinct_right (x ∷ xs) ys d = distinct_right xs ys d.1

-- and they have no block in common.
pub distinct_apart : (xs ys : List ℕ) → AreDistinct (xs ++ ys) → Apart xs ys
distinct_apart [] ys d = tt
distinct_apart (x ∷ xs) ys d = (off_right x xs ys d.0, distinct_apart xs ys d.1)

-- two such parts are one distinct list
pub distinct_join : (xs ys : List ℕ) → AreDistinct xs → AreDistinct ys → Apart xs ys
    → AreDistinct (xs ++ ys)
distinct_join [] ys a b c = b
distinct_join (x ∷ xs) ys a b c = (off_append x xs ys a.0 c.0, distinct_join xs ys a.1 b c.1)

pub in_use_left : (s : RigState) (xs ys : List ℕ) → AllInUse s (xs ++ ys) → AllInUse s xs
in_use_left s [] ys a = tt
in_use_left s (x ∷ xs) ys a = (a.0, in_use_left s xs ys a.1)

pub in_use_right : (s : RigState) (xs ys : List ℕ) → AllInUse s (xs ++ ys) → AllInUse s ys
in_use_right s [] ys a = a
in_use_right s (x ∷ xs) ys a = in_use_right s xs ys a.1

pub in_use_append : (s : RigState) (xs ys : List ℕ) → AllInUse s xs → AllInUse s ys
    → AllInUse s (xs ++ ys)
in_use_append s [] ys a b = b
in_use_append s (x ∷ xs) ys a b = (a.0, in_use_append s xs ys a.1 b)

pub below_append : (n : ℕ) (xs ys : List ℕ) → AreBelow n xs → AreBelow n ys → AreBelow n (xs ++ ys)
below_append n [] ys a b = b
below_append n (x ∷ xs) ys a b = (a.0, below_append n xs ys a.1 b)

-- lists of blocks, one after another
abbrev pub flat : List (List ℕ) → List ℕ
flat [] = []
flat (ks ∷ ls) = ks ++ flat ls

pub flat_at : (ls : List (List ℕ)) (i : ℕ) → i < length ls
    → flat ls ≡ flat (take i ls) ++ (get_or ls i [] ++ flat (drop (suc i) ls))
flat_at [] i lt = absurd (omega arith)
flat_at (ks ∷ ls) zero lt = refl
flat_at (ks ∷ ls) (suc i) lt =
    ap (λ (js : List ℕ). ks ++ js) (flat_at ls i (omega arith))
    ∙ sym (append_assoc ks (flat (take i ls)) (get_or ls i [] ++ flat (drop (suc i) ls)))

pub flat_set : (ls : List (List ℕ)) (i : ℕ) (js : List ℕ) → i < length ls
    → flat (set ls i js) ≡ flat (take i ls) ++ (js ++ flat (drop (suc i) ls))
flat_set [] i js lt = absurd (omega arith)
flat_set (ks ∷ ls) zero js lt = refl
flat_set (ks ∷ ls) (suc i) js lt =
    ap (λ (ms : List ℕ). ks ++ ms) (flat_set ls i js (omega arith))
    ∙ sym (append_assoc ks (flat (take i ls)) (js ++ flat (drop (suc i) ls)))
