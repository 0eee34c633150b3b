-- Searches among words, which the program makes over strings and the definitions over their bytes.
use Rattle.std.proofs.Common.{◌≡◌, ℕ, ◌+◌, Bool, cond, List, [], ◌∷◌, drop, length, map, take, Some, None, refl, sym, ap, ◌∙◌, arith}
use Rattle.std.specs.Prelude.{nat_lt, position, not}
use Rattle.std.specs.List.{after_first, before_first, position_or_len, prefix_len}
use Rattle.std.proofs.lemmas.Grind.{common_steps}
use Rattle.std.proofs.lemmas.Bool.Decides.{nat_tests}
use Rattle.std.proofs.lemmas.List.{drop_all, length-map, take-map, take_all}
use Rattle.std.proofs.lemmas.List.Sums.{prefix_len-le-length}

-- the place that a search found is that of the first
position_found : {X : Type 0} (p : X → Bool) (xs : List X) (i : ℕ)
    → position p xs ≡ Some i → i ≡ position_or_len p xs
position_found p xs i h = grind (arith, nat_tests, common_steps)

-- where a search found none, the first stands after the list's end
position_missing : {X : Type 0} (p : X → Bool) (xs : List X)
    → position p xs ≡ None → length xs ≡ position_or_len p xs
position_missing p xs h =
    let le = prefix_len-le-length (λ x. not (p x)) xs in grind (arith, nat_tests, common_steps)

-- what stands before and after the place that a search found
pub first_found : {X : Type 0} (p : X → Bool) (xs : List X) (i : ℕ) → position p xs ≡ Some i
    → (take i xs ≡ before_first p xs) × (drop (i + 1) xs ≡ after_first p xs)
first_found p xs i h = let e = position_found p xs i h in
    (ap (λ n. take n xs) e, ap (λ n. drop (n + 1) xs) e)

-- the same where a search found none
pub first_missing : {X : Type 0} (p : X → Bool) (xs : List X) → position p xs ≡ None
    → (before_first p xs ≡ xs) × (after_first p xs ≡ [])
first_missing p xs h = let e = position_missing p xs h in
    (take_all _ xs (omega arith), drop_all _ xs (omega arith))

-- a search in a mapped list
prefix_len_map : {X Y : Type 0} (p : Y → Bool) (f : X → Y) (xs : List X)
    → prefix_len p (map f xs) ≡ prefix_len (λ x. p (f x)) xs
prefix_len_map p f [] = refl
prefix_len_map p f (x ∷ xs) = ap (λ n. cond (p (f x)) (1 + n) 0) (prefix_len_map p f xs)

pub position_map : {X Y : Type 0} (p : Y → Bool) (f : X → Y) (xs : List X)
    → position p (map f xs) ≡ position (λ x. p (f x)) xs
position_map p f xs = let e = prefix_len_map (λ y. not (p y)) f xs in
    let l = length-map xs f in
    ap (λ n. cond (nat_lt n (length (map f xs))) (Some n) None) e
    ∙ ap (λ k. cond (nat_lt (prefix_len (λ x. not (p (f x))) xs) k)
    (Some (prefix_len (λ x. not (p (f x))) xs)) None) l

-- what stands before the place that a search found in a list that is mapped
pub first_found_map : {X Y : Type 0} (p : Y → Bool) (f : X → Y) (xs : List X) (i : ℕ)
    → position (λ x. p (f x)) xs ≡ Some i → map f (take i xs) ≡ before_first p (map f xs)
first_found_map p f xs i h =
    sym (take-map f i xs) ∙ (first_found p (map f xs) i (position_map p f xs ∙ h)).0

-- the same where it found none
pub first_missing_map : {X Y : Type 0} (p : Y → Bool) (f : X → Y) (xs : List X)
    → position (λ x. p (f x)) xs ≡ None → map f xs ≡ before_first p (map f xs)
first_missing_map p f xs h =
    sym (first_missing p (map f xs) (position_map p f xs ∙ h)).0
