-- Sums over lists, and weights that count if a test holds.
use Rattle.std.proofs.Common.{◌≡◌, ℕ, ◌+◌, ◌≤◌, Bool, true, false, cond, List, [], ◌∷◌, length, map, refl, sym, ap, ◌∙◌, arith}
use Rattle.std.proofs.lemmas.List.Sums.{sum_by-cons, sum_by-append}
use Rattle.std.specs.Prelude.{filter}
use Rattle.std.specs.List.{flat_map, sum_by}

-- a weight if a test holds
abbrev pub if_so : Bool → ℕ → ℕ
if_so true n = n
if_so false n = 0

pub if-zero : (b : Bool) → if_so b 0 ≡ 0
if-zero true = refl
if-zero false = refl

pub if-plus : (b : Bool) (x y : ℕ) → if_so b (x + y) ≡ if_so b x + if_so b y
if-plus true x y = refl
if-plus false x y = omega arith

sum-kept : {X : Type 0} (g : X → ℕ) (b : Bool) (x : X) (xs : List X)
    → sum_by g (cond b (x ∷ xs) xs) ≡ if_so b (g x) + sum_by g xs
sum-kept g true x xs = sum_by-cons g x xs
sum-kept g false x xs = omega arith

-- sums over a filtered list
pub sum-filter : {X : Type 0} (p : X → Bool) (g : X → ℕ) (xs : List X)
    → sum_by g (filter p xs) ≡ sum_by (λ x. if_so (p x) (g x)) xs
sum-filter p g [] = refl
sum-filter p g (x ∷ xs) =
    let r = sum-filter p g xs in
    let c = sum_by-cons (λ y. if_so (p y) (g y)) x xs in
    let k = sum-kept g (p x) x (filter p xs) in
    omega arith

pub sum-map : {X Y : Type 0} (h : X → Y) (g : Y → ℕ) (xs : List X)
    → sum_by g (map h xs) ≡ sum_by (λ x. g (h x)) xs
sum-map h g [] = refl
sum-map h g (x ∷ xs) =
    sum_by-cons g (h x) (map h xs) ∙ ap (λ n. g (h x) + n) (sum-map h g xs)
    ∙ sym (sum_by-cons (λ y. g (h y)) x xs)

pub sum-flat : {X Y : Type 0} (h : X → List Y) (g : Y → ℕ) (xs : List X)
    → sum_by g (flat_map h xs) ≡ sum_by (λ x. sum_by g (h x)) xs
sum-flat h g [] = refl
sum-flat h g (x ∷ xs) =
    sum_by-append g (h x) (flat_map h xs) ∙ ap (λ n. sum_by g (h x) + n) (sum-flat h g xs)
    ∙ sym (sum_by-cons (λ y. sum_by g (h y)) x xs)

pub sum-same : {X : Type 0} (g h : X → ℕ) (xs : List X) → ((x : X) → g x ≡ h x)
    → sum_by g xs ≡ sum_by h xs
sum-same g h [] e = refl
sum-same g h (x ∷ xs) e =
    let a = sum_by-cons g x xs in let b = sum_by-cons h x xs in
    let c = sum-same g h xs e in let d = e x in omega arith

pub sum-less : {X : Type 0} (g h : X → ℕ) (xs : List X) → ((x : X) → g x ≤ h x)
    → sum_by g xs ≤ sum_by h xs
sum-less g h [] e = omega arith
sum-less g h (x ∷ xs) e =
    let a = sum_by-cons g x xs in let b = sum_by-cons h x xs in
    let c = sum-less g h xs e in let d = e x in omega arith

-- sums of two weights
pub sum-two : {X : Type 0} (g h : X → ℕ) (xs : List X)
    → sum_by (λ x. g x + h x) xs ≡ sum_by g xs + sum_by h xs
sum-two g h [] = refl
sum-two g h (x ∷ xs) =
    let a = sum_by-cons (λ y. g y + h y) x xs in let b = sum_by-cons g x xs in
    let c = sum_by-cons h x xs in let r = sum-two g h xs in omega arith

pub sum-both : {X : Type 0} (g h k : X → ℕ) (xs : List X) → ((x : X) → g x ≡ h x + k x)
    → sum_by g xs ≡ sum_by h xs + sum_by k xs
sum-both g h k xs e = sum-same g (λ x. h x + k x) xs e ∙ sum-two h k xs

pub sum-zero : {X : Type 0} (xs : List X) → sum_by (λ (_ : X). 0) xs ≡ 0
sum-zero [] = refl
sum-zero {X = X} (x ∷ xs) =
    let c = sum_by-cons (λ (_ : X). 0) x xs in let r = sum-zero xs in omega arith

pub sum-if : {X : Type 0} (b : Bool) (g : X → ℕ) (xs : List X)
    → sum_by (λ x. if_so b (g x)) xs ≡ if_so b (sum_by g xs)
sum-if true g xs = refl
sum-if false g xs = sum-zero xs

-- sums over two lists, in either order
pub sums-turned : {X Y : Type 0} (g : X → Y → ℕ) (xs : List X) (ys : List Y)
    → sum_by (λ x. sum_by (g x) ys) xs ≡ sum_by (λ y. sum_by (λ x. g x y) xs) ys
sums-turned g [] ys = sym (sum-zero ys)
sums-turned g (x ∷ xs) ys =
    let c = sum_by-cons (λ z. sum_by (g z) ys) x xs in
    let r = sums-turned g xs ys in
    let m = sum-same (λ y. sum_by (λ z. g z y) (x ∷ xs)) (λ y. g x y + sum_by (λ z. g z y) xs) ys
    (λ y. sum_by-cons (λ z. g z y) x xs) in
    let t = sum-two (g x) (λ y. sum_by (λ z. g z y) xs) ys in
    omega arith

-- what doesn't depend on the element
pub length-kept : {X : Type 0} (b : Bool) (x : X) (xs : List X)
    → length (cond b (x ∷ xs) xs) ≡ if_so b 1 + length xs
length-kept true x xs = omega arith
length-kept false x xs = omega arith

-- a filter over a list of images
pub filter-map : {X Y : Type 0} (h : X → Y) (p : Y → Bool) (xs : List X)
    → filter p (map h xs) ≡ map h (filter (λ x. p (h x)) xs)
filter-map h p [] = refl
filter-map h p (x ∷ xs) = kept (p (h x)) (filter-map h p xs)
  where
    kept : (b : Bool) → filter p (map h xs) ≡ map h (filter (λ x. p (h x)) xs)
        → cond b (h x ∷ filter p (map h xs)) (filter p (map h xs))
        ≡ map h (cond b (x ∷ filter (λ x. p (h x)) xs) (filter (λ x. p (h x)) xs))
    kept true e = ap (λ t. h x ∷ t) e
    kept false e = e
