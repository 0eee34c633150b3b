-- Lists whose elements have strictly ascending numbers.
use Rattle.std.proofs.Common.{◌≡◌, ◌≤◌, ℕ, ◌+◌, Bool, true, false, List, [], ◌∷◌, ◌++◌, arith}
use Rattle.std.specs.Prelude.{if◌then◌else◌}
use Rattle.std.specs.List.{filter}
use Rattle.em_model.specs.Ascending.{Ascend}

pub Ascend-lower : {A : Type 0} (f : A → ℕ) (less low : ℕ) (xs : List A) (high : ℕ) → less ≤ low
    → Ascend f low xs high → Ascend f less xs high
Ascend-lower f less low [] high h a = omega arith
Ascend-lower f less low (x ∷ xs) high h (first, rest) = (omega arith, rest)

pub Ascend-higher : {A : Type 0} (f : A → ℕ) (low : ℕ) (xs : List A) (high more : ℕ) → high ≤ more
    → Ascend f low xs high → Ascend f low xs more
Ascend-higher f low [] high more h a = omega arith
Ascend-higher f low (x ∷ xs) high more h (first, rest) =
    (first, Ascend-higher f (f x + 1) xs high more h rest)

kept : {A : Type 0} (f : A → ℕ) (low : ℕ) (x : A) (xs : List A) (high : ℕ) (b : Bool) → low ≤ f x
    → Ascend f (f x + 1) xs high → Ascend f low (if b then x ∷ xs else xs) high
kept f low x xs high true h a = (h, a)
kept f low x xs high false h a = Ascend-lower f low (f x + 1) xs high (omega arith) a

pub Ascend-filter : {A : Type 0} (f : A → ℕ) (test : A → Bool) (low : ℕ) (xs : List A) (high : ℕ)
    → Ascend f low xs high → Ascend f low (filter test xs) high
Ascend-filter f test low [] high a = a
Ascend-filter f test low (x ∷ xs) high (first, rest) =
    kept f low x (filter test xs) high (test x) first (Ascend-filter f test (f x + 1) xs high rest)

pub Ascend-push : {A : Type 0} (f : A → ℕ) (low : ℕ) (xs : List A) (x : A) (high : ℕ) → f x ≡ high
    → Ascend f low xs high → Ascend f low (xs ++ x ∷ []) (high + 1)
Ascend-push f low [] x high e a = (omega arith, omega arith)
Ascend-push f low (y ∷ ys) x high e (first, rest) =
    (first, Ascend-push f (f y + 1) ys x high e rest)
