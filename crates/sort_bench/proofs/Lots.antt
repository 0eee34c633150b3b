-- The records of numbers in an area, and their sums.
use Rattle.std.proofs.Common.{◌≡◌, ℕ, zero, suc, ◌+◌, ◌<◌, ◌≤◌, List, [], ◌∷◌, ◌++◌, length, take, drop, set, refl, ap, ◌∙◌, subst, arith}
use Rattle.std.proofs.lemmas.List.{drop-drop, length-append, length-drop}
use Rattle.std.proofs.Math.Seq.{drop-append_seam, take-append_seam}
use Rattle.em_record.specs.Order.{in_order}
use Rattle.em_record.specs.declared.record.Record.{Record}
use Rattle.em_record.proofs.Order.{length_order}
use Rattle.sort_bench.specs.Lots.{numbered, numbered_from}

-- so many numbers have so many records
pub length_numbered : (first n : ℕ) → length (numbered_from first n) ≡ n
length_numbered first zero = refl
length_numbered first (suc n) = ap suc (length_numbered (first + 1) n)

-- the record of one number more
numbered_more : (first n : ℕ)
    → numbered_from first n ++ numbered (first + n) ∷ [] ≡ numbered_from first (suc n)
numbered_more first zero =
    let e : first + 0 ≡ first = omega arith in ap (λ (k : ℕ). numbered k ∷ []) e
numbered_more first (suc n) =
    let e : first + suc n ≡ first + 1 + n = omega arith in
    ap (λ (xs : List Record). numbered first ∷ xs)
    (ap (λ (k : ℕ). numbered_from (first + 1) n ++ numbered k ∷ []) e ∙ numbered_more (first + 1) n)

-- a record is put right after some
set_after : (xs ys : List Record) (x : Record) → 0 < length ys
    → set (xs ++ ys) (length xs) x ≡ (xs ++ x ∷ []) ++ drop 1 ys
set_after [] [] x h = absurd (omega (arith, h))
set_after [] (y ∷ ys) x h = refl
set_after (z ∷ xs) ys x h = ap (λ (zs : List Record). z ∷ zs) (set_after xs ys x h)

-- an area whose first places have the records of numbers, and one of which the next place has it too
pub filled_next : (area : List Record) (first n : ℕ) → n < length area
    → set (numbered_from first n ++ drop n area) n (numbered (first + n))
    ≡ numbered_from first (n + 1) ++ drop (n + 1) area
filled_next area first n h =
    let d = length-drop n area in
    let put = set_after (numbered_from first n) (drop n area) (numbered (first + n)) (omega (arith, d, h)) in
    let one : suc n ≡ n + 1 = omega arith in
    let at : set (numbered_from first n ++ drop n area) n (numbered (first + n))
    ≡ (numbered_from first n ++ numbered (first + n) ∷ []) ++ drop 1 (drop n area) =
    subst (λ (k : ℕ). set (numbered_from first n ++ drop n area) k (numbered (first + n))
    ≡ (numbered_from first n ++ numbered (first + n) ∷ []) ++ drop 1 (drop n area))
    (length_numbered first n) put in
    at
    ∙ ap (λ (xs : List Record). xs ++ drop 1 (drop n area)) (numbered_more first n)
    ∙ ap (λ (k : ℕ). numbered_from first k ++ drop 1 (drop n area)) one
    ∙ ap (λ (xs : List Record). numbered_from first (n + 1) ++ xs) (drop-drop 1 n area)

-- so long is it
pub length_filled : (area : List Record) (first n : ℕ) → n ≤ length area
    → length (numbered_from first n ++ drop n area) ≡ length area
length_filled area first n h =
    let d = length-drop n area in
    let l = length_numbered first n in
    omega (arith, d, l, h, length-append (numbered_from first n) (drop n area))

-- its first places, and the others
pub front_filled : (area : List Record) (first n : ℕ)
    → take n (numbered_from first n ++ drop n area) ≡ numbered_from first n
front_filled area first n =
    subst (λ (k : ℕ). take k (numbered_from first n ++ drop n area) ≡ numbered_from first n)
    (length_numbered first n) (take-append_seam (numbered_from first n) (drop n area))

pub rest_filled : (area : List Record) (first n : ℕ)
    → drop n (numbered_from first n ++ drop n area) ≡ drop n area
rest_filled area first n =
    subst (λ (k : ℕ). drop k (numbered_from first n ++ drop n area) ≡ drop n area)
    (length_numbered first n) (drop-append_seam (numbered_from first n) (drop n area))

-- after sorting
pub sorted_is : (area : List Record) (first n : ℕ)
    → in_order (take n (numbered_from first n ++ drop n area)) ++ drop n (numbered_from first n ++ drop n area)
    ≡ in_order (numbered_from first n) ++ drop n area
sorted_is area first n =
    ap (λ (xs : List Record). in_order xs ++ drop n (numbered_from first n ++ drop n area)) (front_filled area first n)
    ∙ ap (λ (xs : List Record). in_order (numbered_from first n) ++ xs) (rest_filled area first n)

-- the first places of that
pub front_sorted : (area : List Record) (first n : ℕ)
    → take n (in_order (numbered_from first n) ++ drop n area) ≡ in_order (numbered_from first n)
front_sorted area first n =
    let l = length_order (numbered_from first n) ∙ length_numbered first n in
    subst (λ (k : ℕ). take k (in_order (numbered_from first n) ++ drop n area) ≡ in_order (numbered_from first n))
    l (take-append_seam (in_order (numbered_from first n)) (drop n area))

pub length_sorted : (area : List Record) (first n : ℕ) → n ≤ length area
    → length (in_order (numbered_from first n) ++ drop n area) ≡ length area
length_sorted area first n h =
    let d = length-drop n area in
    let l = length_order (numbered_from first n) ∙ length_numbered first n in
    omega (arith, d, l, h, length-append (in_order (numbered_from first n)) (drop n area))
