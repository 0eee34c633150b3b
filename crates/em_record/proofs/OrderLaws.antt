-- Laws of records in order: other places, and parts.
use Rattle.std.proofs.Common.{◌≡◌, ℕ, zero, suc, ◌+◌, ◌<◌, List, [], ◌∷◌, ◌++◌, length, get_or, set, Bool, true, false, refl, sym, ap, ◌∙◌, arith, ◌⊎◌, inl, inr, ⊎_elim, get_or-set_same, get_or-set_other, length-set}
use Rattle.std.proofs.lemmas.Bool.{cases_lt, cases_Bool}
use Rattle.std.proofs.lemmas.List.Sorted.{IsPermutation-keeps}
use Rattle.std.specs.List.Sorted.{IsPermutation}
use Rattle.std.specs.List.{swap}
use Rattle.em_record.specs.declared.record.Record.{Record}
use Rattle.em_record.specs.Order.{is_below, AtLeast, AllAtLeast, IsAscending, with_record, in_order}
use Rattle.em_record.proofs.Order.{below_ranks, at_least_trans, with_first, with_later}
use Rattle.em_record.proofs.Commutes.{with_commutes, order_cons, order_ascending}

-- No record is below itself.
pub below_itself : (x : Record) → is_below x x ≡ false
below_itself x = ⊎_elim
    (λ (t : is_below x x ≡ true). below_ranks.one_way x x t)
    (λ (f : is_below x x ≡ false). f)
    (cases_Bool (is_below x x))

-- the list without the first record that isn't below x
abbrev without : Record → List Record → List Record
without x [] = []
without x (y ∷ ys) = Bool_case (is_below y x) (y ∷ without x ys) ys
  where
    Bool_case : Bool → List Record → List Record → List Record
    Bool_case true xs zs = xs
    Bool_case false xs zs = zs

-- What was added can be taken from both.
with_cancels : (x : Record) (xs ys : List Record) → with_record x xs ≡ with_record x ys
    → xs ≡ ys
with_cancels x xs ys e = sym (back x xs) ∙ ap (without x) e ∙ back x ys
  where
    back : (x : Record) (xs : List Record) → without x (with_record x xs) ≡ xs
    back x [] = rw (below_itself x) refl
    back x (y ∷ xs) = ⊎_elim
        (λ (t : is_below y x ≡ true).
        ap (without x) (with_later x y xs t) ∙ rw t (ap (λ (l : List Record). y ∷ l) (back x xs)))
        (λ (f : is_below y x ≡ false).
        ap (without x) (with_first x y xs f) ∙ rw (below_itself x) refl)
        (cases_Bool (is_below y x))

-- A record stands in the place of another.
pub order_set : (xs : List Record) (i : ℕ) (y d : Record) → i < length xs
    → with_record (get_or xs i d) (in_order (set xs i y)) ≡ with_record y (in_order xs)
order_set [] i y d h = absurd (omega arith)
order_set (x ∷ xs) zero y d h =
    ap (with_record x) (order_cons y xs) ∙ with_commutes x y (in_order xs)
    ∙ ap (with_record y) (sym (order_cons x xs))
order_set (x ∷ xs) (suc i) y d h =
    let g = get_or xs i d in
    ap (with_record g) (order_cons x (set xs i y))
    ∙ with_commutes g x (in_order (set xs i y))
    ∙ ap (with_record x) (order_set xs i y d (omega arith))
    ∙ with_commutes x y (in_order xs)
    ∙ ap (with_record y) (sym (order_cons x xs))

-- two numbers are equal or not
pub which : (a b : ℕ) → (a ≡ b) ⊎ (a ≡ b → ⊥)
which a b = elim (cases_lt a b) [
  | inl less ↦ inr (λ e. omega arith)
  | inr most ↦ elim (cases_lt b a) [
    | inl more ↦ inr (λ e. omega arith)
    | inr least ↦ inl (omega arith)
  ]
]

-- two records in each other's place
order_swap : (xs : List Record) (i j : ℕ) → i < length xs → j < length xs
    → in_order (swap xs i j) ≡ in_order xs
order_swap [] i j p q = refl
order_swap (d ∷ ds) i j p q =
    let xs : List Record = d ∷ ds in
    let x = get_or xs i d in
    let y = get_or xs j d in
    let w = set xs i y in
    let long : length w ≡ length xs = length-set xs i y in
    let there : get_or w j d ≡ y = ⊎_elim
    (λ (e : j ≡ i). ap (λ (k : ℕ). get_or w k d) e ∙ get_or-set_same xs i y d p)
    (λ (n : j ≡ i → ⊥). get_or-set_other xs i j y d n)
    (which j i) in
    with_cancels y (in_order (swap xs i j)) (in_order xs)
    (ap (λ (z : Record). with_record z (in_order (set w j x))) (sym there)
    ∙ order_set w j x d (omega arith) ∙ order_set xs i y d p)

-- Records in another order are the same records in order.
pub order_permutation : (xs ys : List Record) → IsPermutation xs ys → in_order ys ≡ in_order xs
order_permutation xs ys s = IsPermutation-keeps xs (λ (l : List Record). in_order l ≡ in_order xs)
    refl (λ l i j p q h. order_swap l i j p q ∙ h) ys s

-- the parts of a list of which none is below a bound
at_least_apart : (low : Record) (xs ys : List Record) → AtLeast low (xs ++ ys)
    → AtLeast low xs × AtLeast low ys
at_least_apart low [] ys h = (tt, h)
at_least_apart low (x ∷ xs) ys h =
    let r = at_least_apart low xs ys h.1 in ((h.0, r.0), r.1)

-- The parts of an ascending list ascend, and none of the second is below one of the first.
pub ascends_apart : (xs ys : List Record) → IsAscending (xs ++ ys)
    → IsAscending xs × IsAscending ys × AllAtLeast xs ys
ascends_apart [] ys h = (tt, h, tt)
ascends_apart (x ∷ xs) ys h =
    let r = ascends_apart xs ys h.1 in
    let a = at_least_apart x xs ys h.0 in
    ((a.0, r.0), r.1, (a.1, r.2))

-- a list ascends if no record is below the one before it
pub ascends_by_next : (xs : List Record) (d : Record)
    → ((k j : ℕ) → j ≡ k + 1 → j < length xs → is_below (get_or xs j d) (get_or xs k d) ≡ false)
    → IsAscending xs
ascends_by_next [] d h = tt
ascends_by_next (x ∷ []) d h = (tt, tt)
ascends_by_next (x ∷ y ∷ ys) d h =
    let rest = ascends_by_next (y ∷ ys) d
    (λ k j e f. h (suc k) (suc j) (omega arith) (omega arith)) in
    let first = h 0 1 (omega arith) (omega arith) in
    ((first, at_least_trans x y ys first rest.0), rest)

-- A list with the same records that ascends is these records in order.
pub order_of : (xs ys : List Record) → IsPermutation xs ys → IsAscending ys → ys ≡ in_order xs
order_of xs ys same rises = sym (order_ascending ys rises) ∙ order_permutation xs ys same
