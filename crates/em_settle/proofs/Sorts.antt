-- Sorting operations keeps the order of those of each key, if they came in ascending order.
use Rattle.std.specs.Prelude.{◌≡◌, Bool, true, false, cond, ℕ, suc, ◌+◌, List, [], ◌∷◌, slice_index_or}
use Rattle.std.proofs.Common.{sym, ap, subst, ◌∙◌, refl, ⊎_elim, arith, add-one}
use Rattle.std.specs.List.{sum_by}
use Rattle.std.specs.List.Sorted.{IsPermutation, IsSortedBy}
use Rattle.std.proofs.lemmas.List.Sorted.{sum_by-IsPermutation}
use Rattle.std.proofs.lemmas.List.Sums.{sum_by-cons}
use Rattle.std.proofs.lemmas.Bool.{cases_Bool, false≢true, cond-true, cond-false}
use Rattle.em_record.specs.declared.record.Record.{Record}
use Rattle.em_record.specs.Order.{is_below, AtLeast, IsAscending}
use Rattle.em_record.proofs.Order.{below_ranks, at_least_trans}
use Rattle.em_settle.specs.Keys.{has_key, of_key, SameByKey}
use Rattle.em_settle.specs.Rising.{AllAbove, Rises}
use Rattle.em_settle.proofs.Keys.{own_key, other_key, first_of_key, none_of_key, below_itself, between_is}

-- the record as its own key
abbrev itself : Record → Record
itself x = x

-- 1 if both are the same record
abbrev one : Record → Record → ℕ
one x y = cond (has_key itself x y) 1 0

-- how often a record stands in a list
abbrev pub times_in : Record → List Record → ℕ
times_in x xs = sum_by (one x) xs

-- with one record more
times_more : (x y : Record) (ys : List Record) → times_in x (y ∷ ys) ≡ one x y + times_in x ys
times_more x y ys = sum_by-cons (one x) y ys

-- a record counts itself, and no other
one_own : (x : Record) → one x x ≡ 1
one_own x = cond-true _ _ _ (own_key itself x)

one_other : (x y : Record) → (y ≡ x → ⊥) → one x y ≡ 0
one_other x y n = cond-false _ _ _ (other_key itself x y n)

-- a record below all of a list doesn't stand there
none_least : (x low : Record) (ys : List Record) → is_below x low ≡ true → AtLeast low ys
    → times_in x ys ≡ 0
none_least x low [] h a = refl
none_least x low (y ∷ ys) h a =
    let n : y ≡ x → ⊥ = λ e. false≢true (sym a.0 ∙ (ap (λ k. is_below k low) e ∙ h)) in
    let e = one_other x y n in
    let f = none_least x low ys h a.1 in
    let g = times_more x y ys in omega arith

-- a record at the front counts once more
some_own : (x : Record) (xs : List Record) → times_in x (x ∷ xs) ≡ 1 + times_in x xs
some_own x xs = times_more x x xs ∙ ap (λ n. n + times_in x xs) (one_own x)

-- Ascending lists with the same records, each as often, are the same.
pub ascending_same : (xs ys : List Record) → IsAscending xs → IsAscending ys
    → ((x : Record) → times_in x xs ≡ times_in x ys) → xs ≡ ys
ascending_same [] [] r s h = refl
ascending_same [] (y ∷ ys) r s h =
    let e : 0 ≡ times_in y (y ∷ ys) = h y in let f = some_own y ys in absurd (omega arith)
ascending_same (x ∷ xs) [] r s h =
    let e : times_in x (x ∷ xs) ≡ 0 = h x in let f = some_own x xs in absurd (omega arith)
ascending_same (x ∷ xs) (y ∷ ys) r s h =
    let not_less : is_below x y ≡ false = ⊎_elim
    (λ (t : is_below x y ≡ true).
    let e = h x in let f = some_own x xs in
    let g = none_least x y (y ∷ ys) t (below_itself y, s.0) in absurd (omega arith))
    (λ (f : is_below x y ≡ false). f) (cases_Bool (is_below x y)) in
    let not_more : is_below y x ≡ false = ⊎_elim
    (λ (t : is_below y x ≡ true).
    let e = h y in let f = some_own y ys in
    let g = none_least y x (x ∷ xs) t (below_itself x, r.0) in absurd (omega arith))
    (λ (f : is_below y x ≡ false). f) (cases_Bool (is_below y x)) in
    let same : x ≡ y = between_is x y not_less not_more in
    let rest : (z : Record) → times_in z xs ≡ times_in z ys = λ z.
    let e = h z in let f = times_more z x xs in let g = times_more z y ys in
    let k = ap (one z) same in omega arith in
    ap (λ z. z ∷ xs) same ∙ ap (λ zs. y ∷ zs) (ascending_same xs ys r.1 s.1 rest)

-- what a sort promises, as an ascending list
pub sorted_ascends : (xs : List Record) → IsSortedBy is_below xs → IsAscending xs
sorted_ascends [] h = tt
sorted_ascends (x ∷ []) h = (tt, tt)
sorted_ascends (x ∷ y ∷ ys) h =
    let rest = sorted_ascends (y ∷ ys) (λ k d l m.
    let P : ℕ → Type 0 = λ i. is_below (slice_index_or (x ∷ y ∷ ys) i d)
    (slice_index_or (x ∷ y ∷ ys) (suc k) d) ≡ false in
    let Q : ℕ → Type 0 = λ i. is_below (slice_index_or (y ∷ ys) i d)
    (slice_index_or (y ∷ ys) k d) ≡ false in
    subst Q (sym (add-one k)) (subst P (add-one (suc k)) (h (suc k) d (omega arith) (omega arith)))) in
    let first : is_below y x ≡ false = h 0 x (omega arith) (omega arith) in
    ((first, at_least_trans x y ys first rest.0), rest)

-- a rising list ascends
least_above : (x : Record) (xs : List Record) → AllAbove x xs → AtLeast x xs
least_above x [] a = tt
least_above x (y ∷ ys) a = (below_ranks.one_way x y a.0, least_above x ys a.1)

-- and so does all of it
pub rising_ascends : (xs : List Record) → Rises xs → IsAscending xs
rising_ascends [] r = tt
rising_ascends (x ∷ xs) r = (least_above x xs r.0, rising_ascends xs r.1)

module _ (key : Record → Record) where
  -- the records of a key in an ascending list ascend
  least_of_key : (low q : Record) (xs : List Record) → AtLeast low xs
      → AtLeast low (of_key key q xs)
  least_of_key low q [] a = tt
  least_of_key low q (x ∷ xs) a =
      let P : List Record → Type 0 = AtLeast low in ⊎_elim
      (λ (t : has_key key q x ≡ true).
      subst P (sym (first_of_key key q x xs t)) (a.0, least_of_key low q xs a.1))
      (λ (f : has_key key q x ≡ false).
      subst P (sym (none_of_key key q x xs f)) (least_of_key low q xs a.1))
      (cases_Bool (has_key key q x))

  -- and so do those of a key alone
  pub ascends_of_key : (q : Record) (xs : List Record) → IsAscending xs
      → IsAscending (of_key key q xs)
  ascends_of_key q [] a = tt
  ascends_of_key q (x ∷ xs) a =
      let P : List Record → Type 0 = IsAscending in ⊎_elim
      (λ (t : has_key key q x ≡ true).
      subst P (sym (first_of_key key q x xs t)) (least_of_key x q xs a.0, ascends_of_key q xs a.1))
      (λ (f : has_key key q x ≡ false).
      subst P (sym (none_of_key key q x xs f)) (ascends_of_key q xs a.1))
      (cases_Bool (has_key key q x))

  -- how often a record stands among those of a key
  times_of_key : (x q : Record) (xs : List Record)
      → times_in x (of_key key q xs) ≡ cond (has_key key q x) (times_in x xs) 0
  times_of_key x q [] =
      let none : ℕ = 0 in
      let P : Bool → Type 0 = λ b. none ≡ cond b none none in
      let both : (b : Bool) → P b = elim [ true ↦ refl | false ↦ refl ] in both (has_key key q x)
  times_of_key x q (y ∷ ys) =
      let ih = times_of_key x q ys in
      let more = times_more x y ys in ⊎_elim
      (λ (t : has_key key q y ≡ true).
      ap (times_in x) (first_of_key key q y ys t) ∙ (times_more x y (of_key key q ys) ∙ ⊎_elim
      (λ (u : has_key key q x ≡ true).
      ap (λ n. one x y + n) (ih ∙ cond-true _ _ _ u) ∙ (sym more ∙ sym (cond-true _ _ _ u)))
      (λ (v : has_key key q x ≡ false).
      let n : y ≡ x → ⊥ = λ e. false≢true (sym v ∙ (ap (has_key key q) (sym e) ∙ t)) in
      ap (λ m. m + times_in x (of_key key q ys)) (one_other x y n)
      ∙ (ap (λ m. 0 + m) (ih ∙ cond-false _ _ _ v) ∙ sym (cond-false _ _ _ v)))
      (cases_Bool (has_key key q x))))
      (λ (f : has_key key q y ≡ false).
      ap (times_in x) (none_of_key key q y ys f) ∙ (ih ∙ ⊎_elim
      (λ (u : has_key key q x ≡ true).
      let n : y ≡ x → ⊥ = λ e. false≢true (sym f ∙ (ap (has_key key q) e ∙ u)) in
      let z = one_other x y n in
      let same : times_in x ys ≡ times_in x (y ∷ ys) = omega arith in
      cond-true _ _ _ u ∙ (same ∙ sym (cond-true _ _ _ u)))
      (λ (v : has_key key q x ≡ false). cond-false _ _ _ v ∙ sym (cond-false _ _ _ v))
      (cases_Bool (has_key key q x))))
      (cases_Bool (has_key key q y))

  -- A sorted list of operations has those of each key in the order in which they came.
  pub sorted_same : (xs ys : List Record) → IsPermutation xs ys → IsAscending ys
      → ((q : Record) → Rises (of_key key q xs)) → SameByKey key xs ys
  sorted_same xs ys p a h q = ascending_same (of_key key q xs) (of_key key q ys)
      (rising_ascends (of_key key q xs) (h q)) (ascends_of_key q ys a)
      (λ x. times_of_key x q xs
      ∙ (ap (λ n. cond (has_key key q x) n 0) (sym (sum_by-IsPermutation (one x) xs ys p))
      ∙ sym (times_of_key x q ys)))
