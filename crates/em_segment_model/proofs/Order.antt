-- A list in order is fixed by what it holds: what a queue hands out after the pairs went in, in any order.
use Rattle.std.proofs.Common.{◌≡◌, ℕ, ◌+◌, ◌<◌, ◌≤◌, Bool, true, false, cond, List, [], ◌∷◌, ◌++◌, refl, sym, ap, ◌∙◌, arith, ⊎_elim}
use Rattle.std.proofs.lemmas.Bool.{cases_Bool}
use Rattle.std.proofs.lemmas.List.Sums.{sum_by-append, sum_by-cons}
use Rattle.std.specs.List.{sum_by}
use Rattle.em_record.specs.declared.record.Record.{Record}
use Rattle.em_record.specs.Order.{is_below, AtLeast, IsAscending, with_record, with_records, in_order}
use Rattle.em_record.proofs.Order.{below_ranks, order_ascends}
use Rattle.em_record.proofs.Commutes.{record_ties}
use Rattle.em_segment_model.specs.Alike.{Alike}
use Rattle.em_segment_model.proofs.Sums.{if_so}

pub alike_then : (xs ys zs : List Record) → Alike xs ys → Alike ys zs → Alike xs zs
alike_then xs ys zs a b = record { weighs = λ f. a.weighs f ∙ b.weighs f }

pub sum-with : (f : Record → ℕ) (x : Record) (ys : List Record) → sum_by f (with_record x ys) ≡ f x + sum_by f ys
sum-with f x [] = sum_by-cons f x []
sum-with f x (y ∷ ys) = by_test (sum-with f x ys) (is_below y x)
  where
    by_test : sum_by f (with_record x ys) ≡ f x + sum_by f ys → (b : Bool)
        → sum_by f (cond b (y ∷ with_record x ys) (x ∷ y ∷ ys)) ≡ f x + sum_by f (y ∷ ys)
    by_test r true =
        let a = sum_by-cons f y (with_record x ys) in
        let b = sum_by-cons f y ys in omega arith
    by_test r false = sum_by-cons f x (y ∷ ys)

sum-withs : (f : Record → ℕ) (ys xs : List Record) → sum_by f (with_records ys xs) ≡ sum_by f xs + sum_by f ys
sum-withs f ys [] = omega arith
sum-withs f ys (x ∷ xs) =
    let r = sum-withs f (with_record x ys) xs in let a = sum-with f x ys in
    let b = sum_by-cons f x xs in omega arith

-- putting in order keeps the records
pub order-alike : (xs : List Record) → Alike (in_order xs) xs
order-alike xs = record { weighs = λ f. let r = sum-withs f [] xs in omega arith }

abbrev below : Record → Record → ℕ
below x y = if_so (is_below y x) 1

-- none of an ascending list's records is below its first
none_below : (x : Record) (ys : List Record) → AtLeast x ys → sum_by (below x) ys ≡ 0
none_below x [] h = refl
none_below x (y ∷ ys) (first, rest) =
    let r = none_below x ys rest in let c = sum_by-cons (below x) y ys in
    let e : below x y ≡ 0 = rw first refl in omega arith

not_below : (x y : Record) (ys : List Record) → sum_by (below x) (y ∷ ys) ≡ 0 → is_below y x ≡ false
not_below x y ys e =
    let c = sum_by-cons (below x) y ys in
    zero_test (is_below y x) (omega arith)
  where
    zero_test : (b : Bool) → if_so b 1 ≡ 0 → b ≡ false
    zero_test true e = absurd (omega arith)
    zero_test false e = refl

same_first : (x y : Record) (xs ys : List Record) → IsAscending (x ∷ xs)
    → ((f : Record → ℕ) → sum_by f (x ∷ xs) ≡ sum_by f (y ∷ ys)) → is_below y x ≡ false
same_first x y xs ys h w =
    let s = none_below x xs h.0 in let c = sum_by-cons (below x) x xs in
    let e : below x x ≡ 0 = rw (itself x) refl in
    let v = w (below x) in
    let z : sum_by (below x) (y ∷ ys) ≡ 0 = omega arith in
    not_below x y ys z
  where
    itself : (x : Record) → is_below x x ≡ false
    itself x = ⊎_elim (λ (t : is_below x x ≡ true). below_ranks.one_way x x t)
        (λ (e : is_below x x ≡ false). e) (cases_Bool (is_below x x))

-- Two ascending lists that hold the same are one list.
pub ascending_one : (xs ys : List Record) → IsAscending xs → IsAscending ys
    → ((f : Record → ℕ) → sum_by f xs ≡ sum_by f ys) → xs ≡ ys
ascending_one [] [] a b w = refl
ascending_one [] (y ∷ ys) a b w =
    let e = w (λ _. 1) in let c = sum_by-cons (λ (_ : Record). 1) y ys in absurd (omega arith)
ascending_one (x ∷ xs) [] a b w =
    let e = w (λ _. 1) in let c = sum_by-cons (λ (_ : Record). 1) x xs in absurd (omega arith)
ascending_one (x ∷ xs) (y ∷ ys) a b w =
    let one : x ≡ y = record_ties x y
    (same_first y x ys xs b (λ f. sym (w f))) (same_first x y xs ys a w) in
    let rest : xs ≡ ys = ascending_one xs ys a.1 b.1 (λ f.
    let p = sum_by-cons f x xs in let q = sum_by-cons f y ys in let r = w f in
    let e = ap f one in omega arith) in
    ap (λ z. z ∷ xs) one ∙ ap (λ zs. y ∷ zs) rest

-- The pairs, in whatever order they went into the queue, come out as the answers.
pub in_order_one : (xs ys : List Record) → IsAscending ys → Alike xs ys → in_order xs ≡ ys
in_order_one xs ys h a =
    ascending_one (in_order xs) ys (order_ascends xs) h (λ f. (order-alike xs).weighs f ∙ a.weighs f)

-- Two parts, one after the other.
pub alike_both : (xs ys us vs : List Record) → Alike xs us → Alike ys vs → Alike (xs ++ ys) (us ++ vs)
alike_both xs ys us vs a b = record {
  weighs = λ f.
      let p = a.weighs f in let q = b.weighs f in
      let c = sum_by-append f xs ys in let d = sum_by-append f us vs in omega arith;
}
