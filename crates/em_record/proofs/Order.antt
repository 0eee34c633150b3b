-- Records in order.
use Rattle.std.proofs.Common.{◌≡◌, ◌+◌, List, [], ◌∷◌, ◌++◌, length, true, false, refl, ap, ◌∙◌, arith, ⊎_elim}
use Rattle.std.proofs.lemmas.Bool.{cases_Bool, cond-true, cond-false}
use Rattle.std.proofs.lemmas.Cmp.{then_total, on_total, nat_cmp_total}
use Rattle.std.proofs.lemmas.List.Sorted.{ranks_by}
use Rattle.std.specs.Cmp.{IsTotalOrder, IsStrictWeakOrder}
use Rattle.em_record.specs.declared.record.Record.{Record}
use Rattle.em_record.specs.Order.{record_cmp, is_below, AtLeast, IsAscending, with_record, with_records, in_order}

-- The order of records is a total order.
pub record_total : IsTotalOrder record_cmp
record_total = then_total (on_total (λ (x : Record). x.a) nat_cmp_total)
    (then_total (on_total (λ (x : Record). x.b) nat_cmp_total)
    (then_total (on_total (λ (x : Record). x.c) nat_cmp_total)
    (on_total (λ (x : Record). x.d) nat_cmp_total)))

pub below_ranks : IsStrictWeakOrder is_below
below_ranks = ranks_by record_total (λ (x : Record). x)

-- what isn't below a bound isn't below a lesser one
pub at_least_trans : (low mid : Record) (xs : List Record) → is_below mid low ≡ false
    → AtLeast mid xs → AtLeast low xs
at_least_trans low mid [] e h = tt
at_least_trans low mid (x ∷ xs) e h =
    (below_ranks.chain x mid low h.0 e, at_least_trans low mid xs e h.1)

-- one more record keeps what none is below
pub at_least_with : (low x : Record) (ys : List Record) → is_below x low ≡ false → AtLeast low ys
    → AtLeast low (with_record x ys)
at_least_with low x [] e h = (e, tt)
at_least_with low x (y ∷ ys) e h = ⊎_elim
    (λ (t : is_below y x ≡ true). rw t (h.0, at_least_with low x ys e h.1))
    (λ (f : is_below y x ≡ false). rw f (e, h))
    (cases_Bool (is_below y x))

-- An ascending list with one more record ascends.
pub with_ascends : (x : Record) (ys : List Record) → IsAscending ys → IsAscending (with_record x ys)
with_ascends x [] h = (tt, tt)
with_ascends x (y ∷ ys) h = ⊎_elim
    (λ (t : is_below y x ≡ true).
    rw t (at_least_with y x ys (below_ranks.one_way y x t) h.0, with_ascends x ys h.1))
    (λ (f : is_below y x ≡ false).
    rw f ((f, at_least_trans x y ys f h.0), h))
    (cases_Bool (is_below y x))

pub all_ascend : (ys xs : List Record) → IsAscending ys → IsAscending (with_records ys xs)
all_ascend ys [] h = h
all_ascend ys (x ∷ xs) h = all_ascend (with_record x ys) xs (with_ascends x ys h)

-- Records that were put in order ascend.
pub order_ascends : (xs : List Record) → IsAscending (in_order xs)
order_ascends xs = all_ascend [] xs tt

-- a record below none of a list goes before it
pub with_least : (x : Record) (ys : List Record) → AtLeast x ys → with_record x ys ≡ x ∷ ys
with_least x [] h = refl
with_least x (y ∷ ys) h = cond-false _ _ _ h.0

-- one that the first isn't below comes first
pub with_first : (x y : Record) (ys : List Record) → is_below y x ≡ false
    → with_record x (y ∷ ys) ≡ x ∷ y ∷ ys
with_first x y ys h = cond-false _ _ _ h

-- one that the first is below goes after the first
pub with_later : (x y : Record) (ys : List Record) → is_below y x ≡ true
    → with_record x (y ∷ ys) ≡ y ∷ with_record x ys
with_later x y ys h = cond-true _ _ _ h

-- one record more at the end
pub records_push : (ys xs : List Record) (x : Record)
    → with_records ys (xs ++ x ∷ []) ≡ with_record x (with_records ys xs)
records_push ys [] x = refl
records_push ys (y ∷ xs) x = records_push (with_record y ys) xs x

pub order_push : (xs : List Record) (x : Record)
    → in_order (xs ++ x ∷ []) ≡ with_record x (in_order xs)
order_push xs x = records_push [] xs x

-- some records after others
pub records_append : (ys xs zs : List Record)
    → with_records ys (xs ++ zs) ≡ with_records (with_records ys xs) zs
records_append ys [] zs = refl
records_append ys (x ∷ xs) zs = records_append (with_record x ys) xs zs

pub length_with : (x : Record) (ys : List Record) → length (with_record x ys) ≡ length ys + 1
length_with x [] = refl
length_with x (y ∷ ys) = ⊎_elim
    (λ (t : is_below y x ≡ true).
    ap length (cond-true _ _ _ t) ∙ (let e = length_with x ys in omega arith))
    (λ (f : is_below y x ≡ false). ap length (cond-false _ _ _ f) ∙ omega arith)
    (cases_Bool (is_below y x))

pub length_records : (ys xs : List Record)
    → length (with_records ys xs) ≡ length ys + length xs
length_records ys [] = omega arith
length_records ys (x ∷ xs) =
    let e = length_records (with_record x ys) xs in let f = length_with x ys in omega arith

pub length_order : (xs : List Record) → length (in_order xs) ≡ length xs
length_order xs = let e = length_records [] xs in omega arith
