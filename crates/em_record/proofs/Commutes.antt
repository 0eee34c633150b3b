-- The order in which records are put in order doesn't matter.
use Rattle.std.proofs.Common.{◌≡◌, ℕ, ◌<◌, List, [], ◌∷◌, ◌++◌, true, false, refl, sym, ap, subst, ◌∙◌, arith, ⊎_elim, true≢false, append-nil}
use Rattle.std.proofs.lemmas.Bool.{cases_Bool}
use Rattle.std.proofs.lemmas.Cmp.{ranked}
use Rattle.std.specs.Ordering.{nat_cmp, ordering_then, is_lt, MatchOrdering}
use Rattle.std.specs.declared.cmp.Ordering.{Ordering}
use Rattle.std.specs.declared.cmp.Ordering.TheVariants.{Less, Equal, Greater}
use Rattle.em_record.specs.declared.record.Record.{Record}
use Rattle.em_record.specs.Order.{is_below, AtLeast, AllAtLeast, IsAscending, with_record, with_records, in_order}
use Rattle.em_record.proofs.Order.{below_ranks, at_least_with, with_first, with_least, with_later, records_append}

-- two words of which neither is less, before two orders
word_ties : (r s o p : Ordering) (m n : ℕ) → MatchOrdering r (m < n) (m ≡ n) (n < m)
    → MatchOrdering s (n < m) (n ≡ m) (m < n) → is_lt (ordering_then r o) ≡ false
    → is_lt (ordering_then s p) ≡ false → (m ≡ n) × (is_lt o ≡ false) × (is_lt p ≡ false)
word_ties Less s o p m n a b h k = absurd (true≢false h)
word_ties Equal Less o p m n a b h k = absurd (true≢false k)
word_ties Equal Equal o p m n a b h k = (a, h, k)
word_ties Equal Greater o p m n a b h k = absurd (omega arith)
word_ties Greater Less o p m n a b h k = absurd (true≢false k)
word_ties Greater Equal o p m n a b h k = absurd (omega arith)
word_ties Greater Greater o p m n a b h k = absurd (omega arith)

last_ties : (r s : Ordering) (m n : ℕ) → MatchOrdering r (m < n) (m ≡ n) (n < m)
    → MatchOrdering s (n < m) (n ≡ m) (m < n) → is_lt r ≡ false → is_lt s ≡ false → m ≡ n
last_ties Less s m n a b h k = absurd (true≢false h)
last_ties Equal s m n a b h k = a
last_ties Greater Less m n a b h k = absurd (true≢false k)
last_ties Greater Equal m n a b h k = absurd (omega arith)
last_ties Greater Greater m n a b h k = absurd (omega arith)

-- two records of which neither is below the other are one
pub record_ties : (x y : Record) → is_below x y ≡ false → is_below y x ≡ false → x ≡ y
record_ties x y h k =
    let p = word_ties (nat_cmp x.a y.a) (nat_cmp y.a x.a) _ _ x.a y.a
    (ranked x.a y.a _ refl) (ranked y.a x.a _ refl) h k in
    let q = word_ties (nat_cmp x.b y.b) (nat_cmp y.b x.b) _ _ x.b y.b
    (ranked x.b y.b _ refl) (ranked y.b x.b _ refl) p.1 p.2 in
    let r = word_ties (nat_cmp x.c y.c) (nat_cmp y.c x.c) _ _ x.c y.c
    (ranked x.c y.c _ refl) (ranked y.c x.c _ refl) q.1 q.2 in
    let s = last_ties (nat_cmp x.d y.d) (nat_cmp y.d x.d) x.d y.d
    (ranked x.d y.d _ refl) (ranked y.d x.d _ refl) r.1 r.2 in
    λ i. record { a = p.0 i; b = q.0 i; c = r.0 i; d = s i }

-- what is below a record is below all that aren't below that one
below_trans : (x y z : Record) → is_below z x ≡ true → is_below z y ≡ false
    → is_below y x ≡ true
below_trans x y z h k = ⊎_elim
    (λ (t : is_below y x ≡ true). t)
    (λ (f : is_below y x ≡ false). absurd (true≢false (sym h ∙ below_ranks.chain z y x k f)))
    (cases_Bool (is_below y x))

-- both go before the list
with_both : (x y : Record) (ws : List Record) → with_record x ws ≡ x ∷ ws
    → with_record y ws ≡ y ∷ ws → with_record x (y ∷ ws) ≡ with_record y (x ∷ ws)
with_both x y ws p q = ⊎_elim
    (λ (t : is_below y x ≡ true).
    with_later x y ws t ∙ ap (λ (l : List Record). y ∷ l) p
    ∙ sym (with_first y x ws (below_ranks.one_way y x t)))
    (λ (f : is_below y x ≡ false). ⊎_elim
    (λ (u : is_below x y ≡ true).
    with_first x y ws f ∙ ap (λ (l : List Record). x ∷ l) (sym q) ∙ sym (with_later y x ws u))
    (λ (g : is_below x y ≡ false).
    let e = record_ties x y g f in λ i. with_record (e i) (sym e i ∷ ws))
    (cases_Bool (is_below x y)))
    (cases_Bool (is_below y x))

-- the first of the list stands between them
with_apart : (x y z : Record) (zs : List Record) → is_below z x ≡ true → is_below z y ≡ false
    → with_record x (with_record y (z ∷ zs)) ≡ with_record y (with_record x (z ∷ zs))
with_apart x y z zs h k =
    ap (with_record x) (with_first y z zs k)
    ∙ with_later x y (z ∷ zs) (below_trans x y z h k)
    ∙ ap (λ (l : List Record). y ∷ l) (with_later x z zs h)
    ∙ sym (with_first y z (with_record x zs) k)
    ∙ ap (with_record y) (sym (with_later x z zs h))

-- Two records come in either order.
pub with_commutes : (x y : Record) (zs : List Record)
    → with_record x (with_record y zs) ≡ with_record y (with_record x zs)
with_commutes x y [] = with_both x y [] refl refl
with_commutes x y (z ∷ zs) = ⊎_elim
    (λ (a : is_below z x ≡ true). ⊎_elim
    (λ (b : is_below z y ≡ true).
    ap (with_record x) (with_later y z zs b) ∙ with_later x z (with_record y zs) a
    ∙ ap (λ (l : List Record). z ∷ l) (with_commutes x y zs)
    ∙ sym (with_later y z (with_record x zs) b)
    ∙ ap (with_record y) (sym (with_later x z zs a)))
    (λ (b : is_below z y ≡ false). with_apart x y z zs a b)
    (cases_Bool (is_below z y)))
    (λ (a : is_below z x ≡ false). ⊎_elim
    (λ (b : is_below z y ≡ true). sym (with_apart y x z zs b a))
    (λ (b : is_below z y ≡ false).
    ap (with_record x) (with_first y z zs b)
    ∙ with_both x y (z ∷ zs) (with_first x z zs a) (with_first y z zs b)
    ∙ ap (with_record y) (sym (with_first x z zs a)))
    (cases_Bool (is_below z y)))
    (cases_Bool (is_below z x))

-- one record more before the others
pub records_with : (x : Record) (ys xs : List Record)
    → with_records (with_record x ys) xs ≡ with_record x (with_records ys xs)
records_with x ys [] = refl
records_with x ys (z ∷ xs) =
    ap (λ (l : List Record). with_records l xs) (with_commutes z x ys)
    ∙ records_with x (with_record z ys) xs

-- one record more at the front
pub order_cons : (x : Record) (xs : List Record) → in_order (x ∷ xs) ≡ with_record x (in_order xs)
order_cons x xs = records_with x [] xs

-- one record more between two lists
pub order_between : (xs : List Record) (y : Record) (ys : List Record)
    → in_order (xs ++ y ∷ ys) ≡ with_record y (in_order (xs ++ ys))
order_between xs y ys =
    records_append [] xs (y ∷ ys) ∙ records_with y (in_order xs) ys
    ∙ ap (with_record y) (sym (records_append [] xs ys))

-- Two lists come in either order.
pub order_append : (xs ys : List Record) → in_order (xs ++ ys) ≡ in_order (ys ++ xs)
order_append [] ys = ap in_order (sym (append-nil ys))
order_append (x ∷ xs) ys =
    order_cons x (xs ++ ys) ∙ ap (with_record x) (order_append xs ys)
    ∙ sym (order_between ys x xs)

-- An ascending list is in order.
pub order_ascending : (xs : List Record) → IsAscending xs → in_order xs ≡ xs
order_ascending [] h = refl
order_ascending (x ∷ xs) h =
    order_cons x xs ∙ ap (with_record x) (order_ascending xs h.1) ∙ with_least x xs h.0

-- what none of some records is below, in any order
pub at_least_order : (low : Record) (xs : List Record) → AtLeast low xs → AtLeast low (in_order xs)
at_least_order low [] h = tt
at_least_order low (x ∷ xs) h =
    subst (AtLeast low) (sym (order_cons x xs))
    (at_least_with low x (in_order xs) h.0 (at_least_order low xs h.1))

-- a record that none of the second part is below goes into the first
pub with_append : (x : Record) (xs ys : List Record) → AtLeast x ys
    → with_record x (xs ++ ys) ≡ with_record x xs ++ ys
with_append x [] ys h = with_least x ys h
with_append x (z ∷ xs) ys h = ⊎_elim
    (λ (t : is_below z x ≡ true).
    with_later x z (xs ++ ys) t ∙ ap (λ (l : List Record). z ∷ l) (with_append x xs ys h)
    ∙ ap (λ (l : List Record). l ++ ys) (sym (with_later x z xs t)))
    (λ (f : is_below z x ≡ false).
    with_first x z (xs ++ ys) f ∙ ap (λ (l : List Record). l ++ ys) (sym (with_first x z xs f)))
    (cases_Bool (is_below z x))

-- Of two lists, none of the second below one of the first, the first comes first.
pub order_split : (xs ys : List Record) → AllAtLeast xs ys
    → in_order (xs ++ ys) ≡ in_order xs ++ in_order ys
order_split [] ys h = refl
order_split (x ∷ xs) ys h =
    order_cons x (xs ++ ys) ∙ ap (with_record x) (order_split xs ys h.1)
    ∙ with_append x (in_order xs) (in_order ys) (at_least_order x ys h.0)
    ∙ ap (λ (l : List Record). l ++ in_order ys) (sym (order_cons x xs))
