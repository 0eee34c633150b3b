-- Numbers that stand once each, and records by their words a: in order and in the order of the text.
use Rattle.std.proofs.Common.{◌⊎◌, inl, inr, ◌≡◌, ◌≢◌, ◌+◌, ◌≤◌, Bool, true, false, cond, eqb, List, [], ◌∷◌, ℕ, suc, sym, ap, ◌∙◌, refl, subst, arith, length, filter, map, Contains}
use Rattle.std.proofs.lemmas.Bool.{eq-eqb, eqb-true, cases_Bool, cases_lt, ne_eqb}
use Rattle.em_record.specs.declared.record.Record.{Record}
use Rattle.em_record.specs.Order.{is_below, AtLeast, IsAscending, with_record, in_order}
use Rattle.em_record.proofs.Commutes.{order_cons}
use Rattle.em_record.proofs.Order.{order_ascends}
use Rattle.aig_defs.specs.Founded.{has}
use Rattle.aig_defs.specs.Sorted.{AllAbove, Climbs}
use Rattle.aig_defs.proofs.Graphs.{lesser_below}
use Rattle.aig_defs.proofs.Members.{has_cases, has_first, has_rest, contains_cases, contains_first, contains_rest, contains_none}
use Rattle.aig_defs.proofs.Single.{times_in, times_append, times_with, has_times}

-- no number stands twice
abbrev pub Unlike : List ℕ → Type 0
Unlike [] = Unit {0}
Unlike (v ∷ vs) = (has vs v ≡ true → ⊥) × Unlike vs

pub times_first : (v : ℕ) (vs : List ℕ) → times_in v (v ∷ vs) ≡ suc (times_in v vs)
times_first v vs = ap (λ b. times_with b v v vs) (eq-eqb v v refl)

times_rest_by : (b : Bool) (u v : ℕ) (vs : List ℕ) → times_in v vs ≤ times_with b u v vs
times_rest_by true u v vs = omega arith
times_rest_by false u v vs = omega arith

times_rest : (u v : ℕ) (vs : List ℕ) → times_in v vs ≤ times_in v (u ∷ vs)
times_rest u v vs = times_rest_by (eqb u v) u v vs

pub few_unlike : (vs : List ℕ) → ((v : ℕ) → times_in v vs ≤ 1) → Unlike vs
few_unlike [] f = tt
few_unlike (v ∷ vs) f = (
  λ there. omega (arith, f v, times_first v vs, has_times vs v there),
  few_unlike vs (λ u. omega (arith, f u, times_rest v u vs)),
)

pub times_none : (v : ℕ) (vs : List ℕ) → (has vs v ≡ true → ⊥) → times_in v vs ≡ 0
times_none v [] f = refl
times_none v (u ∷ vs) f =
    let other = ne_eqb u v (λ e. f (has_first u v vs e)) in
    ap (λ b. times_with b u v vs) other ∙ times_none v vs (λ h. f (has_rest u v vs h))

pub unlike_few : (vs : List ℕ) → Unlike vs → (v : ℕ) → times_in v vs ≤ 1
unlike_few [] h v = omega arith
unlike_few (u ∷ vs) h v = elim (cases_Bool (eqb u v)) [
  | inl same ↦
      let e = eqb-true u v same in
      let none = times_none v vs (λ there. h.0 (ap (has vs) e ∙ there)) in
      omega (arith, ap (λ b. times_with b u v vs) same, none)
  | inr other ↦ omega (arith, ap (λ b. times_with b u v vs) other, unlike_few vs h.1 v)
]

-- the words a of some records
abbrev pub words : List Record → List ℕ
words xs = map (λ (r : Record). r.a) xs

-- a record has its word
pub word_has : (xs : List Record) (r : Record) → Contains xs r → has (words xs) r.a ≡ true
word_has [] r i = absurd (contains_none r i)
word_has (x ∷ xs) r i = elim (contains_cases x r xs i) [
  | inl same ↦ has_first x.a r.a (words xs) (ap (λ (z : Record). z.a) same)
  | inr j ↦ has_rest x.a r.a (words xs) (word_has xs r j)
]

-- a record with this word
pub record HasRecord (xs : List Record) (v : ℕ) : Type 0 where
  pub item : Record
  pub is : Contains xs item
  pub word : item.a ≡ v

pub record_with : (xs : List Record) (v : ℕ) → has (words xs) v ≡ true → HasRecord xs v
record_with [] v h = cc
record_with (x ∷ xs) v h = elim (has_cases x.a v (words xs) h) [
  | inl same ↦ record { item = x; is = contains_first x x xs refl; word = same }
  | inr rest ↦
      let other = record_with xs v rest in
      record { item = other.item; is = contains_rest x other.item xs other.is; word = other.word }
]

-- of records with unlike words one has each word
pub one_record : (xs : List Record) → Unlike (words xs) → (r q : Record) → Contains xs r
    → Contains xs q → r.a ≡ q.a → r ≡ q
one_record [] u r q i j e = absurd (contains_none r i)
one_record (x ∷ xs) u r q i j e = elim (contains_cases x r xs i) [
  | inl first ↦ elim (contains_cases x q xs j) [
    | inl second ↦ sym first ∙ second
    | inr rest ↦
        let same = ap (λ (z : Record). z.a) first ∙ e in
        absurd (u.0 (ap (has (words xs)) same ∙ word_has xs q rest))
  ]
  | inr rest ↦ elim (contains_cases x q xs j) [
    | inl second ↦
        let same = ap (λ (z : Record). z.a) second ∙ sym e in
        absurd (u.0 (ap (has (words xs)) same ∙ word_has xs r rest))
    | inr other ↦ one_record xs u.1 r q rest other e
  ]
]

-- records in order are the same records
from_with_by : (b : Bool) (x y z : Record) (ys more : List Record)
    → (Contains more z → (x ≡ z) ⊎ Contains ys z)
    → Contains (cond b (y ∷ more) (x ∷ y ∷ ys)) z → (x ≡ z) ⊎ Contains (y ∷ ys) z
from_with_by true x y z ys more f i = elim (contains_cases y z more i) [
  | inl same ↦ inr (contains_first y z ys same)
  | inr j ↦ elim (f j) [ inl e ↦ inl e | inr k ↦ inr (contains_rest y z ys k) ]
]
from_with_by false x y z ys more f i = contains_cases x z (y ∷ ys) i

from_with : (x z : Record) (ys : List Record) → Contains (with_record x ys) z
    → (x ≡ z) ⊎ Contains ys z
from_with x z [] i = contains_cases x z [] i
from_with x z (y ∷ ys) i =
    from_with_by (is_below y x) x y z ys (with_record x ys) (from_with x z ys) i

to_with_by : (b : Bool) (x y z : Record) (ys more : List Record)
    → ((x ≡ z) ⊎ Contains ys z → Contains more z) → (x ≡ z) ⊎ Contains (y ∷ ys) z
    → Contains (cond b (y ∷ more) (x ∷ y ∷ ys)) z
to_with_by true x y z ys more f (inl e) = contains_rest y z more (f (inl e))
to_with_by true x y z ys more f (inr i) = elim (contains_cases y z ys i) [
  | inl same ↦ contains_first y z more same
  | inr j ↦ contains_rest y z more (f (inr j))
]
to_with_by false x y z ys more f (inl e) = contains_first x z (y ∷ ys) e
to_with_by false x y z ys more f (inr i) = contains_rest x z (y ∷ ys) i

to_with : (x z : Record) (ys : List Record) → (x ≡ z) ⊎ Contains ys z
    → Contains (with_record x ys) z
to_with x z [] (inl e) = contains_first x z [] e
to_with x z [] (inr i) = absurd (contains_none z i)
to_with x z (y ∷ ys) i = to_with_by (is_below y x) x y z ys (with_record x ys) (to_with x z ys) i

pub from_order : (z : Record) (xs : List Record) → Contains (in_order xs) z → Contains xs z
from_order z [] i = i
from_order z (x ∷ xs) i =
    let there = subst (λ ys. Contains ys z) (order_cons x xs) i in
    elim (from_with x z (in_order xs) there) [
      | inl e ↦ contains_first x z xs e
      | inr j ↦ contains_rest x z xs (from_order z xs j)
    ]

pub to_order : (z : Record) (xs : List Record) → Contains xs z → Contains (in_order xs) z
to_order z [] i = i
to_order z (x ∷ xs) i =
    subst (λ ys. Contains ys z) (sym (order_cons x xs)) (to_with x z (in_order xs)
    (elim (contains_cases x z xs i) [ inl e ↦ inl e | inr j ↦ inr (to_order z xs j) ]))

pub word_order : (v : ℕ) (xs : List Record) → has (words (in_order xs)) v ≡ true
    → has (words xs) v ≡ true
word_order v xs h =
    let r = record_with (in_order xs) v h in
    ap (has (words xs)) (sym r.word) ∙ word_has xs r.item (from_order r.item xs r.is)

pub order_word : (v : ℕ) (xs : List Record) → has (words xs) v ≡ true
    → has (words (in_order xs)) v ≡ true
order_word v xs h =
    let r = record_with xs v h in
    ap (has (words (in_order xs))) (sym r.word)
    ∙ word_has (in_order xs) r.item (to_order r.item xs r.is)

-- each word stands as often
times_swap_by : (p q : Bool) (u w v : ℕ) (vs : List ℕ)
    → length (cond p (u ∷ cond q (w ∷ filter (λ z. eqb z v) vs) (filter (λ z. eqb z v) vs))
    (cond q (w ∷ filter (λ z. eqb z v) vs) (filter (λ z. eqb z v) vs)))
    ≡ length (cond q (w ∷ cond p (u ∷ filter (λ z. eqb z v) vs) (filter (λ z. eqb z v) vs))
    (cond p (u ∷ filter (λ z. eqb z v) vs) (filter (λ z. eqb z v) vs)))
times_swap_by true true u w v vs = refl
times_swap_by true false u w v vs = refl
times_swap_by false true u w v vs = refl
times_swap_by false false u w v vs = refl

times_swap : (u w v : ℕ) (vs : List ℕ) → times_in v (u ∷ w ∷ vs) ≡ times_in v (w ∷ u ∷ vs)
times_swap u w v vs = times_swap_by (eqb u v) (eqb w v) u w v vs

times_more : (u v : ℕ) (vs ws : List ℕ) → times_in v vs ≡ times_in v ws
    → times_in v (u ∷ vs) ≡ times_in v (u ∷ ws)
times_more u v vs ws e = times_append v (u ∷ []) vs ∙ ap (λ n. times_in v (u ∷ []) + n) e
    ∙ sym (times_append v (u ∷ []) ws)

times_with_record : (v : ℕ) (x : Record) (ys : List Record)
    → times_in v (words (with_record x ys)) ≡ times_in v (x.a ∷ words ys)
times_with_record v x [] = refl
times_with_record v x (y ∷ ys) = elim (cases_Bool (is_below y x)) [
  | inl below ↦
      ap (λ b. times_in v (words (cond b (y ∷ with_record x ys) (x ∷ y ∷ ys)))) below
      ∙ times_more y.a v (words (with_record x ys)) (x.a ∷ words ys) (times_with_record v x ys)
      ∙ times_swap y.a x.a v (words ys)
  | inr past ↦ ap (λ b. times_in v (words (cond b (y ∷ with_record x ys) (x ∷ y ∷ ys)))) past
]

pub times_order : (v : ℕ) (xs : List Record)
    → times_in v (words (in_order xs)) ≡ times_in v (words xs)
times_order v [] = refl
times_order v (x ∷ xs) =
    ap (λ ys. times_in v (words ys)) (order_cons x xs)
    ∙ times_with_record v x (in_order xs)
    ∙ times_more x.a v (words (in_order xs)) (words xs) (times_order v xs)

-- a record that isn't below another has no lesser word a
pub a_at_least : (x y : Record) → is_below x y ≡ false → y.a ≤ x.a
a_at_least x y e = elim (cases_lt x.a y.a) [
  | inl less ↦ let below = lesser_below x y less in cc
  | inr most ↦ most
]

-- climbing records have unlike words, and in order records with unlike words climb
pub above_lacks : (n v : ℕ) (xs : List Record) → AllAbove n xs → v ≤ n
    → has (words xs) v ≡ true → ⊥
above_lacks n v [] a l h = cc
above_lacks n v (x ∷ xs) a l h = elim (has_cases x.a v (words xs) h) [
  | inl same ↦ let over = a.0 in omega (arith, over, l, same)
  | inr rest ↦ above_lacks n v xs a.1 l rest
]

pub climbs_unlike : (xs : List Record) → Climbs xs → Unlike (words xs)
climbs_unlike [] c = tt
climbs_unlike (x ∷ xs) c = (above_lacks x.a x.a xs c.0 (omega arith), climbs_unlike xs c.1)

least_above : (low : Record) (xs : List Record) → AtLeast low xs → (has (words xs) low.a ≡ true → ⊥)
    → AllAbove low.a xs
least_above low [] h f = tt
least_above low (x ∷ xs) h f =
    let most = a_at_least x low h.0 in
    let other : x.a ≢ low.a = λ e. f (has_first x.a low.a (words xs) e) in (
      omega (arith, most, other),
      least_above low xs h.1 (λ there. f (has_rest x.a low.a (words xs) there)),
    )

pub ascending_climbs : (xs : List Record) → IsAscending xs → Unlike (words xs) → Climbs xs
ascending_climbs [] h u = tt
ascending_climbs (x ∷ xs) h u = (least_above x xs h.0 u.0, ascending_climbs xs h.1 u.1)

-- Records with unlike words climb in order.
pub order_climbs : (xs : List Record) → Unlike (words xs) → Climbs (in_order xs)
order_climbs xs u = ascending_climbs (in_order xs) (order_ascends xs)
    (few_unlike (words (in_order xs)) (λ v.
    omega (arith, times_order v xs, unlike_few (words xs) u v)))
