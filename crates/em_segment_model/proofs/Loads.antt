-- A load of points that stand latest first, against the list of a multislab. All pieces span the points' strip,
-- so that only numbers are compared, and reading stops at the first piece that no point was asked after.
use Rattle.std.proofs.Common.{◌≡◌, ℕ, ◌+◌, ◌-◌, ◌^◌, ◌<◌, ◌≤◌, Bool, true, false, cond, List, [], ◌∷◌, ◌++◌, length, take, get_or, map, refl, sym, ap, ◌∙◌, arith, ⊎_elim, length-append}
use Rattle.std.proofs.lemmas.Bool.{cases_Bool}
use Rattle.std.proofs.lemmas.Bool.Decides.{nat_tests}
use Rattle.std.proofs.lemmas.List.{append-nil, map-append}
use Rattle.std.proofs.lemmas.List.Elements.{filter-append, filter_more}
use Rattle.std.proofs.lemmas.List.Sums.{sum_by-cons}
use Rattle.std.specs.Prelude.{◌&&◌, if◌then◌else◌, nat_lt, filter}
use Rattle.std.specs.List.{sum_by}
use Rattle.em_record.specs.declared.record.Record.{Record}
use Rattle.em_record.specs.Order.{AtLeast, IsAscending, in_order}
use Rattle.em_record.proofs.OrderLaws.{ascends_apart}
use Rattle.em_model.specs.Ascending.{Ascend}
use Rattle.em_model.specs.Stab.{NumberedInterval}
use Rattle.em_model.specs.StabAnswers.{pair_record}
use Rattle.em_segment_model.specs.Alike.{Alike}
use Rattle.em_segment_model.specs.Loads.{AllFit, before_of, front_of, late_pairs, late_record, list_pairs}
use Rattle.em_segment_model.specs.Pieces.{pair_of}
use Rattle.em_segment_model.specs.Points.{asked_in, interval_in}
use Rattle.em_segment_model.specs.Reports.{later_pairs}
use Rattle.em_segment_model.proofs.Cuts.{word_least}
use Rattle.em_segment_model.proofs.Order.{order-alike}
use Rattle.em_segment_model.proofs.Sums.{if_so, sum-filter, sum-flat, sum-map, sum-same, sums-turned}

not_less : (n b : ℕ) → b ≤ n → nat_lt n b ≡ false
not_less n b h = grind (arith, nat_tests)

is_less : (n b : ℕ) → n < b → nat_lt n b ≡ true
is_less n b h = grind (arith, nat_tests)

less_is : (n b : ℕ) → nat_lt n b ≡ true → n < b
less_is n b h = grind (arith, nat_tests)

least_is : (n b : ℕ) → nat_lt n b ≡ false → b ≤ n
least_is n b h = grind (arith, nat_tests)

-- A point that is turned tells again how many intervals were given before it.
pub turned_back : (most c : ℕ) → c ≤ most → most - (most - c) ≡ c
turned_back most c h = omega (arith, h)

-- what the pair of a point and a number weighs, if the point was asked after it
abbrev late_worth : (Record → ℕ) → ℕ → Record → ℕ
late_worth f n r = if_so (nat_lt n r.c) (f (pair_record r.b n))

turned_worth : (f : Record → ℕ) (n : ℕ) (rs : List Record) → AllFit rs
    → sum_by (λ r. if_so (nat_lt n (before_of (late_record r))) (f (pair_record r.b n))) rs
    ≡ sum_by (late_worth f n) rs
turned_worth f n [] h = refl
turned_worth f n (r ∷ rs) (one, rest) =
    let e : before_of (late_record r) ≡ r.c = turned_back (2 ^ 64 - 1) r.c one in
    let c = sum_by-cons (λ (x : Record). if_so (nat_lt n (before_of (late_record x))) (f (pair_record x.b n))) r rs in
    let d = sum_by-cons (late_worth f n) r rs in
    let i = turned_worth f n rs rest in
    let g = ap (λ (b : ℕ). if_so (nat_lt n b) (f (pair_record r.b n))) e in
    omega (arith, c, d, i, g)

-- one number against the load
late_weighs : (f : Record → ℕ) (n : ℕ) (rs : List Record) → AllFit rs
    → sum_by f (late_pairs (in_order (map late_record rs)) n) ≡ sum_by (late_worth f n) rs
late_weighs f n rs h =
    let load = in_order (map late_record rs) in
    sum-map (λ (x : Record). pair_record x.b n) f (filter (λ x. nat_lt n (before_of x)) load)
    ∙ sum-filter (λ x. nat_lt n (before_of x)) (λ x. f (pair_record x.b n)) load
    ∙ (order-alike (map late_record rs)).weighs (λ x. if_so (nat_lt n (before_of x)) (f (pair_record x.b n)))
    ∙ sum-map late_record (λ x. if_so (nat_lt n (before_of x)) (f (pair_record x.b n))) rs
    ∙ turned_worth f n rs h

later_weighs : (f : Record → ℕ) (rs : List Record) (is : List NumberedInterval)
    → sum_by f (later_pairs (map asked_in rs) is)
    ≡ sum_by (λ r. sum_by (λ i. late_worth f i.number r) is) rs
later_weighs f rs is =
    sum-flat (λ a. map (pair_of a) (filter (λ i. nat_lt i.number a.before) is)) f (map asked_in rs)
    ∙ sum-map asked_in
    (λ a. sum_by f (map (pair_of a) (filter (λ i. nat_lt i.number a.before) is))) rs
    ∙ sum-same
    (λ r. sum_by f (map (pair_of (asked_in r)) (filter (λ i. nat_lt i.number r.c) is)))
    (λ r. sum_by (λ i. late_worth f i.number r) is) rs
    (λ r. sum-map (pair_of (asked_in r)) f (filter (λ i. nat_lt i.number r.c) is)
    ∙ sum-filter (λ i. nat_lt i.number r.c) (λ i. f (pair_of (asked_in r) i)) is)

-- The load's pairs with a list are those of its points with the list's intervals.
pub list_weighs : (f : Record → ℕ) (rs pieces : List Record) → AllFit rs
    → sum_by f (list_pairs (in_order (map late_record rs)) pieces)
    ≡ sum_by f (later_pairs (map asked_in rs) (map interval_in pieces))
list_weighs f rs pieces h =
    let load = in_order (map late_record rs) in
    sum-flat (λ x. late_pairs load x.c) f pieces
    ∙ sum-same (λ x. sum_by f (late_pairs load x.c)) (λ x. sum_by (late_worth f x.c) rs) pieces
    (λ x. late_weighs f x.c rs h)
    ∙ sums-turned (λ x r. late_worth f x.c r) pieces rs
    ∙ sum-same (λ r. sum_by (λ x. late_worth f x.c r) pieces)
    (λ r. sum_by (λ i. late_worth f i.number r) (map interval_in pieces)) rs
    (λ r. sym (sum-map interval_in (λ i. late_worth f i.number r) pieces))
    ∙ sym (later_weighs f rs (map interval_in pieces))

-- each point was asked after at most c intervals
abbrev NoneLater : ℕ → List Record → Type 0
NoneLater c [] = Unit {0}
NoneLater c (x ∷ xs) = (before_of x ≤ c) × NoneLater c xs

none_after : (x : Record) (xs : List Record) → AtLeast x xs → NoneLater (before_of x) xs
none_after x [] h = tt
none_after x (y ∷ ys) (one, rest) =
    let w = word_least x y one in
    (fewer (2 ^ 64 - 1) x.a y.a w, none_after x ys rest)
  where
    fewer : (most a b : ℕ) → a ≤ b → most - b ≤ most - a
    fewer most a b h = omega (arith, h)

late_none : (c n : ℕ) (load : List Record) → c ≤ n → NoneLater c load → late_pairs load n ≡ []
late_none c n [] h s = refl
late_none c n (x ∷ xs) h (one, rest) =
    let e = not_less n (before_of x) (omega (arith, one, h)) in
    let r = late_none c n xs h rest in
    rw e r

abbrev number_of : NumberedInterval → ℕ
number_of i = i.number

list_none : (c low : ℕ) (load pieces : List Record) (high : ℕ) → c ≤ low → NoneLater c load
    → Ascend number_of low (map interval_in pieces) high → list_pairs load pieces ≡ []
list_none c low load [] high h s a = refl
list_none c low load (x ∷ xs) high h s (first, rest) =
    ap (λ t. t ++ list_pairs load xs) (late_none c x.c load (omega (arith, h, first)) s)
    ∙ list_none c (x.c + 1) load xs high (omega (arith, h, first)) s rest

front_late : (c low : ℕ) (load pieces : List Record) (high : ℕ) → NoneLater c load
    → Ascend number_of low (map interval_in pieces) high
    → list_pairs load (front_of c pieces) ≡ list_pairs load pieces
front_late c low load [] high s a = refl
front_late c low load (x ∷ xs) high s (first, rest) = ⊎_elim
    (λ (t : nat_lt x.c c ≡ true).
    rw t (ap (λ r. late_pairs load x.c ++ r) (front_late c (x.c + 1) load xs high s rest)))
    (λ (f : nat_lt x.c c ≡ false).
    rw f (sym (list_none c x.c load (x ∷ xs) high (least_is x.c c f) s (omega arith, rest))))
    (cases_Bool (nat_lt x.c c))

-- Reading up to the first piece that the latest point wasn't asked after loses no pair.
pub front_reported : (rs pieces : List Record) (x : Record) (xs : List Record) (low high : ℕ)
    → AllFit rs → in_order (map late_record rs) ≡ x ∷ xs
    → IsAscending (x ∷ xs) → Ascend number_of low (map interval_in pieces) high
    → Alike (list_pairs (x ∷ xs) (front_of (before_of x) pieces))
    (later_pairs (map asked_in rs) (map interval_in pieces))
front_reported rs pieces x xs low high b e a n = record {
  weighs = λ f.
      let same : before_of x ≤ before_of x = omega arith in
      ap (sum_by f) (front_late (before_of x) low (x ∷ xs) pieces high (same, none_after x xs a.0) n)
      ∙ ap (λ load. sum_by f (list_pairs load pieces)) (sym e)
      ∙ list_weighs f rs pieces b;
}

-- Each piece that is read, up to there, makes a pair with the latest point.
pub front_paid : (x : Record) (xs pieces : List Record) → front_of (before_of x) pieces ≡ pieces
    → length pieces ≤ length (list_pairs (x ∷ xs) pieces)
front_paid x xs [] h = omega arith
front_paid x xs (p ∷ pieces) h = ⊎_elim
    (λ (t : nat_lt p.c (before_of x) ≡ true).
    let r = front_paid x xs pieces (rest t) in
    let one = first t in
    let e = length-append (late_pairs (x ∷ xs) p.c) (list_pairs (x ∷ xs) pieces) in
    omega (arith, r, one, e))
    (λ (f : nat_lt p.c (before_of x) ≡ false). absurd (no f))
    (cases_Bool (nat_lt p.c (before_of x)))
  where
    rest : nat_lt p.c (before_of x) ≡ true → front_of (before_of x) pieces ≡ pieces
    rest t = let u : p ∷ front_of (before_of x) pieces ≡ p ∷ pieces = sym (one t) ∙ h in cc
      where
        one : nat_lt p.c (before_of x) ≡ true
            → front_of (before_of x) (p ∷ pieces) ≡ p ∷ front_of (before_of x) pieces
        one t = rw t refl

    no : nat_lt p.c (before_of x) ≡ false → ⊥
    no f = let u : [] ≡ p ∷ pieces = sym (none f) ∙ h in cc
      where
        none : nat_lt p.c (before_of x) ≡ false → front_of (before_of x) (p ∷ pieces) ≡ []
        none f = rw f refl

    first : nat_lt p.c (before_of x) ≡ true → 1 ≤ length (late_pairs (x ∷ xs) p.c)
    first t = rw t (omega arith)

-- One piece more of the front, and the piece at which it ends.
front_app : (n : ℕ) (xs ys : List Record) → front_of n xs ≡ xs → front_of n (xs ++ ys) ≡ xs ++ front_of n ys
front_app n [] ys h = refl
front_app n (x ∷ xs) ys h = ⊎_elim
    (λ (t : nat_lt x.c n ≡ true). rw t (ap (λ r. x ∷ r) (front_app n xs ys (rest t))))
    (λ (f : nat_lt x.c n ≡ false). absurd (no f))
    (cases_Bool (nat_lt x.c n))
  where
    rest : nat_lt x.c n ≡ true → front_of n xs ≡ xs
    rest t = let u : x ∷ front_of n xs ≡ x ∷ xs = sym (one t) ∙ h in cc
      where
        one : nat_lt x.c n ≡ true → front_of n (x ∷ xs) ≡ x ∷ front_of n xs
        one t = rw t refl

    no : nat_lt x.c n ≡ false → ⊥
    no f = let u : [] ≡ x ∷ xs = sym (none f) ∙ h in cc
      where
        none : nat_lt x.c n ≡ false → front_of n (x ∷ xs) ≡ []
        none f = rw f refl

pub front_goes : (n : ℕ) (xs : List Record) (y : Record) → front_of n xs ≡ xs → y.c < n
    → front_of n (xs ++ y ∷ []) ≡ xs ++ y ∷ []
front_goes n xs y h l =
    let t = is_less y.c n l in front_app n xs (y ∷ []) h ∙ rw t refl

pub front_ends : (n : ℕ) (xs : List Record) (y : Record) (ys : List Record) → front_of n xs ≡ xs → n ≤ y.c
    → front_of n (xs ++ y ∷ ys) ≡ xs
front_ends n xs y ys h l =
    let f = not_less y.c n l in front_app n xs (y ∷ ys) h ∙ rw f (append-nil xs)

-- One point of the load more, and the point at which a piece's pairs end.
pub late_next : (load : List Record) (k n : ℕ) (d : Record) → k < length load
    → late_pairs (take (k + 1) load) n
    ≡ late_pairs (take k load) n
    ++ (if nat_lt n (before_of (get_or load k d)) then pair_record (get_or load k d).b n ∷ [] else [])
late_next load k n d h =
    ap (map (λ x. pair_record x.b n)) (filter_more (λ x. nat_lt n (before_of x)) load k d h)
    ∙ map-append (λ x. pair_record x.b n) (filter (λ x. nat_lt n (before_of x)) (take k load))
    (cond (nat_lt n (before_of (get_or load k d))) (get_or load k d ∷ []) [])
    ∙ ap (λ t. late_pairs (take k load) n ++ t) (single (nat_lt n (before_of (get_or load k d))))
  where
    single : (b : Bool)
        → map (λ (x : Record). pair_record x.b n) (cond b (get_or load k d ∷ []) [])
        ≡ (if b then pair_record (get_or load k d).b n ∷ [] else [])
    single true = refl
    single false = refl

late_append : (xs ys : List Record) (n : ℕ) → late_pairs (xs ++ ys) n ≡ late_pairs xs n ++ late_pairs ys n
late_append xs ys n =
    ap (map (λ x. pair_record x.b n)) (filter-append (λ x. nat_lt n (before_of x)) xs ys)
    ∙ map-append (λ x. pair_record x.b n) (filter (λ x. nat_lt n (before_of x)) xs)
    (filter (λ x. nat_lt n (before_of x)) ys)

pub late_ends : (xs : List Record) (y : Record) (ys : List Record) (n : ℕ) → IsAscending (xs ++ y ∷ ys)
    → before_of y ≤ n → late_pairs (xs ++ y ∷ ys) n ≡ late_pairs xs n
late_ends xs y ys n a h =
    let s = ascends_apart xs (y ∷ ys) a in
    let same : before_of y ≤ before_of y = omega arith in
    late_append xs (y ∷ ys) n
    ∙ ap (λ t. late_pairs xs n ++ t)
    (late_none (before_of y) n (y ∷ ys) h (same, none_after y ys s.1.0))
    ∙ append-nil (late_pairs xs n)
