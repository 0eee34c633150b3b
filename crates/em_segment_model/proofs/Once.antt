-- Each pair exactly once: the pairs of a strip are those of the intervals that span it, and those of the
-- intervals that go down into it.
use Rattle.std.proofs.Common.{◌≡◌, ℕ, ◌+◌, ◌*◌, Bool, true, false, List, [], ◌∷◌, refl, sym, ◌∙◌, arith, true≢false}
use Rattle.std.proofs.lemmas.Bool.Decides.{nat_tests}
use Rattle.std.proofs.lemmas.List.Sums.{sum_by-append}
use Rattle.std.specs.Prelude.{◌&&◌, not, filter}
use Rattle.std.specs.List.{sum_by}
use Rattle.em_record.specs.declared.record.Record.{Record}
use Rattle.em_model.specs.Stab.{NumberedInterval, holds_point}
use Rattle.em_segment_model.specs.Pieces.{Asked, answers, pair_of, pairs_at, all_pairs, Strip, Lies, AllLie, spans, meets, goes_down}
use Rattle.em_segment_model.proofs.Sums.{if_so, sum-both, sum-filter, sum-map}

-- an interval that spans a strip holds all its points
pub spans-holds : (z : Strip) (a : Asked) (i : NumberedInterval) → Lies z a → spans z i ≡ true
    → holds_point a.point i ≡ true
spans-holds z a i l s = grind (arith, nat_tests)

-- one that doesn't meet it holds none
pub holds-meets : (z : Strip) (a : Asked) (i : NumberedInterval) → Lies z a
    → holds_point a.point i ≡ true → meets z i ≡ true
holds-meets z a i l s = grind (arith, nat_tests)

both_no : (m : Bool) → (m && not true) ≡ false
both_no true = refl
both_no false = refl

-- an interval that spans a strip has no piece that goes down
pub spans-stays : (z : Strip) (i : NumberedInterval) → spans z i ≡ true → goes_down z i ≡ false
spans-stays z i s = rw s (both_no (meets z i))

-- An interval of which nothing spans the strip, and which holds one of its points, goes down.
pub holds-down : (z : Strip) (a : Asked) (i : NumberedInterval) → Lies z a → spans z i ≡ false
    → holds_point a.point i ≡ true → goes_down z i ≡ true
holds-down z a i l s h =
    let m = holds-meets z a i l h in rw (m, s) refl

-- In a strip of one value no piece goes down.
pub one_value-stays : (v : ℕ) (i : NumberedInterval)
    → goes_down (record { from = 2 * v; to = 2 * v + 1 }) i ≡ false
one_value-stays v i = grind (arith, nat_tests)

-- the same over tests alone: it spans, it meets, it holds, it answers
once_by : (s m h n : Bool) (w : ℕ) → (n ≡ true → h ≡ true) → (h ≡ true → m ≡ true)
    → if_so n w ≡ if_so s (if_so n w) + if_so (m && not s) (if_so n w)
once_by true true h n w f g = omega arith
once_by true false h n w f g = omega arith
once_by false true h n w f g = omega arith
once_by false false h false w f g = refl
once_by false false h true w f g = absurd (true≢false (sym (g (f refl))))

answers-holds : (a : Asked) (i : NumberedInterval) → answers a i ≡ true → holds_point a.point i ≡ true
answers-holds a i h = first_true (holds_point a.point i) _ h
  where
    first_true : (x y : Bool) → (x && y) ≡ true → x ≡ true
    first_true true y e = refl
    first_true false y e = cc

-- What a pair weighs.
abbrev pub worth : (Record → ℕ) → Asked → NumberedInterval → ℕ
worth f a i = if_so (answers a i) (f (pair_of a i))

-- each pair once: an interval answers a point of a strip by spanning the strip, or by going down
pub each_once : (f : Record → ℕ) (z : Strip) (a : Asked) (i : NumberedInterval) → Lies z a
    → worth f a i ≡ if_so (spans z i) (worth f a i) + if_so (goes_down z i) (worth f a i)
each_once f z a i l =
    once_by (spans z i) (meets z i) (holds_point a.point i) (answers a i) (f (pair_of a i))
    (λ h. answers-holds a i h) (λ h. holds-meets z a i l h)

-- what the pairs of a point weigh
pub sum-pairs : (f : Record → ℕ) (is : List NumberedInterval) (a : Asked)
    → sum_by f (pairs_at is a) ≡ sum_by (worth f a) is
sum-pairs f is a = sum-map (pair_of a) f (filter (answers a) is)
    ∙ sum-filter (answers a) (λ i. f (pair_of a i)) is

-- the same for the intervals that pass a test
pub sum-pairs_of : (f : Record → ℕ) (p : NumberedInterval → Bool) (is : List NumberedInterval) (a : Asked)
    → sum_by f (pairs_at (filter p is) a) ≡ sum_by (λ i. if_so (p i) (worth f a i)) is
sum-pairs_of f p is a = sum-pairs f (filter p is) a ∙ sum-filter p (worth f a) is

-- At one point of a strip.
point_parts : (f : Record → ℕ) (z : Strip) (is : List NumberedInterval) (a : Asked) → Lies z a
    → sum_by f (pairs_at is a)
    ≡ sum_by f (pairs_at (filter (spans z) is) a) + sum_by f (pairs_at (filter (goes_down z) is) a)
point_parts f z is a l =
    let x = sum-pairs f is a in
    let y = sum-pairs_of f (spans z) is a in
    let w = sum-pairs_of f (goes_down z) is a in
    let b = sum-both (worth f a) (λ i. if_so (spans z i) (worth f a i))
    (λ i. if_so (goes_down z i) (worth f a i)) is (λ i. each_once f z a i l) in
    omega arith

-- All pairs of a strip's points are those with the intervals that span it, and those of the child.
pub strip_parts : (f : Record → ℕ) (z : Strip) (ps : List Asked) (is : List NumberedInterval) → AllLie z ps
    → sum_by f (all_pairs ps is)
    ≡ sum_by f (all_pairs ps (filter (spans z) is)) + sum_by f (all_pairs ps (filter (goes_down z) is))
strip_parts f z [] is l = refl
strip_parts f z (a ∷ ps) is (one, rest) =
    let x = sum_by-append f (pairs_at is a) (all_pairs ps is) in
    let y = sum_by-append f (pairs_at (filter (spans z) is) a) (all_pairs ps (filter (spans z) is)) in
    let w = sum_by-append f (pairs_at (filter (goes_down z) is) a) (all_pairs ps (filter (goes_down z) is)) in
    let p = point_parts f z is a one in
    let r = strip_parts f z ps is rest in
    omega arith
