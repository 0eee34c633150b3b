-- What all multislabs over a strip report is what the intervals that span the strip answer.
use Rattle.std.proofs.Common.{◌≡◌, ℕ, zero, suc, ◌+◌, ◌<◌, ◌≤◌, Bool, true, false, List, [], ◌∷◌, ◌++◌, length, refl, sym, ap, ◌∙◌, arith, ⊎_elim}
use Rattle.std.proofs.lemmas.Bool.{cases_Bool, cases_lt}
use Rattle.std.proofs.lemmas.Bool.Decides.{nat_tests}
use Rattle.std.proofs.lemmas.List.Sums.{sum_by-cons, sum_by-append}
use Rattle.std.specs.Prelude.{◌&&◌, ◌==◌, if◌then◌else◌, nat_le, nat_lt, filter}
use Rattle.std.specs.List.{sum_by}
use Rattle.em_model.specs.Stab.{NumberedInterval}
use Rattle.em_record.specs.declared.record.Record.{Record}
use Rattle.em_segment_model.specs.Pieces.{Asked, pairs_at, all_pairs, Strip, AreStrips, spans}
use Rattle.em_segment_model.specs.Slabs.{Slab, slab_of, slab_first, slab_width, in_slab, has_strip, slabs_at, slabs_from}
use Rattle.em_segment_model.proofs.Once.{worth, sum-pairs}
use Rattle.em_segment_model.proofs.Sums.{if-plus, if_so, sum-filter, sum-if, sum-same, sum-two}
use Rattle.em_segment_model.proofs.Slabs.{spans_at, slab_is}

-- what one multislab has of a weight that belongs to that of first strip a and width w
abbrev pub share : ℕ → ℕ → ℕ → Slab → ℕ
share a w x t = if_so (a == t.first && w == t.width) x

same_no : (a b : ℕ) → a < b → (a == b) ≡ false
same_no a b h = grind (arith, nat_tests)

more_no : (a b : ℕ) → b < a → (a == b) ≡ false
more_no a b h = grind (arith, nat_tests)

same_yes : (a b : ℕ) → a ≡ b → (a == b) ≡ true
same_yes a b h = grind (arith, nat_tests)

both_no : (x y : Bool) → y ≡ false → (x && y) ≡ false
both_no true y e = e
both_no false y e = refl

other_first : (a w x first n : ℕ) → (a == first) ≡ false → sum_by (share a w x) (slabs_at first n) ≡ 0
other_first a w x first zero e = refl
other_first a w x first (suc n) e =
    let r = other_first a w x first n e in
    let c = sum_by-cons (share a w x) (record { first = first; width = suc n }) (slabs_at first n) in
    let z : share a w x (record { first = first; width = suc n }) ≡ 0 = rw e refl in
    omega arith

wide_none : (w x first n : ℕ) → n < w → sum_by (share first w x) (slabs_at first n) ≡ 0
wide_none w x first zero h = refl
wide_none w x first (suc n) h =
    let r = wide_none w x first n (omega arith) in
    let c = sum_by-cons (share first w x) (record { first = first; width = suc n }) (slabs_at first n) in
    let e = both_no (first == first) (w == suc n) (more_no w (suc n) h) in
    let z : share first w x (record { first = first; width = suc n }) ≡ 0 = rw e refl in
    omega arith

-- at its first strip the multislab is there once
same_first : (w x first n : ℕ) → 0 < w → w ≤ n → sum_by (share first w x) (slabs_at first n) ≡ x
same_first w x first zero h l = absurd (omega arith)
same_first w x first (suc n) h l =
    let c = sum_by-cons (share first w x) (record { first = first; width = suc n }) (slabs_at first n) in
    let f = same_yes first first refl in ⊎_elim
    (λ (less : w < suc n).
    let r = same_first w x first n h (omega arith) in
    let e = both_no (first == first) (w == suc n) (same_no w (suc n) less) in
    let z : share first w x (record { first = first; width = suc n }) ≡ 0 = rw e refl in
    omega arith)
    (λ (most : suc n ≤ w).
    let r = wide_none w x first n (omega arith) in
    let e = same_yes w (suc n) (omega arith) in
    let z : share first w x (record { first = first; width = suc n }) ≡ x = rw (f, e) refl in
    omega arith)
    (cases_lt w (suc n))

below_none : (a w x first n : ℕ) → a < first → sum_by (share a w x) (slabs_from first n) ≡ 0
below_none a w x first zero h = refl
below_none a w x first (suc n) h =
    let s = sum_by-append (share a w x) (slabs_at first (suc n)) (slabs_from (first + 1) n) in
    let o = other_first a w x first (suc n) (same_no a first h) in
    let r = below_none a w x (first + 1) n (omega arith) in
    omega arith

-- Each multislab of the strips is there once.
pub slab_once : (a w x first n : ℕ) → first ≤ a → 0 < w → a + w ≤ first + n
    → sum_by (share a w x) (slabs_from first n) ≡ x
slab_once a w x first zero l h m = absurd (omega arith)
slab_once a w x first (suc n) l h m =
    let s = sum_by-append (share a w x) (slabs_at first (suc n)) (slabs_from (first + 1) n) in ⊎_elim
    (λ (more : first < a).
    let o = other_first a w x first (suc n) (more_no a first more) in
    let r = slab_once a w x (first + 1) n (omega arith) h (omega arith) in
    omega arith)
    (λ (same : a ≤ first).
    let e : a ≡ first = omega arith in
    let o = same_first w x first (suc n) h (omega arith) in
    let p : sum_by (share a w x) (slabs_at first (suc n)) ≡ x =
    ap (λ b. sum_by (share b w x) (slabs_at first (suc n))) e ∙ o in
    let r = below_none a w x (first + 1) n (omega arith) in
    omega arith)
    (cases_lt first a)

width_most : (zs : List Strip) (i : NumberedInterval) → slab_width zs i ≤ length zs
width_most [] i = omega arith
width_most (z ∷ zs) i = let r = width_most zs i in one (spans z i) (slab_width zs i) (length zs) r
  where
    one : (b : Bool) (w n : ℕ) → w ≤ n → (if b then 1 else 0) + w ≤ suc n
    one true w n h = omega arith
    one false w n h = omega arith

-- a multislab ends with the strips
pub slab_within : (zs : List Strip) (i : NumberedInterval) → slab_first zs i + slab_width zs i ≤ length zs
slab_within [] i = omega arith
slab_within (z ∷ zs) i =
    one (spans z i) (slab_first zs i) (slab_width zs i) (length zs) (slab_within zs i) (width_most zs i)
  where
    one : (b : Bool) (f w n : ℕ) → f + w ≤ n → w ≤ n
        → (if b then 0 else 1 + f) + ((if b then 1 else 0) + w) ≤ suc n
    one true f w n h m = omega arith
    one false f w n h m = omega arith

-- the weight of the multislabs over a strip, of one interval
abbrev over_strip : List Strip → ℕ → NumberedInterval → ℕ → Slab → ℕ
over_strip zs k i x t = if_so (has_strip t k) (if_so (in_slab zs t i) x)

-- A multislab counts over a strip if the interval's own multislab has the strip.
counts_same : (zs : List Strip) (k : ℕ) (i : NumberedInterval) (x : ℕ) (t : Slab)
    → over_strip zs k i x t ≡ if_so (has_strip (slab_of zs i) k) (share (slab_first zs i) (slab_width zs i) x t)
counts_same zs k i x t = by_tests (slab_first zs i) (slab_width zs i) t k x
  where
    is_same : (a b : ℕ) → (a == b) ≡ true → a ≡ b
    is_same a b e = grind (arith, nat_tests)

    halves : (p q : Bool) → (p && q) ≡ true → (p ≡ true) × (q ≡ true)
    halves true q e = (refl, e)
    halves false q e = absurd (no e)
      where
        no : false ≡ true → ⊥
        no e = cc

    zero_both : (b c : Bool) → if_so b 0 ≡ if_so c 0
    zero_both true true = refl
    zero_both true false = refl
    zero_both false true = refl
    zero_both false false = refl

    by_tests : (a w : ℕ) (t : Slab) (k x : ℕ)
        → if_so (has_strip t k) (if_so (a == t.first && w == t.width) x)
        ≡ if_so (has_strip (record { first = a; width = w }) k) (if_so (a == t.first && w == t.width) x)
    by_tests a w t k x = ⊎_elim
        (λ (e : (a == t.first && w == t.width) ≡ true).
        let h = halves (a == t.first) (w == t.width) e in
        let f : a ≡ t.first = is_same a t.first h.0 in
        let g : w ≡ t.width = is_same w t.width h.1 in
        rw (f, g) refl)
        (λ (e : (a == t.first && w == t.width) ≡ false). rw e (zero_both _ _))
        (cases_Bool (a == t.first && w == t.width))

-- one interval, over all multislabs
interval_once : (zs : List Strip) (k : ℕ) (i : NumberedInterval) (x : ℕ) → AreStrips zs
    → sum_by (over_strip zs k i x) (slabs_from 0 (length zs)) ≡ if_so (spans_at zs k i) x
interval_once zs k i x a =
    sum-same (over_strip zs k i x) _ (slabs_from 0 (length zs)) (counts_same zs k i x)
    ∙ sum-if (has_strip (slab_of zs i) k) (share (slab_first zs i) (slab_width zs i) x) (slabs_from 0 (length zs))
    ∙ here (slab_first zs i) (slab_width zs i) k (length zs) x (slab_within zs i)
    ∙ ap (λ b. if_so b x) (sym (slab_is zs k i a))
  where
    wide : (a w k : ℕ) → (nat_le a k && nat_lt k (a + w)) ≡ true → 0 < w
    wide a w k e = grind (arith, nat_tests)

    here : (a w k n x : ℕ) → a + w ≤ n
        → if_so (has_strip (record { first = a; width = w }) k) (sum_by (share a w x) (slabs_from 0 n))
        ≡ if_so (has_strip (record { first = a; width = w }) k) x
    here a w k n x h = ⊎_elim
        (λ (t : (nat_le a k && nat_lt k (a + w)) ≡ true).
        let o = slab_once a w x 0 n (omega arith) (wide a w k t) (omega arith) in rw (t, o) refl)
        (λ (f : (nat_le a k && nat_lt k (a + w)) ≡ false). rw f refl)
        (cases_Bool (nat_le a k && nat_lt k (a + w)))

-- what one multislab reports at a strip
abbrev pub slab_weighs : List Strip → ℕ → (NumberedInterval → ℕ) → List NumberedInterval → Slab → ℕ
slab_weighs zs k g is t = if_so (has_strip t k) (sum_by g (filter (in_slab zs t) is))

slab_more : (zs : List Strip) (k : ℕ) (g : NumberedInterval → ℕ) (i : NumberedInterval) (is : List NumberedInterval)
    (t : Slab) → slab_weighs zs k g (i ∷ is) t ≡ over_strip zs k i (g i) t + slab_weighs zs k g is t
slab_more zs k g i is t =
    let a = sum-filter (in_slab zs t) g (i ∷ is) in
    let b = sum-filter (in_slab zs t) g is in
    let c = sum_by-cons (λ j. if_so (in_slab zs t j) (g j)) i is in
    let e : sum_by g (filter (in_slab zs t) (i ∷ is)) ≡ if_so (in_slab zs t i) (g i) + sum_by g (filter (in_slab zs t) is) =
    omega arith in
    ap (if_so (has_strip t k)) e ∙ if-plus (has_strip t k) _ _

-- The multislabs over a strip report each interval that spans it once, and no other.
pub slabs_report : (zs : List Strip) (k : ℕ) (g : NumberedInterval → ℕ) (is : List NumberedInterval) → AreStrips zs
    → sum_by (slab_weighs zs k g is) (slabs_from 0 (length zs)) ≡ sum_by g (filter (spans_at zs k) is)
slabs_report zs k g [] a =
    sum-same (slab_weighs zs k g []) (λ _. 0) (slabs_from 0 (length zs)) (λ t. none (has_strip t k))
    ∙ sum-if false (λ (_ : Slab). 0) (slabs_from 0 (length zs))
  where
    none : (b : Bool) → if_so b 0 ≡ 0
    none true = refl
    none false = refl
slabs_report zs k g (i ∷ is) a =
    let r = slabs_report zs k g is a in
    let o = interval_once zs k i (g i) a in
    let m = sum-same (slab_weighs zs k g (i ∷ is)) (λ t. over_strip zs k i (g i) t + slab_weighs zs k g is t)
    (slabs_from 0 (length zs)) (slab_more zs k g i is) in
    let t = sum-two (over_strip zs k i (g i)) (slab_weighs zs k g is) (slabs_from 0 (length zs)) in
    let p = sum-filter (spans_at zs k) g (i ∷ is) in
    let q = sum-filter (spans_at zs k) g is in
    let c = sum_by-cons (λ j. if_so (spans_at zs k j) (g j)) i is in
    omega arith

-- The same for the pairs of some points.
pub strip_reported : (f : Record → ℕ) (zs : List Strip) (k : ℕ) (ps : List Asked) (is : List NumberedInterval)
    → AreStrips zs
    → sum_by (λ t. if_so (has_strip t k) (sum_by f (all_pairs ps (filter (in_slab zs t) is)))) (slabs_from 0 (length zs))
    ≡ sum_by f (all_pairs ps (filter (spans_at zs k) is))
strip_reported f zs k [] is a =
    sum-same _ (λ _. 0) (slabs_from 0 (length zs)) (λ t. none (has_strip t k))
    ∙ sum-if false (λ (_ : Slab). 0) (slabs_from 0 (length zs))
  where
    none : (b : Bool) → if_so b 0 ≡ 0
    none true = refl
    none false = refl
strip_reported f zs k (p ∷ ps) is a =
    let r = strip_reported f zs k ps is a in
    let o = slabs_report zs k (worth f p) is a in
    let q = sum-pairs f (filter (spans_at zs k) is) p in
    let e = sum_by-append f (pairs_at (filter (spans_at zs k) is) p) (all_pairs ps (filter (spans_at zs k) is)) in
    let m = sum-same
    (λ t. if_so (has_strip t k) (sum_by f (all_pairs (p ∷ ps) (filter (in_slab zs t) is))))
    (λ t. slab_weighs zs k (worth f p) is t + if_so (has_strip t k) (sum_by f (all_pairs ps (filter (in_slab zs t) is))))
    (slabs_from 0 (length zs)) (λ t. one_slab f zs k p ps is t) in
    let t = sum-two (slab_weighs zs k (worth f p) is)
    (λ t. if_so (has_strip t k) (sum_by f (all_pairs ps (filter (in_slab zs t) is)))) (slabs_from 0 (length zs)) in
    omega arith
  where
    one_slab : (f : Record → ℕ) (zs : List Strip) (k : ℕ) (p : Asked) (ps : List Asked) (is : List NumberedInterval)
        (t : Slab) → if_so (has_strip t k) (sum_by f (all_pairs (p ∷ ps) (filter (in_slab zs t) is)))
        ≡ slab_weighs zs k (worth f p) is t + if_so (has_strip t k) (sum_by f (all_pairs ps (filter (in_slab zs t) is)))
    one_slab f zs k p ps is t =
        let a = sum_by-append f (pairs_at (filter (in_slab zs t) is) p) (all_pairs ps (filter (in_slab zs t) is)) in
        let b = sum-pairs f (filter (in_slab zs t) is) p in
        let e : sum_by f (all_pairs (p ∷ ps) (filter (in_slab zs t) is))
        ≡ sum_by (worth f p) (filter (in_slab zs t) is) + sum_by f (all_pairs ps (filter (in_slab zs t) is)) =
        omega arith in
        ap (if_so (has_strip t k)) e ∙ if-plus (has_strip t k) _ _

-- the strip at its place
pub at_place : (xs : List Strip) (z : Strip) (ys : List Strip) (i : NumberedInterval)
    → spans_at (xs ++ z ∷ ys) (length xs) i ≡ spans z i
at_place [] z ys i = refl
at_place (x ∷ xs) z ys i = at_place xs z ys i
