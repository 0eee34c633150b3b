-- The strips that an interval spans stand side by side, so one multislab says which they are.
use Rattle.std.proofs.Common.{◌≡◌, ℕ, zero, suc, ◌+◌, ◌<◌, ◌≤◌, Bool, true, false, List, [], ◌∷◌, ◌++◌, refl, sym, ap, ◌∙◌, arith, ⊎_elim}
use Rattle.std.proofs.lemmas.Bool.{cases_Bool}
use Rattle.std.proofs.lemmas.Bool.Decides.{nat_tests}
use Rattle.std.specs.Prelude.{◌&&◌, ◌==◌, if◌then◌else◌, nat_le, nat_lt}
use Rattle.em_model.specs.Stab.{NumberedInterval}
use Rattle.em_segment_model.specs.Pieces.{Strip, Before, AreStrips, left_of, spans}
use Rattle.em_segment_model.specs.Slabs.{Slab, has_strip, in_slab, slab_first, slab_of, slab_width}

-- is the strip at this place spanned?
abbrev pub spans_at : List Strip → ℕ → NumberedInterval → Bool
spans_at [] k i = false
spans_at (z ∷ zs) zero i = spans z i
spans_at (z ∷ zs) (suc k) i = spans_at zs k i

-- a strip that isn't spanned, though the interval begins before it, ends all that is spanned
none_spanned : (z : Strip) (zs : List Strip) (i : NumberedInterval) → left_of i ≤ z.from → spans z i ≡ false
    → Before z zs → slab_width zs i ≡ 0
none_spanned z [] i l s b = refl
none_spanned z (y ∷ ys) i l s (one, rest) =
    let e : spans y i ≡ false = not_this z y i l s one.0 one.1 in
    let r = none_spanned z ys i l s rest in rw e (omega arith)
  where
    not_this : (z y : Strip) (i : NumberedInterval) → left_of i ≤ z.from → spans z i ≡ false
        → z.from ≤ y.from → z.to ≤ y.to → spans y i ≡ false
    not_this z y i l s f t = grind (arith, nat_tests)

-- if the width is 0, no strip is spanned
no_width : (zs : List Strip) (k : ℕ) (i : NumberedInterval) → slab_width zs i ≡ 0 → spans_at zs k i ≡ false
no_width [] k i e = refl
no_width (z ∷ zs) zero i e = unspanned (spans z i) (slab_width zs i) e
  where
    unspanned : (b : Bool) (n : ℕ) → (if b then 1 else 0) + n ≡ 0 → b ≡ false
    unspanned true n e = absurd (omega arith)
    unspanned false n e = refl
no_width (z ∷ zs) (suc k) i e = no_width zs k i (rest (spans z i) (slab_width zs i) e)
  where
    rest : (b : Bool) (n : ℕ) → (if b then 1 else 0) + n ≡ 0 → n ≡ 0
    rest true n e = absurd (omega arith)
    rest false n e = omega arith

-- if the interval begins before all strips, it spans the first ones, as many as the width is
front_spanned : (z : Strip) (zs : List Strip) (k : ℕ) (i : NumberedInterval) → left_of i ≤ z.from
    → Before z zs → AreStrips zs → spans_at zs k i ≡ nat_lt k (slab_width zs i)
front_spanned z [] k i l b a = sym (no_less k)
  where
    no_less : (k : ℕ) → nat_lt k 0 ≡ false
    no_less k = grind (arith, nat_tests)
front_spanned z (y ∷ ys) zero i l b a = ⊎_elim
    (λ (t : spans y i ≡ true). rw t (sym (some (slab_width ys i))))
    (λ (f : spans y i ≡ false).
    let n = none_spanned y ys i (omega (arith, b.0.0)) f a.0 in rw (f, n) refl)
    (cases_Bool (spans y i))
  where
    some : (n : ℕ) → nat_lt 0 (1 + n) ≡ true
    some n = grind (arith, nat_tests)
front_spanned z (y ∷ ys) (suc k) i l b a =
    let r = front_spanned y ys k i (omega (arith, b.0.0)) a.0 a.1 in ⊎_elim
    (λ (t : spans y i ≡ true). rw (t, r) (sym (next k (slab_width ys i))))
    (λ (f : spans y i ≡ false).
    let n = none_spanned y ys i (omega (arith, b.0.0)) f a.0 in
    let w = no_width ys k i n in rw (w, f, n) (sym (no_less (suc k))))
    (cases_Bool (spans y i))
  where
    next : (k n : ℕ) → nat_lt (suc k) (1 + n) ≡ nat_lt k n
    next k n = grind (arith, nat_tests)

    no_less : (k : ℕ) → nat_lt k (0 + 0) ≡ false
    no_less k = grind (arith, nat_tests)

-- An interval spans exactly the strips of its multislab.
pub slab_is : (zs : List Strip) (k : ℕ) (i : NumberedInterval) → AreStrips zs
    → spans_at zs k i ≡ has_strip (slab_of zs i) k
slab_is [] k i a = sym (no_strip k)
  where
    no_strip : (k : ℕ) → (nat_le 0 k && nat_lt k (0 + 0)) ≡ false
    no_strip k = grind (arith, nat_tests)
slab_is (z ∷ zs) zero i a = ⊎_elim
    (λ (t : spans z i ≡ true). rw t (sym (some (slab_width zs i))))
    (λ (f : spans z i ≡ false). rw f (sym (none (slab_first zs i) _)))
    (cases_Bool (spans z i))
  where
    some : (n : ℕ) → (nat_le 0 0 && nat_lt 0 (0 + (1 + n))) ≡ true
    some n = grind (arith, nat_tests)

    none : (n : ℕ) (b : Bool) → (nat_le (1 + n) 0 && b) ≡ false
    none n b = ap (λ c. c && b) (late n)
      where
        late : (n : ℕ) → nat_le (1 + n) 0 ≡ false
        late n = grind (arith, nat_tests)
slab_is (z ∷ zs) (suc k) i a = let r = slab_is zs k i a.1 in ⊎_elim
    (λ (t : spans z i ≡ true).
    let s = front_spanned z zs k i (from_left z i t) a.0 a.1 in
    rw (t, s) (sym (first_some k (slab_width zs i))))
    (λ (f : spans z i ≡ false). rw (f, r) (sym (later k (slab_first zs i) (slab_width zs i))))
    (cases_Bool (spans z i))
  where
    from_left : (z : Strip) (i : NumberedInterval) → spans z i ≡ true → left_of i ≤ z.from
    from_left z i t = grind (arith, nat_tests)

    first_some : (k n : ℕ) → (nat_le 0 (suc k) && nat_lt (suc k) (0 + (1 + n))) ≡ nat_lt k n
    first_some k n = grind (arith, nat_tests)

    first_step : (k f : ℕ) → nat_le (1 + f) (suc k) ≡ nat_le f k
    first_step k f = grind (arith, nat_tests)

    last_step : (k f w : ℕ) → nat_lt (suc k) (1 + f + (0 + w)) ≡ nat_lt k (f + w)
    last_step k f w = grind (arith, nat_tests)

    later : (k f w : ℕ) → (nat_le (1 + f) (suc k) && nat_lt (suc k) (1 + f + (0 + w))) ≡ (nat_le f k && nat_lt k (f + w))
    later k f w = let x = first_step k f in let y = last_step k f w in rw (x, y) refl

-- What belongs to a multislab over a strip spans the strip.
pub listed_spans : (zs : List Strip) (t : Slab) (k : ℕ) (i : NumberedInterval) → AreStrips zs
    → has_strip t k ≡ true → in_slab zs t i ≡ true → spans_at zs k i ≡ true
listed_spans zs t k i a h n =
    slab_is zs k i a ∙ own (slab_first zs i) (slab_width zs i) t k n h
  where
    is_same : (m n : ℕ) → (m == n) ≡ true → m ≡ n
    is_same m n e = grind (arith, nat_tests)

    halves : (p q : Bool) → (p && q) ≡ true → (p ≡ true) × (q ≡ true)
    halves true q e = (refl, e)
    halves false q e = absurd (no e)
      where
        no : false ≡ true → ⊥
        no e = cc

    own : (a w : ℕ) (t : Slab) (k : ℕ) → (a == t.first && w == t.width) ≡ true → has_strip t k ≡ true
        → has_strip (record { first = a; width = w }) k ≡ true
    own a w t k e h =
        let p = halves (a == t.first) (w == t.width) e in
        let f = is_same a t.first p.0 in let g = is_same w t.width p.1 in rw (f, g) h

-- One strip more at the end.
pub width-push : (zs : List Strip) (z : Strip) (i : NumberedInterval)
    → slab_width (zs ++ z ∷ []) i ≡ slab_width zs i + (if spans z i then 1 else 0)
width-push [] z i = at_none (spans z i)
  where
    at_none : (b : Bool) → (if b then 1 else 0) + 0 ≡ 0 + (if b then 1 else 0)
    at_none true = omega arith
    at_none false = omega arith
width-push (y ∷ ys) z i = let r = width-push ys z i in
    by_tests (spans y i) (spans z i) (slab_width (ys ++ z ∷ []) i) (slab_width ys i) r
  where
    by_tests : (a b : Bool) (m n : ℕ) → m ≡ n + (if b then 1 else 0)
        → (if a then 1 else 0) + m ≡ (if a then 1 else 0) + n + (if b then 1 else 0)
    by_tests true true m n e = omega arith
    by_tests true false m n e = omega arith
    by_tests false true m n e = omega arith
    by_tests false false m n e = omega arith

-- if a strip was spanned before, the first one stays
pub first-stays : (zs : List Strip) (z : Strip) (i : NumberedInterval) → 0 < slab_width zs i
    → slab_first (zs ++ z ∷ []) i ≡ slab_first zs i
first-stays [] z i h = absurd (omega arith)
first-stays (y ∷ ys) z i h = ⊎_elim
    (λ (t : spans y i ≡ true). rw t refl)
    (λ (f : spans y i ≡ false).
    let w : 0 < slab_width ys i = unspanned (spans y i) (slab_width ys i) f h in
    let r = first-stays ys z i w in rw (f, r) refl)
    (cases_Bool (spans y i))
  where
    unspanned : (b : Bool) (n : ℕ) → b ≡ false → 0 < (if b then 1 else 0) + n → 0 < n
    unspanned true n e h = cc
    unspanned false n e h = omega arith

-- if none was, it counts on
pub first-push : (zs : List Strip) (z : Strip) (i : NumberedInterval) → slab_width zs i ≡ 0
    → slab_first (zs ++ z ∷ []) i ≡ slab_first zs i + (if spans z i then 0 else 1)
first-push [] z i h = at_none (spans z i)
  where
    at_none : (b : Bool) → (if b then 0 else 1 + 0) ≡ 0 + (if b then 0 else 1)
    at_none true = omega arith
    at_none false = omega arith
first-push (y ∷ ys) z i h = ⊎_elim
    (λ (t : spans y i ≡ true). absurd (some (spans y i) (slab_width ys i) t h))
    (λ (f : spans y i ≡ false).
    let w : slab_width ys i ≡ 0 = unspanned (spans y i) (slab_width ys i) f h in
    let r = first-push ys z i w in rw (f, r) (omega arith))
    (cases_Bool (spans y i))
  where
    some : (b : Bool) (n : ℕ) → b ≡ true → (if b then 1 else 0) + n ≡ 0 → ⊥
    some true n e h = omega arith
    some false n e h = cc

    unspanned : (b : Bool) (n : ℕ) → b ≡ false → (if b then 1 else 0) + n ≡ 0 → n ≡ 0
    unspanned true n e h = cc
    unspanned false n e h = omega arith
