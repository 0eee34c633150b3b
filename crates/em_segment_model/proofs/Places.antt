-- The places of multislabs: how many there are, and which one stands where.
use Rattle.std.proofs.Common.{◌≡◌, ℕ, zero, suc, ◌+◌, ◌-◌, ◌*◌, ◌/◌, ◌<◌, ◌≤◌, List, [], ◌∷◌, ◌++◌, length, refl, sym, ap, ◌∙◌, arith, length-append, append-nil, append_assoc, get_or, ⊎_elim}
use Rattle.std.proofs.lemmas.Bool.{cases_lt}
use Rattle.std.proofs.Math.Nat.{mul-le-mul_right}
use Rattle.em_segment_model.specs.Slabs.{Slab, slabs_at, slabs_from}
use Rattle.em_segment_model.specs.Places.{place_of}
use Rattle.em_segment_model.specs.Sizes.{IsRoot}

pub slabs_at-length : (first n : ℕ) → length (slabs_at first n) ≡ n
slabs_at-length first zero = refl
slabs_at-length first (suc n) = ap suc (slabs_at-length first n)

-- n strips have n (n + 1) / 2 multislabs
pub slabs_from-length : (first n : ℕ) → 2 * length (slabs_from first n) ≡ n * (n + 1)
slabs_from-length first zero = refl
slabs_from-length first (suc n) =
    let a = slabs_at-length first (suc n) in
    let r = slabs_from-length (first + 1) n in
    let e = length-append (slabs_at first (suc n)) (slabs_from (first + 1) n) in
    omega (arith, a, r, e)

pub at-front : {X : Type 0} (xs ys : List X) (k : ℕ) (d : X) → k < length xs → get_or (xs ++ ys) k d ≡ get_or xs k d
at-front [] ys k d h = absurd (omega arith)
at-front (x ∷ xs) ys zero d h = refl
at-front (x ∷ xs) ys (suc k) d h = at-front xs ys k d (omega arith)

pub at-back : {X : Type 0} (xs ys : List X) (k : ℕ) (d : X) → get_or (xs ++ ys) (length xs + k) d ≡ get_or ys k d
at-back [] ys k d = let e : 0 + k ≡ k = omega arith in ap (λ j. get_or ys j d) e
at-back (x ∷ xs) ys k d =
    let e : suc (length xs) + k ≡ suc (length xs + k) = omega arith in
    ap (λ j. get_or (x ∷ xs ++ ys) j d) e ∙ at-back xs ys k d

abbrev pub the_slab : ℕ → ℕ → Slab
the_slab a w = record { first = a; width = w }

at_width : (first n w : ℕ) (d : Slab) → 0 < w → w ≤ n
    → get_or (slabs_at first n) (n - w) d ≡ the_slab first w
at_width first zero w d h l = absurd (omega arith)
at_width first (suc n) w d h l = ⊎_elim
    (λ (less : w < suc n).
    let e : suc n - w ≡ suc (n - w) = omega arith in
    ap (λ j. get_or (slabs_at first (suc n)) j d) e ∙ at_width first n w d h (omega arith))
    (λ (same : suc n ≤ w).
    let e : w ≡ suc n = omega arith in
    let z : suc n - w ≡ 0 = omega arith in
    ap (λ j. get_or (slabs_at first (suc n)) j d) z
    ∙ ap (the_slab first) (sym e))
    (cases_lt w (suc n))

-- The multislab at its place.
pub slab_there : (first n a w : ℕ) (d : Slab) → 0 < w → a + w ≤ n
    → get_or (slabs_from first n) (place_of n a w) d ≡ the_slab (first + a) w
slab_there first zero zero w d h l = absurd (omega arith)
slab_there first zero (suc a) w d h l = absurd (omega arith)
slab_there first (suc n) zero w d h l =
    let e = slabs_at-length first (suc n) in
    let z : first ≡ first + 0 = omega arith in
    at-front (slabs_at first (suc n)) (slabs_from (first + 1) n) (suc n - w) d (omega (arith, e))
    ∙ at_width first (suc n) w d h (omega arith)
    ∙ ap (λ v. the_slab v w) z
slab_there first (suc n) (suc a) w d h l =
    let e = slabs_at-length first (suc n) in
    let p : suc n + place_of n a w ≡ length (slabs_at first (suc n)) + place_of n a w = omega (arith, e) in
    let z : first + 1 + a ≡ first + suc a = omega arith in
    ap (λ j. get_or (slabs_at first (suc n) ++ slabs_from (first + 1) n) j d) p
    ∙ at-back (slabs_at first (suc n)) (slabs_from (first + 1) n) (place_of n a w) d
    ∙ slab_there (first + 1) n a w d h (omega arith)
    ∙ ap (λ v. the_slab v w) z

-- how many multislabs begin with one of the first k of n strips
abbrev pub skipped : ℕ → ℕ → ℕ
skipped n zero = 0
skipped n (suc k) = skipped n k + (n - k)

skipped-next : (n a : ℕ) → skipped (suc n) (suc a) ≡ suc n + skipped n a
skipped-next n zero = omega arith
skipped-next n (suc a) =
    let r = skipped-next n a in
    let e : suc n - suc a ≡ n - a = omega arith in
    omega (arith, r, e)

-- The multislabs that begin earlier, and then the wider ones, stand before it.
pub place_same : (n a w : ℕ) → a + w ≤ n → skipped n a + (n - a - w) ≡ place_of n a w
place_same n zero w h = omega arith
place_same zero (suc a) w h = absurd (omega arith)
place_same (suc n) (suc a) w h =
    let r = place_same n a w (omega arith) in
    let s = skipped-next n a in
    let e : suc n - suc a - w ≡ n - a - w = omega arith in
    omega (arith, r, s, e)

-- The group has room: all multislabs and a list for each child are at most 2f members.
pub members_fit : (s w : ℕ) → IsRoot s w → 2 ≤ s → s * (s + 1) + 2 * s ≤ 2 * (2 * (2 * w))
members_fit s w r h =
    let m : 2 * s ≤ s * s = mul-le-mul_right s h in
    omega (arith, r.low, m)

-- The multislabs that begin with one strip more.
slabs_step : (first n : ℕ) → first < n
    → slabs_from first (n - first)
    ≡ slabs_at first (n - first) ++ slabs_from (first + 1) (n - (first + 1))
slabs_step first n h =
    let e : n - first ≡ suc (n - (first + 1)) = omega (arith, h) in
    ap (λ k. slabs_from first k) e
    ∙ ap (λ k. slabs_at first k ++ slabs_from (first + 1) (n - (first + 1))) (sym e)

pub slabs_more : (xs ys zs : List Slab) (first n : ℕ) → first < n
    → xs ++ slabs_from first (n - first) ≡ zs → ys ≡ xs ++ slabs_at first (n - first)
    → ys ++ slabs_from (first + 1) (n - (first + 1)) ≡ zs
slabs_more xs ys zs first n h e f =
    ap (λ t. t ++ slabs_from (first + 1) (n - (first + 1))) f
    ∙ append_assoc xs (slabs_at first (n - first)) (slabs_from (first + 1) (n - (first + 1)))
    ∙ ap (λ t. xs ++ t) (sym (slabs_step first n h)) ∙ e

pub slabs_done : (xs zs : List Slab) (first n : ℕ) → n ≤ first
    → xs ++ slabs_from first (n - first) ≡ zs → xs ≡ zs
slabs_done xs zs first n h e =
    let none : n - first ≡ 0 = omega (arith, h) in
    sym (append-nil xs) ∙ ap (λ k. xs ++ slabs_from first k) (sym none) ∙ e

-- One multislab more of those that begin with a strip.
slab_step : (first n less : ℕ) → less < n
    → slabs_at first (n - less) ≡ the_slab first (n - less) ∷ slabs_at first (n - (less + 1))
slab_step first n less h =
    let e : n - less ≡ suc (n - (less + 1)) = omega (arith, h) in
    ap (λ k. slabs_at first k) e
    ∙ ap (λ k. the_slab first k ∷ slabs_at first (n - (less + 1))) (sym e)

pub slab_more : (xs zs : List Slab) (first n less : ℕ) → less < n
    → xs ++ slabs_at first (n - less) ≡ zs
    → (xs ++ the_slab first (n - less) ∷ []) ++ slabs_at first (n - (less + 1)) ≡ zs
slab_more xs zs first n less h e =
    append_assoc xs (the_slab first (n - less) ∷ []) (slabs_at first (n - (less + 1)))
    ∙ ap (λ t. xs ++ t) (sym (slab_step first n less h)) ∙ e

pub slab_done : (xs zs : List Slab) (first n less : ℕ) → n ≤ less
    → xs ++ slabs_at first (n - less) ≡ zs → xs ≡ zs
slab_done xs zs first n less h e =
    let none : n - less ≡ 0 = omega (arith, h) in
    sym (append-nil xs) ∙ ap (λ k. xs ++ slabs_at first k) (sym none) ∙ e

-- There is room for all of them: they are as many as the places that were counted.
pub slabs_room : (a b first n total : ℕ) → first < n → b ≡ a + (n - first)
    → 2 * a + (n - first) * (n - first + 1) ≡ total
    → 2 * b + (n - (first + 1)) * (n - (first + 1) + 1) ≡ total
slabs_room a b first n total h e s =
    let k : n - first ≡ n - (first + 1) + 1 = omega (arith, h) in
    let t = ap (λ j. 2 * a + j * (j + 1)) k in
    by_numbers (n - (first + 1)) (omega (arith, e, k)) (sym t ∙ s)
  where
    by_numbers : (m : ℕ) → b ≡ a + (m + 1) → 2 * a + (m + 1) * (m + 1 + 1) ≡ total
        → 2 * b + m * (m + 1) ≡ total
    by_numbers m f g = omega (arith, f, g)

-- half of a number that is twice another
pub half_is : (x y : ℕ) → 2 * x ≡ y → 2 * (y / 2) ≡ y
half_is x y e = omega (arith, e)
