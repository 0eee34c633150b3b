-- What a node's members get of the pieces that are dealt to them: each strip those that go down into it, and
-- each multislab those that span its strips and no other.
use Rattle.std.proofs.Common.{◌≡◌, ℕ, zero, suc, ◌+◌, ◌-◌, ◌*◌, ◌<◌, ◌≤◌, Bool, true, false, cond, List, [], ◌∷◌, ◌++◌, length, map, get_or, refl, sym, ap, ◌∙◌, arith, ⊎_elim, inl, inr, length-append, true≢false}
use Rattle.std.proofs.lemmas.Bool.{cases_Bool, cases_lt}
use Rattle.std.proofs.lemmas.Bool.Decides.{nat_tests}
use Rattle.std.proofs.lemmas.List.{append-nil, length-map}
use Rattle.std.proofs.lemmas.List.Sums.{sum_by-cons}
use Rattle.std.specs.Prelude.{◌&&◌, ◌==◌, if◌then◌else◌, filter}
use Rattle.std.specs.List.{flat_map, sum_by}
use Rattle.em_record.specs.declared.record.Record.{Record}
use Rattle.em_model.specs.Stab.{NumberedInterval}
use Rattle.em_segment_model.specs.Pieces.{Strip}
use Rattle.em_segment_model.specs.Places.{down_places, got_at, place_of, places_of, slab_place}
use Rattle.em_segment_model.specs.Points.{interval_in}
use Rattle.em_segment_model.specs.Reports.{is_listed}
use Rattle.em_segment_model.specs.Slabs.{Slab, in_slab, slab_first, slab_of, slab_width, slabs_at, slabs_from}
use Rattle.em_segment_model.specs.Spans.{strip_at, takes_piece}
use Rattle.em_segment_model.specs.declared.strip.Span.{Span}
use Rattle.em_segment_model.proofs.Places.{at-back, at-front, slab_there, slabs_at-length, the_slab}
use Rattle.em_segment_model.proofs.Reports.{slab_within}
use Rattle.em_segment_model.proofs.Sums.{if_so}

differ_less : (a b : ℕ) → a < b → (a == b) ≡ false
differ_less a b h = grind (arith, nat_tests)

differ_more : (a b : ℕ) → b < a → (a == b) ≡ false
differ_more a b h = grind (arith, nat_tests)

are_same : (a b : ℕ) → a ≡ b → (a == b) ≡ true
are_same a b h = grind (arith, nat_tests)

same_are : (a b : ℕ) → (a == b) ≡ true → a ≡ b
same_are a b h = grind (arith, nat_tests)

got_append : (j : ℕ) (r : Record) (ks ls : List ℕ) → got_at j r (ks ++ ls) ≡ got_at j r ks ++ got_at j r ls
got_append j r [] ls = refl
got_append j r (k ∷ ks) ls = kept (j == k) (got_append j r ks ls)
  where
    kept : (b : Bool) → got_at j r (ks ++ ls) ≡ got_at j r ks ++ got_at j r ls
        → cond b (r ∷ got_at j r (ks ++ ls)) (got_at j r (ks ++ ls))
        ≡ cond b (r ∷ got_at j r ks) (got_at j r ks) ++ got_at j r ls
    kept true e = ap (λ t. r ∷ t) e
    kept false e = e

-- the places of strips from this one on
down_before : (k : ℕ) (zs : List Span) (r : Record) (j : ℕ) → j < k → got_at j r (down_places k zs r) ≡ []
down_before k [] r j h = refl
down_before k (z ∷ zs) r j h =
    by_test (takes_piece z r) (down_before (suc k) zs r j (omega (arith, h)))
  where
    by_test : (b : Bool) → got_at j r (down_places (suc k) zs r) ≡ []
        → got_at j r (cond b (k ∷ down_places (suc k) zs r) (down_places (suc k) zs r)) ≡ []
    by_test true e = rw (differ_less j k h) e
    by_test false e = e

down_after : (k : ℕ) (zs : List Span) (r : Record) (j : ℕ) → k + length zs ≤ j
    → got_at j r (down_places k zs r) ≡ []
down_after k [] r j h = refl
down_after k (z ∷ zs) r j h =
    by_test (takes_piece z r) (down_after (suc k) zs r j (omega (arith, h)))
  where
    by_test : (b : Bool) → got_at j r (down_places (suc k) zs r) ≡ []
        → got_at j r (cond b (k ∷ down_places (suc k) zs r) (down_places (suc k) zs r)) ≡ []
    by_test true e = rw (differ_more j k (omega (arith, h))) e
    by_test false e = e

-- one record if a test holds
abbrev one_if : Bool → Record → List Record
one_if b r = if b then r ∷ [] else []

down_got : (k : ℕ) (zs : List Span) (r : Record) (i j : ℕ) (d : Span) → i ≡ k + j → j < length zs
    → got_at i r (down_places k zs r) ≡ one_if (takes_piece (get_or zs j d) r) r
down_got k [] r i j d e h = absurd (omega (arith, h))
down_got k (z ∷ zs) r i zero d e h =
    by_test (takes_piece z r) (down_before (suc k) zs r i (omega (arith, e)))
  where
    by_test : (b : Bool) → got_at i r (down_places (suc k) zs r) ≡ []
        → got_at i r (cond b (k ∷ down_places (suc k) zs r) (down_places (suc k) zs r)) ≡ one_if b r
    by_test true n = rw (are_same i k (omega (arith, e))) (ap (λ t. r ∷ t) n)
    by_test false n = n
down_got k (z ∷ zs) r i (suc j) d e h =
    by_test (takes_piece z r) (down_got (suc k) zs r i j d (omega (arith, e)) (omega (arith, h)))
  where
    by_test : (b : Bool)
        → got_at i r (down_places (suc k) zs r) ≡ one_if (takes_piece (get_or zs j d) r) r
        → got_at i r (cond b (k ∷ down_places (suc k) zs r) (down_places (suc k) zs r))
        ≡ one_if (takes_piece (get_or zs j d) r) r
    by_test true n = rw (differ_more i k (omega (arith, e))) n
    by_test false n = n

-- no multislab's place is that of a strip
slab_before : (n : ℕ) (t : Slab) (r : Record) (j : ℕ) → j < n → got_at j r (slab_place n t) ≡ []
slab_before n t r j h = by_test (t.width == 0)
  where
    by_test : (b : Bool) → got_at j r (cond b [] ((n + place_of n t.first t.width) ∷ [])) ≡ []
    by_test true = refl
    by_test false = rw (differ_less j (n + place_of n t.first t.width) (omega (arith, h))) refl

-- The multislab t stands at place p of those of n strips, of which the first has this place.
record StandsAt (first n p : ℕ) (t : Slab) : Type 0 where
  after : ℕ
  first_is : t.first ≡ first + after
  wide : 0 < t.width
  within : after + t.width ≤ n
  place : place_of n after t.width ≡ p

at_least_wide : (first n p : ℕ) (d : Slab) → p < n → get_or (slabs_at first n) p d ≡ the_slab first (n - p)
at_least_wide first zero p d h = absurd (omega (arith, h))
at_least_wide first (suc n) zero d h =
    ap (the_slab first) (let e : suc n ≡ suc n - 0 = omega arith in e)
at_least_wide first (suc n) (suc p) d h =
    at_least_wide first n p d (omega (arith, h))
    ∙ ap (the_slab first) (let e : n - p ≡ suc n - suc p = omega arith in e)

slab_back : (first n p : ℕ) (d : Slab) → p < length (slabs_from first n)
    → StandsAt first n p (get_or (slabs_from first n) p d)
slab_back first zero p d h = absurd (omega (arith, h))
slab_back first (suc n) p d h = elim (cases_lt p (suc n)) [
  | inl early ↦
      let l = slabs_at-length first (suc n) in
      let e : get_or (slabs_from first (suc n)) p d ≡ the_slab first (suc n - p) =
      at-front (slabs_at first (suc n)) (slabs_from (first + 1) n) p d (omega (arith, l, early))
      ∙ at_least_wide first (suc n) p d early in
      let f = ap (λ (t : Slab). t.first) e in
      let w : (get_or (slabs_from first (suc n)) p d).width ≡ suc n - p = ap (λ (t : Slab). t.width) e in
      record {
        after = 0;
        first_is = omega (arith, f);
        wide = omega (arith, w, early);
        within = omega (arith, w, early);
        place = omega (arith, w, early);
      }
  | inr late ↦
      let l = slabs_at-length first (suc n) in
      let k = length-append (slabs_at first (suc n)) (slabs_from (first + 1) n) in
      let q : p ≡ length (slabs_at first (suc n)) + (p - suc n) = omega (arith, l, late) in
      let e : get_or (slabs_from first (suc n)) p d ≡ get_or (slabs_from (first + 1) n) (p - suc n) d =
      ap (λ (j : ℕ). get_or (slabs_from first (suc n)) j d) q
      ∙ at-back (slabs_at first (suc n)) (slabs_from (first + 1) n) (p - suc n) d in
      let b = slab_back (first + 1) n (p - suc n) d (omega (arith, h, k, l, late)) in
      let f = ap (λ (t : Slab). t.first) e in
      let w : (get_or (slabs_from first (suc n)) p d).width
      ≡ (get_or (slabs_from (first + 1) n) (p - suc n) d).width = ap (λ (t : Slab). t.width) e in
      let g = ap (λ (v : ℕ). place_of n b.after v) w in
      record {
        after = suc b.after;
        first_is = omega (arith, f, b.first_is);
        wide = omega (arith, w, b.wide);
        within = omega (arith, w, b.within);
        place = omega (arith, g, b.place, late);
      }
]

-- the same over numbers: the interval's multislab is (f, w), the one at place p is t
got_slab : (n f w p : ℕ) (t : Slab) (r : Record) → t.first + t.width ≤ n → 0 < t.width
    → place_of n t.first t.width ≡ p
    → (0 < w → place_of n f w ≡ p → (f ≡ t.first) × (w ≡ t.width))
    → got_at (n + p) r (slab_place n (record { first = f; width = w }))
    ≡ one_if (f == t.first && w == t.width) r
got_slab n f w p t r l s e u = ⊎_elim
    (λ (both_are : (f == t.first && w == t.width) ≡ true).
    let h = halves (f == t.first) (w == t.width) both_are in
    let i : f ≡ t.first = same_are f t.first h.0 in
    let j : w ≡ t.width = same_are w t.width h.1 in
    rw both_are (at_place i j))
    (λ (differ : (f == t.first && w == t.width) ≡ false). rw differ (elsewhere (w == 0) refl differ))
    (cases_Bool (f == t.first && w == t.width))
  where
    halves : (x y : Bool) → (x && y) ≡ true → (x ≡ true) × (y ≡ true)
    halves true y e = (refl, e)
    halves false y e = absurd (true≢false (sym e))

    at_place : f ≡ t.first → w ≡ t.width
        → got_at (n + p) r (slab_place n (record { first = f; width = w })) ≡ r ∷ []
    at_place i j =
        let wide : (w == 0) ≡ false = differ_more w 0 (omega (arith, j, s)) in
        let there : place_of n f w ≡ p = ap (λ (a : ℕ). place_of n a w) i
        ∙ ap (λ (a : ℕ). place_of n t.first a) j ∙ e in
        let same : (n + p == n + place_of n f w) ≡ true =
        are_same (n + p) (n + place_of n f w) (omega (arith, there)) in
        rw wide (rw same refl)

    elsewhere : (b : Bool) → (w == 0) ≡ b → (f == t.first && w == t.width) ≡ false
        → got_at (n + p) r (cond b [] ((n + place_of n f w) ∷ [])) ≡ []
    elsewhere true z differ = refl
    elsewhere false z differ = ⊎_elim
        (λ (both_are : (n + p == n + place_of n f w) ≡ true).
        let same = same_are (n + p) (n + place_of n f w) both_are in
        let v = u (some w z) (omega (arith, same)) in
        absurd (true≢false (sym (both (are_same f t.first v.0) (are_same w t.width v.1)) ∙ differ)))
        (λ (other : (n + p == n + place_of n f w) ≡ false). rw other refl)
        (cases_Bool (n + p == n + place_of n f w))
      where
        some : (m : ℕ) → (m == 0) ≡ false → 0 < m
        some m z = grind (arith, nat_tests)

        both : {x y : Bool} → x ≡ true → y ≡ true → (x && y) ≡ true
        both i j = rw (i, j) refl

slab_got : (n : ℕ) (zs : List Strip) (i : NumberedInterval) (r : Record) (p : ℕ) (d : Slab)
    → n ≡ length zs → p < length (slabs_from 0 n)
    → got_at (n + p) r (slab_place n (slab_of zs i))
    ≡ one_if (in_slab zs (get_or (slabs_from 0 n) p d) i) r
slab_got n zs i r p d e h =
    let t = get_or (slabs_from 0 n) p d in
    let b = slab_back 0 n p d h in
    let first : b.after ≡ t.first = omega (arith, b.first_is) in
    let within = slab_within zs i in
    let place : place_of n t.first t.width ≡ p =
    ap (λ (a : ℕ). place_of n a t.width) (sym first) ∙ b.place in
    got_slab n (slab_first zs i) (slab_width zs i) p t r (omega (arith, first, b.within)) b.wide place
    (λ some there.
    let s = slab_there 0 n (slab_first zs i) (slab_width zs i) d some (omega (arith, e, within)) in
    let same : t ≡ the_slab (0 + slab_first zs i) (slab_width zs i) =
    ap (λ (q : ℕ). get_or (slabs_from 0 n) q d) (sym there) ∙ s in
    let f = ap (λ (x : Slab). x.first) same in
    let w = ap (λ (x : Slab). x.width) same in
    (omega (arith, f), omega (arith, w)))

flat_filter : (g : Record → List Record) (p : Record → Bool) (xs : List Record)
    → ((r : Record) → g r ≡ one_if (p r) r) → flat_map g xs ≡ filter p xs
flat_filter g p [] h = refl
flat_filter g p (x ∷ xs) h =
    ap (λ t. t ++ flat_map g xs) (h x) ∙ ap (λ t. one_if (p x) x ++ t) (flat_filter g p xs h)
    ∙ kept (p x)
  where
    kept : (b : Bool) → one_if b x ++ filter p xs ≡ cond b (x ∷ filter p xs) (filter p xs)
    kept true = refl
    kept false = refl

-- The member of a strip gets the pieces that go down into the strip.
pub strip_sent : (zs : List Span) (j : ℕ) (d : Span) (ps : List Record) → j < length zs
    → flat_map (λ r. got_at j r (places_of zs r)) ps ≡ filter (takes_piece (get_or zs j d)) ps
strip_sent zs j d ps h = flat_filter (λ r. got_at j r (places_of zs r)) (takes_piece (get_or zs j d)) ps
    (λ r.
    let t = slab_of (map strip_at zs) (interval_in r) in
    got_append j r (slab_place (length zs) t) (down_places 0 zs r)
    ∙ ap (λ x. x ++ got_at j r (down_places 0 zs r)) (slab_before (length zs) t r j h)
    ∙ down_got 0 zs r j j d (omega arith) h)

-- The member of a multislab gets the pieces that belong to it.
pub slab_sent : (zs : List Span) (p : ℕ) (d : Slab) (ps : List Record) → p < length (slabs_from 0 (length zs))
    → flat_map (λ r. got_at (length zs + p) r (places_of zs r)) ps
    ≡ filter (is_listed zs (get_or (slabs_from 0 (length zs)) p d)) ps
slab_sent zs p d ps h =
    flat_filter (λ r. got_at (length zs + p) r (places_of zs r))
    (is_listed zs (get_or (slabs_from 0 (length zs)) p d)) ps
    (λ r.
    let t = slab_of (map strip_at zs) (interval_in r) in
    got_append (length zs + p) r (slab_place (length zs) t) (down_places 0 zs r)
    ∙ ap (λ x. got_at (length zs + p) r (slab_place (length zs) t) ++ x)
    (down_after 0 zs r (length zs + p) (omega arith))
    ∙ append-nil (got_at (length zs + p) r (slab_place (length zs) t))
    ∙ slab_got (length zs) (map strip_at zs) (interval_in r) r p d (sym (length-map zs strip_at)) h)

slab_once : (n : ℕ) (t : Slab) → length (slab_place n t) ≤ 1
slab_once n t = by_test (t.width == 0)
  where
    by_test : (b : Bool) → length (cond b [] ((n + place_of n t.first t.width) ∷ [])) ≤ 1
    by_test true = omega arith
    by_test false = omega arith

down_few : (k : ℕ) (zs : List Span) (r : Record)
    → length (down_places k zs r) ≡ sum_by (λ z. if_so (takes_piece z r) 1) zs
down_few k [] r = refl
down_few k (z ∷ zs) r =
    let e = down_few (suc k) zs r in
    let c = sum_by-cons (λ (y : Span). if_so (takes_piece y r) 1) z zs in
    let t = by_test (takes_piece z r) in
    omega (arith, e, c, t)
  where
    by_test : (b : Bool)
        → length (cond b (k ∷ down_places (suc k) zs r) (down_places (suc k) zs r))
        ≡ if_so b 1 + length (down_places (suc k) zs r)
    by_test true = omega arith
    by_test false = omega arith

ones_most : (zs : List Span) (r : Record) → sum_by (λ z. if_so (takes_piece z r) 1) zs ≤ length zs
ones_most [] r = omega arith
ones_most (z ∷ zs) r =
    let e = ones_most zs r in
    let c = sum_by-cons (λ (y : Span). if_so (takes_piece y r) 1) z zs in
    let t = most (takes_piece z r) in
    omega (arith, e, c, t)
  where
    most : (b : Bool) → if_so b 1 ≤ 1
    most true = omega arith
    most false = omega arith

-- A piece is sent to its multislab, and to each strip at most once.
pub places_few : (zs : List Span) (r : Record) → length (places_of zs r) ≤ length zs + 1
places_few zs r =
    let t = slab_of (map strip_at zs) (interval_in r) in
    let a = length-append (slab_place (length zs) t) (down_places 0 zs r) in
    let s = slab_once (length zs) t in
    let d = down_few 0 zs r in
    let o = ones_most zs r in
    omega (arith, a, s, d, o)

kept_more : (z : Span) (r : Record) (ps : List Record)
    → length (filter (takes_piece z) (r ∷ ps)) ≡ if_so (takes_piece z r) 1 + length (filter (takes_piece z) ps)
kept_more z r ps = by_test (takes_piece z r)
  where
    by_test : (b : Bool)
        → length (cond b (r ∷ filter (takes_piece z) ps) (filter (takes_piece z) ps))
        ≡ if_so b 1 + length (filter (takes_piece z) ps)
    by_test true = omega arith
    by_test false = omega arith

-- All that is sent: each piece to a multislab, or not, and to the strips that it goes down into.
pub sent_few : (zs : List Span) (ps : List Record)
    → length (flat_map (places_of zs) ps)
    ≤ length ps + sum_by (λ z. length (filter (takes_piece z) ps)) zs
sent_few zs [] = omega arith
sent_few zs (r ∷ ps) =
    let t = slab_of (map strip_at zs) (interval_in r) in
    let a = length-append (slab_place (length zs) t) (down_places 0 zs r) in
    let b = length-append (places_of zs r) (flat_map (places_of zs) ps) in
    let s = slab_once (length zs) t in
    let d = down_few 0 zs r in
    let e = sent_few zs ps in
    let m = all_more zs in
    omega (arith, a, b, s, d, e, m)
  where
    all_more : (ys : List Span)
        → sum_by (λ z. length (filter (takes_piece z) (r ∷ ps))) ys
        ≡ sum_by (λ z. if_so (takes_piece z r) 1) ys
        + sum_by (λ z. length (filter (takes_piece z) ps)) ys
    all_more [] = refl
    all_more (z ∷ ys) =
        let f = all_more ys in
        let c = sum_by-cons (λ (y : Span). length (filter (takes_piece y) (r ∷ ps))) z ys in
        let g = sum_by-cons (λ (y : Span). if_so (takes_piece y r) 1) z ys in
        let h = sum_by-cons (λ (y : Span). length (filter (takes_piece y) ps)) z ys in
        let k = kept_more z r ps in
        omega (arith, f, c, g, h, k)

-- A list is the image of another one if it is at each place.
pub images_by_place : {A B : Type 0} (f : A → B) (xs : List A) (ys : List B) (d : A) (e : B)
    → length ys ≡ length xs
    → ((p : ℕ) → p < length xs → get_or ys p e ≡ f (get_or xs p d)) → ys ≡ map f xs
images_by_place f [] [] d e l h = refl
images_by_place f [] (y ∷ ys) d e l h = absurd (omega (arith, l))
images_by_place f (x ∷ xs) [] d e l h = absurd (omega (arith, l))
images_by_place f (x ∷ xs) (y ∷ ys) d e l h =
    ap (λ z. z ∷ ys) (h 0 (omega arith))
    ∙ ap (λ zs. f x ∷ zs)
    (images_by_place f xs ys d e (omega (arith, l)) (λ p less. h (suc p) (omega (arith, less))))
