-- Points that are cut by place: each strip is from the cut before its first value to the cut after its
-- last one.
use Rattle.std.proofs.Common.{◌≡◌, ℕ, ◌+◌, ◌*◌, ◌<◌, ◌≤◌, Less, false, List, [], ◌∷◌, ◌++◌, map, refl, ap, sym, ◌∙◌, arith, inl, inr, true≢false}
use Rattle.std.proofs.lemmas.Bool.{cases_lt}
use Rattle.std.proofs.lemmas.List.{map-append}
use Rattle.std.specs.Cmp.{nat_cmp_is}
use Rattle.std.specs.List.{flat_map}
use Rattle.std.specs.Ordering.{is_lt, nat_cmp, ordering_then}
use Rattle.em_record.specs.declared.record.Record.{Record}
use Rattle.em_record.specs.Order.{AtLeast, IsAscending, is_below}
use Rattle.em_segment_model.specs.Pieces.{AllLie, AllWithin, AreStrips, Before, Strip}
use Rattle.em_segment_model.specs.Points.{asked_in, joined}
use Rattle.em_segment_model.specs.Slabs.{AreParts, Part}
use Rattle.em_segment_model.specs.Spans.{AllSome, last_value, strip_at, value_span}

-- the words a of these records are at least this, and rise
abbrev pub Rise : ℕ → List Record → Type 0
Rise v [] = Unit {0}
Rise v (x ∷ xs) = (v ≤ x.a) × Rise x.a xs

-- a record that isn't below another one has no lesser word a
pub word_least : (x y : Record) → is_below y x ≡ false → x.a ≤ y.a
word_least x y e = elim (cases_lt y.a x.a) [
  | inl less ↦
      let rest = ordering_then (nat_cmp y.b x.b) (ordering_then (nat_cmp y.c x.c) (nat_cmp y.d x.d)) in
      let is : Less ≡ nat_cmp y.a x.a = nat_cmp_is y.a x.a Less less in
      absurd (true≢false (ap (λ o. is_lt (ordering_then o rest)) is ∙ e))
  | inr most ↦ most
]

rise_from : (x : Record) (xs : List Record) → AtLeast x xs → IsAscending xs → Rise x.a xs
rise_from x [] h a = tt
rise_from x (y ∷ ys) h a = (word_least x y h.0, rise_from y ys a.0 a.1)

-- The values of ascending records rise.
pub ascends_rise : (xs : List Record) → IsAscending xs → Rise 0 xs
ascends_rise [] a = tt
ascends_rise (x ∷ xs) a = (omega arith, rise_from x xs a.0 a.1)

last_least : (v : ℕ) (ps : List Record) → Rise v ps → v ≤ last_value v ps
last_least v [] r = omega arith
last_least v (x ∷ ps) (one, rest) = let l = last_least x.a ps rest in omega arith

last_append : (v : ℕ) (xs ys : List Record) → last_value v (xs ++ ys) ≡ last_value (last_value v xs) ys
last_append v [] ys = refl
last_append v (x ∷ xs) ys = last_append x.a xs ys

rise_split : (v : ℕ) (ps qs : List Record) → Rise v (ps ++ qs) → Rise v ps × Rise (last_value v ps) qs
rise_split v [] qs r = (tt, r)
rise_split v (x ∷ ps) qs (one, rest) = let s = rise_split x.a ps qs rest in ((one, s.0), s.1)

all_lie : (low v : ℕ) (ps : List Record) (high : ℕ) → low ≤ 2 * v → 2 * last_value v ps + 1 ≤ high
    → Rise v ps → AllLie (record { from = low; to = high }) (map asked_in ps)
all_lie low v [] high l h r = tt
all_lie low v (x ∷ ps) high l h (one, rest) =
    let m = last_least x.a ps rest in
    (record { low = omega arith; high = omega arith }, all_lie low x.a ps high (omega arith) h rest)

-- the strip of some points, and its points
abbrev pub part_in : List Record → Part
part_in ps = record { strip = strip_at (value_span ps); points = map asked_in ps }

-- Each list's points lie in its strip.
pub lists_are_parts : (v : ℕ) (pss : List (List Record)) → AllSome pss → Rise v (joined pss)
    → AreParts (map part_in pss)
lists_are_parts v [] s h = tt
lists_are_parts v ([] ∷ pss) (some, more) h = absurd (omega (arith, some))
lists_are_parts v ((x ∷ xs) ∷ pss) (some, more) (one, rest) =
    let s = rise_split x.a xs (joined pss) rest in
    let m = last_least x.a xs s.0 in (
      (
        record { low = omega arith; high = omega arith },
        all_lie (2 * x.a) x.a xs (2 * last_value x.a xs + 1) (omega arith) (omega arith) s.0,
      ),
      lists_are_parts (last_value x.a xs) pss more s.1,
    )

before_all : (z : Strip) (v : ℕ) (pss : List (List Record)) → z.from ≤ 2 * v → z.to ≤ 2 * v + 1
    → AllSome pss → Rise v (joined pss) → Before z (map strip_at (map value_span pss))
before_all z v [] f t s h = tt
before_all z v ([] ∷ pss) f t (some, more) h = absurd (omega (arith, some))
before_all z v ((x ∷ xs) ∷ pss) f t (some, more) (one, rest) =
    let s = rise_split x.a xs (joined pss) rest in
    let m = last_least x.a xs s.0 in (
      (omega arith, omega arith, omega arith),
      before_all z (last_value x.a xs) pss (omega arith) (omega arith) more s.1,
    )

-- The strips of the lists stand in order.
pub lists_are_strips : (v : ℕ) (pss : List (List Record)) → AllSome pss → Rise v (joined pss)
    → AreStrips (map strip_at (map value_span pss))
lists_are_strips v [] s h = tt
lists_are_strips v ([] ∷ pss) (some, more) h = absurd (omega (arith, some))
lists_are_strips v ((x ∷ xs) ∷ pss) (some, more) (one, rest) =
    let s = rise_split x.a xs (joined pss) rest in
    let m = last_least x.a xs s.0 in (
      before_all (strip_at (value_span (x ∷ xs))) (last_value x.a xs) pss (omega arith) (omega arith)
          more s.1,
      lists_are_strips (last_value x.a xs) pss more s.1,
    )

within_all : (o : Strip) (v : ℕ) (pss : List (List Record)) → o.from ≤ 2 * v → AllSome pss
    → Rise v (joined pss) → 2 * last_value v (joined pss) + 1 ≤ o.to
    → AllWithin o (map strip_at (map value_span pss))
within_all o v [] f s h t = tt
within_all o v ([] ∷ pss) f (some, more) h t = absurd (omega (arith, some))
within_all o v ((x ∷ xs) ∷ pss) f (some, more) (one, rest) t =
    let s = rise_split x.a xs (joined pss) rest in
    let m = last_least x.a xs s.0 in
    let n = last_least (last_value x.a xs) (joined pss) s.1 in
    let e = last_append x.a xs (joined pss) in (
      (omega (arith, f, one), omega (arith, n, e, t)),
      within_all o (last_value x.a xs) pss (omega (arith, f, one, m)) more s.1 (omega (arith, e, t)),
    )

-- The strips of the lists lie within the span of all points.
pub cuts_within : (pss : List (List Record)) → AllSome pss → Rise 0 (joined pss)
    → AllWithin (strip_at (value_span (joined pss))) (map strip_at (map value_span pss))
cuts_within [] s h = tt
cuts_within ([] ∷ pss) (some, more) h = absurd (omega (arith, some))
cuts_within ((x ∷ xs) ∷ pss) s (one, rest) =
    let same : x.a ≤ x.a = omega arith in
    within_all (strip_at (value_span (joined ((x ∷ xs) ∷ pss)))) x.a ((x ∷ xs) ∷ pss) (omega arith) s
    (same, rest) (omega arith)

-- the same strips, read off the parts
pub strips_same : (pss : List (List Record))
    → map (λ (p : Part). p.strip) (map part_in pss) ≡ map strip_at (map value_span pss)
strips_same [] = refl
strips_same (ps ∷ pss) = ap (λ zs. strip_at (value_span ps) ∷ zs) (strips_same pss)

pub points_same : (pss : List (List Record))
    → map (λ (p : Part). p.points) (map part_in pss) ≡ map (map asked_in) pss
points_same [] = refl
points_same (ps ∷ pss) = ap (λ t. map asked_in ps ∷ t) (points_same pss)

pub points_joined : (pss : List (List Record))
    → flat_map (λ (p : Part). p.points) (map part_in pss) ≡ map asked_in (joined pss)
points_joined [] = refl
points_joined (ps ∷ pss) =
    ap (λ t. map asked_in ps ++ t) (points_joined pss) ∙ sym (map-append asked_in ps (joined pss))
