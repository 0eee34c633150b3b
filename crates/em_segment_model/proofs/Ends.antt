-- An interval that goes down into a strip has an end there, and it has at most two ends in all: so the pieces
-- of one level are at most twice the intervals.
use Rattle.std.proofs.Common.{◌≡◌, ℕ, ◌+◌, ◌*◌, ◌<◌, ◌≤◌, Bool, true, false, List, [], ◌∷◌, length, refl, arith, ⊎_elim, ◌⊎◌, inl, inr}
use Rattle.std.proofs.lemmas.Bool.{cases_Bool}
use Rattle.std.proofs.lemmas.Bool.Decides.{nat_tests}
use Rattle.std.proofs.lemmas.List.Sums.{sum_by-cons}
use Rattle.std.specs.Prelude.{◌&&◌, not, if◌then◌else◌, nat_lt, nat_le, filter}
use Rattle.std.specs.List.{sum_by}
use Rattle.em_model.specs.Stab.{NumberedInterval}
use Rattle.em_segment_model.specs.Pieces.{Strip, AllWithin, Before, AreStrips, left_of, right_of, goes_down, ends}
use Rattle.em_segment_model.specs.Spans.{ends_in}
use Rattle.em_segment_model.proofs.Sums.{sum-less, sum-two, sum-zero}

-- a cut of an interval lies within the strip
abbrev pub inside : Strip → ℕ → ℕ
inside z e = if nat_lt z.from e && nat_lt e z.to then 1 else 0

-- what goes down has an end in the strip
pub down-ends : (z : Strip) (i : NumberedInterval) → goes_down z i ≡ true → 1 ≤ ends z i
down-ends z i h = one_of _ _ (no_end z.from z.to (left_of i) (right_of i) h)
  where
    no_end : (c d l h : ℕ) → ((nat_lt l d && nat_lt c h) && not (nat_le l c && nat_le d h)) ≡ true
        → (nat_lt c l && nat_lt l d) ≡ false → (nat_lt c h && nat_lt h d) ≡ false → ⊥
    no_end c d l h m x y = grind (arith, nat_tests)

    one_of : (x y : Bool) → (x ≡ false → y ≡ false → ⊥)
        → 1 ≤ (if x then 1 else 0) + (if y then 1 else 0)
    one_of true true n = omega arith
    one_of true false n = omega arith
    one_of false true n = omega arith
    one_of false false n = absurd (n refl refl)

-- a cut before a strip's end is within no later strip
inside_none : (z : Strip) (zs : List Strip) (e : ℕ) → e < z.to → Before z zs → sum_by (λ y. inside y e) zs ≡ 0
inside_none z [] e h b = refl
inside_none z (y ∷ ys) e h (one, rest) =
    let c = sum_by-cons (λ y. inside y e) y ys in
    let r = inside_none z ys e h rest in
    let n : inside y e ≡ 0 = outside y e (omega (arith, one)) in
    omega arith
  where
    outside : (y : Strip) (e : ℕ) → e ≤ y.from → inside y e ≡ 0
    outside y e l = let t : nat_lt y.from e ≡ false = late y.from e l in rw t refl
      where
        late : (n b : ℕ) → b ≤ n → nat_lt n b ≡ false
        late n b h = grind (arith, nat_tests)

inside_or : (z : Strip) (e : ℕ) → (inside z e ≡ 0) ⊎ ((z.from < e) × (e < z.to) × (inside z e ≡ 1))
inside_or z e = by_test (nat_lt z.from e && nat_lt e z.to) refl
  where
    low_is : (c d e : ℕ) → (nat_lt c e && nat_lt e d) ≡ true → c < e
    low_is c d e t = grind (arith, nat_tests)

    high_is : (c d e : ℕ) → (nat_lt c e && nat_lt e d) ≡ true → e < d
    high_is c d e t = grind (arith, nat_tests)

    by_test : (b : Bool) → (nat_lt z.from e && nat_lt e z.to) ≡ b
        → (inside z e ≡ 0) ⊎ ((z.from < e) × (e < z.to) × (inside z e ≡ 1))
    by_test true t = inr (low_is z.from z.to e t, high_is z.from z.to e t, rw t refl)
    by_test false f = inl (rw f refl)

-- in strips in order it lies in at most one, and that is within the strip around them
pub inside_once : (o : Strip) (zs : List Strip) (e : ℕ) → AllWithin o zs → AreStrips zs
    → sum_by (λ z. inside z e) zs ≤ inside o e
inside_once o [] e w a = omega arith
inside_once o (z ∷ zs) e (one, rest) a =
    let c = sum_by-cons (λ y. inside y e) z zs in
    let r = inside_once o zs e rest a.1 in ⊎_elim
    (λ (n : inside z e ≡ 0). omega arith)
    (λ (s : (z.from < e) × (e < z.to) × (inside z e ≡ 1)).
    let n = inside_none z zs e s.1 a.0 in
    let x : inside o e ≡ 1 = wider o e (omega (arith, one, s)) (omega (arith, one, s)) in
    omega (arith, s))
    (inside_or z e)
  where
    wider : (o : Strip) (e : ℕ) → o.from < e → e < o.to → inside o e ≡ 1
    wider o e l h = let x = yes o.from e l in let y = yes e o.to h in rw (x, y) refl
      where
        yes : (a b : ℕ) → a < b → nat_lt a b ≡ true
        yes a b h = grind (arith, nat_tests)

-- the ends in the children are at most those in the node
pub ends_most : (o : Strip) (zs : List Strip) (i : NumberedInterval) → AllWithin o zs → AreStrips zs
    → sum_by (λ z. ends z i) zs ≤ ends o i
ends_most o zs i w a =
    let l = inside_once o zs (left_of i) w a in
    let r = inside_once o zs (right_of i) w a in
    let s = sum-two (λ z. inside z (left_of i)) (λ z. inside z (right_of i)) zs in
    omega (arith, l, r, s)

-- at most as many pieces go down into a strip as ends of the node's intervals lie there
pub pieces_most : (z : Strip) (is : List NumberedInterval) → length (filter (goes_down z) is) ≤ ends_in z is
pieces_most z [] = omega arith
pieces_most z (i ∷ is) =
    let r = pieces_most z is in let c = sum_by-cons (ends z) i is in ⊎_elim
    (λ (t : goes_down z i ≡ true). let d = down-ends z i t in rw t (omega arith))
    (λ (f : goes_down z i ≡ false). rw f (omega arith))
    (cases_Bool (goes_down z i))

-- dropping what doesn't go down takes no end away that is more than was there
pub ends_kept : (z : Strip) (is : List NumberedInterval) → ends_in z (filter (goes_down z) is) ≤ ends_in z is
ends_kept z [] = omega arith
ends_kept z (i ∷ is) =
    let r = ends_kept z is in let c = sum_by-cons (ends z) i is in ⊎_elim
    (λ (t : goes_down z i ≡ true).
    let d = sum_by-cons (ends z) i (filter (goes_down z) is) in rw t (omega arith))
    (λ (f : goes_down z i ≡ false). rw f (omega arith))
    (cases_Bool (goes_down z i))

all_ends : (o : Strip) (zs : List Strip) (is : List NumberedInterval) → AllWithin o zs → AreStrips zs
    → sum_by (λ z. ends_in z is) zs ≤ ends_in o is
all_ends o zs [] w a = let n = sum-zero zs in omega arith
all_ends o zs (i ∷ is) w a =
    let r = all_ends o zs is w a in
    let e = ends_most o zs i w a in
    let c = sum_by-cons (ends o) i is in
    let s = sum-two (λ z. ends z i) (λ z. ends_in z is) zs in
    let m = sum-less (λ z. ends_in z (i ∷ is)) (λ z. ends z i + ends_in z is) zs
    (λ z. let d = sum_by-cons (ends z) i is in omega arith) in
    omega arith

-- The potential of the children is at most that of the node.
pub children_most : (o : Strip) (zs : List Strip) (is : List NumberedInterval) → AllWithin o zs → AreStrips zs
    → sum_by (λ z. ends_in z (filter (goes_down z) is)) zs ≤ ends_in o is
children_most o zs is w a =
    let k = sum-less (λ z. ends_in z (filter (goes_down z) is)) (λ z. ends_in z is) zs (λ z. ends_kept z is) in
    let m = all_ends o zs is w a in
    omega arith

-- at the root: at most two ends for each interval
pub root_ends : (o : Strip) (is : List NumberedInterval) → ends_in o is ≤ 2 * length is
root_ends o [] = omega arith
root_ends o (i ∷ is) =
    let c = sum_by-cons (ends o) i is in let r = root_ends o is in
    let t = two (nat_lt o.from (left_of i) && nat_lt (left_of i) o.to) (nat_lt o.from (right_of i) && nat_lt (right_of i) o.to) in
    omega (arith, c, r, t)
  where
    two : (x y : Bool) → (if x then 1 else 0) + (if y then 1 else 0) ≤ 2
    two true true = omega arith
    two true false = omega arith
    two false true = omega arith
    two false false = omega arith

-- Each piece that goes down into a strip has an end there: what `answer` asks of its pieces.
pub pieces_below : (z : Strip) (is : List NumberedInterval)
    → length (filter (goes_down z) is) ≤ ends_in z (filter (goes_down z) is)
pieces_below z [] = omega arith
pieces_below z (i ∷ is) =
    let r = pieces_below z is in ⊎_elim
    (λ (t : goes_down z i ≡ true).
    let d = down-ends z i t in
    let c = sum_by-cons (ends z) i (filter (goes_down z) is) in rw t (omega arith))
    (λ (f : goes_down z i ≡ false). rw f r)
    (cases_Bool (goes_down z i))

-- All pieces that go down from a node are at most its ends.
pub down_most : (o : Strip) (zs : List Strip) (is : List NumberedInterval) → AllWithin o zs → AreStrips zs
    → sum_by (λ z. length (filter (goes_down z) is)) zs ≤ ends_in o is
down_most o zs is w a =
    let l = sum-less (λ z. length (filter (goes_down z) is)) (λ z. ends_in z is) zs (λ z. pieces_most z is) in
    let m = all_ends o zs is w a in omega arith
