-- The first points of an area, turned and put in order.
use Rattle.std.proofs.Common.{◌≡◌, ℕ, zero, suc, ◌+◌, ◌-◌, ◌<◌, ◌≤◌, ◌^◌, List, [], ◌∷◌, ◌++◌, length, map, take, drop, set, get_or, refl, sym, ap, subst, ◌∙◌, arith, length-append, length-drop}
use Rattle.std.proofs.lemmas.List.{append-nil, drop_all, length-map, length-take-le, take_all}
use Rattle.em_record.specs.Order.{in_order}
use Rattle.em_record.specs.declared.record.Record.{Record}
use Rattle.em_record.proofs.Order.{length_order}
use Rattle.em_segment_model.specs.Loads.{AllFit, late_record}

-- the first n records of a list turned, and the others as they were
abbrev pub turned : ℕ → List Record → List Record
turned n old = map late_record (take n old) ++ drop n old

turn_step : (old : List Record) (n : ℕ) (d : Record) → n < length old
    → set (turned n old) n (late_record (get_or (turned n old) n d)) ≡ turned (suc n) old
turn_step [] n d l = absurd (omega (arith, l))
turn_step (x ∷ xs) zero d l = refl
turn_step (x ∷ xs) (suc n) d l =
    ap (λ (ys : List Record). late_record x ∷ ys) (turn_step xs n d (omega (arith, l)))

-- One more is turned,
pub turn_next : (old mid new : List Record) (n : ℕ) (d : Record) → n < length old
    → mid ≡ turned n old → new ≡ set mid n (late_record (get_or mid n d)) → new ≡ turned (n + 1) old
turn_next old mid new n d l e h =
    let one : suc n ≡ n + 1 = omega arith in
    h ∙ (ap (λ (ys : List Record). set ys n (late_record (get_or ys n d))) e
    ∙ (turn_step old n d l ∙ ap (λ (m : ℕ). turned m old) one))

-- which stood there from the start,
turn_keeps : (old : List Record) (n : ℕ) (d : Record) → n < length old
    → get_or (turned n old) n d ≡ get_or old n d
turn_keeps [] n d l = absurd (omega (arith, l))
turn_keeps (x ∷ xs) zero d l = refl
turn_keeps (x ∷ xs) (suc n) d l = turn_keeps xs n d (omega (arith, l))

fit_step : (old : List Record) (n : ℕ) (d : Record) → n < length old → AllFit (take n old)
    → (get_or old n d).c ≤ 2 ^ 64 - 1 → AllFit (take (suc n) old)
fit_step [] n d l a f = absurd (omega (arith, l))
fit_step (x ∷ xs) zero d l a f = (f, tt)
fit_step (x ∷ xs) (suc n) d l (one, rest) f = (one, fit_step xs n d (omega (arith, l)) rest f)

-- and fits a word.
pub fit_next : (old mid : List Record) (n : ℕ) (d : Record) → n < length old → mid ≡ turned n old
    → AllFit (take n old) → (get_or mid n d).c ≤ 2 ^ 64 - 1 → AllFit (take (n + 1) old)
fit_next old mid n d l e a f =
    let one : suc n ≡ n + 1 = omega arith in
    let same : get_or mid n d ≡ get_or old n d =
    ap (λ (ys : List Record). get_or ys n d) e ∙ turn_keeps old n d l in
    subst (λ (m : ℕ). AllFit (take m old)) one
    (fit_step old n d l a (subst (λ (x : Record). x.c ≤ 2 ^ 64 - 1) same f))

front_is : (xs ys : List Record) (n : ℕ) → n ≡ length xs → take n (xs ++ ys) ≡ xs
front_is [] ys zero e = refl
front_is [] ys (suc n) e = absurd (omega (arith, e))
front_is (x ∷ xs) ys zero e = absurd (omega (arith, e))
front_is (x ∷ xs) ys (suc n) e =
    ap (λ (zs : List Record). x ∷ zs) (front_is xs ys n (omega (arith, e)))

-- What was turned stands first,
pub turned_front : (old mid : List Record) (n : ℕ) → n ≤ length old → mid ≡ turned n old
    → take n mid ≡ map late_record (take n old)
turned_front old mid n l e =
    let long = length-map (take n old) late_record ∙ length-take-le n old l in
    ap (take n) e ∙ front_is (map late_record (take n old)) (drop n old) n (sym long)

-- in as long a list,
pub turned_long : (old mid : List Record) (n : ℕ) → n ≤ length old → mid ≡ turned n old
    → length mid ≡ length old
turned_long old mid n l e =
    let all = ap (λ (xs : List Record). length xs) e in
    let sum = length-append (map late_record (take n old)) (drop n old) in
    let long = length-map (take n old) late_record ∙ length-take-le n old l in
    let rest = length-drop n old in
    omega (arith, all, sum, long, rest, l)

-- and so does what was put in order.
pub ordered_front : (old new : List Record) (n : ℕ) → n ≤ length old
    → new ≡ in_order (take n old) ++ drop n old → take n new ≡ in_order (take n old)
ordered_front old new n l e =
    let long = length_order (take n old) ∙ length-take-le n old l in
    ap (take n) e ∙ front_is (in_order (take n old)) (drop n old) n (sym long)

pub ordered_long : (old new : List Record) (n : ℕ) → n ≤ length old
    → new ≡ in_order (take n old) ++ drop n old → length new ≡ length old
ordered_long old new n l e =
    let all = ap (λ (xs : List Record). length xs) e in
    let sum = length-append (in_order (take n old)) (drop n old) in
    let long = length_order (take n old) ∙ length-take-le n old l in
    let rest = length-drop n old in
    omega (arith, all, sum, long, rest, l)

-- A part of a list that was lent whole comes back whole.
pub put_back : (old new : List Record) → length new ≡ length old
    → take (length old) (new ++ drop (length new) old) ≡ new
put_back old new e =
    ap (λ (xs : List Record). take (length old) (new ++ xs)) (drop_all (length new) old (omega (arith, e)))
    ∙ (ap (take (length old)) (append-nil new) ∙ take_all (length old) new (omega (arith, e)))
