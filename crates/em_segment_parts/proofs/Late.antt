-- The pairs of a load with one piece, point by point.
use Rattle.std.proofs.Common.{◌≡◌, ℕ, suc, ◌+◌, ◌<◌, ◌≤◌, true, List, [], ◌∷◌, ◌++◌, length, take, drop, drop-cons, get_or, map, refl, sym, ap, ◌∙◌, subst, arith, length-append}
use Rattle.std.proofs.lemmas.Bool.Decides.{nat_tests}
use Rattle.std.proofs.lemmas.List.{map-append, take-append-drop}
use Rattle.std.proofs.lemmas.List.Elements.{filter-append}
use Rattle.std.specs.Prelude.{nat_lt, filter}
use Rattle.em_record.specs.declared.record.Record.{Record}
use Rattle.em_record.specs.Order.{IsAscending}
use Rattle.em_model.specs.StabAnswers.{pair_record}
use Rattle.em_segment_model.specs.Loads.{before_of, late_pairs}
use Rattle.em_segment_model.proofs.Loads.{late_ends, late_next}
use Rattle.em_segment_parts.specs.Lists.{latest}

-- the test says what holds
pub is_less : (n b : ℕ) → n < b → nat_lt n b ≡ true
is_less n b h = grind (arith, nat_tests)

-- the next point was asked after the piece
pub late_more : (load : List Record) (k n : ℕ) (d : Record) → k < length load
    → n < before_of (get_or load k d)
    → late_pairs (take (k + 1) load) n
    ≡ late_pairs (take k load) n ++ pair_record (get_or load k d).b n ∷ []
late_more load k n d h l =
    let t = is_less n (before_of (get_or load k d)) l in late_next load k n d h ∙ rw t refl

late_append : (xs ys : List Record) (n : ℕ) → late_pairs (xs ++ ys) n ≡ late_pairs xs n ++ late_pairs ys n
late_append xs ys n =
    ap (map (λ (x : Record). pair_record x.b n)) (filter-append (λ (x : Record). nat_lt n (before_of x)) xs ys)
    ∙ map-append (λ (x : Record). pair_record x.b n) (filter (λ (x : Record). nat_lt n (before_of x)) xs)
    (filter (λ (x : Record). nat_lt n (before_of x)) ys)

-- its pair is one of all
pub late_within : (load : List Record) (k n : ℕ) (d : Record) → k < length load
    → n < before_of (get_or load k d)
    → length (late_pairs (take k load) n) + 1 ≤ length (late_pairs load n)
late_within load k n d h l =
    let m = ap (λ (xs : List Record). length xs) (late_more load k n d h l) in
    let one = length-append (late_pairs (take k load) n) (pair_record (get_or load k d).b n ∷ []) in
    let whole = ap (λ (xs : List Record). length (late_pairs xs n)) (take-append-drop (k + 1) load) in
    let parts = ap (λ (xs : List Record). length xs)
    (late_append (take (k + 1) load) (drop (k + 1) load) n) in
    let sum = length-append (late_pairs (take (k + 1) load) n) (late_pairs (drop (k + 1) load) n) in
    omega (arith, m, one, whole, parts, sum)

-- The next point wasn't: none after it was.
pub late_done : (load : List Record) (k n : ℕ) (d : Record) → k < length load → IsAscending load
    → before_of (get_or load k d) ≤ n → late_pairs (take k load) n ≡ late_pairs load n
late_done load k n d h a l =
    let y = get_or load k d in
    let split : load ≡ take k load ++ y ∷ drop (suc k) load =
    sym (take-append-drop k load) ∙ ap (λ (xs : List Record). take k load ++ xs) (drop-cons load k d h) in
    let b : IsAscending (take k load ++ y ∷ drop (suc k) load) = subst IsAscending split a in
    sym (ap (λ (xs : List Record). late_pairs xs n) split
    ∙ late_ends (take k load) y (drop (suc k) load) n b l)

-- how many intervals came before the point that was asked last
pub latest_is : (load : List Record) (d : Record) → 0 < length load
    → before_of (get_or load 0 d) ≡ latest load
latest_is [] d h = absurd (omega (arith, h))
latest_is (x ∷ load) d h = refl
