-- The pairs of a leaf's load with one piece, point by point.
use Rattle.std.proofs.Common.{◌≡◌, ℕ, suc, ◌+◌, ◌<◌, ◌≤◌, true, List, [], ◌∷◌, ◌++◌, length, take, drop, drop-cons, get_or, map, refl, sym, ap, ◌∙◌, subst, arith, length-append}
use Rattle.std.proofs.lemmas.Bool.Decides.{nat_tests}
use Rattle.std.proofs.lemmas.List.{map-append, take-append-drop}
use Rattle.std.proofs.lemmas.List.Elements.{filter-append}
use Rattle.std.specs.Prelude.{if◌then◌else◌, nat_le, filter}
use Rattle.em_record.specs.declared.record.Record.{Record}
use Rattle.em_record.specs.Order.{IsAscending}
use Rattle.em_model.specs.StabAnswers.{pair_record}
use Rattle.em_segment_model.specs.Loads.{is_answered, leaf_pairs}
use Rattle.em_segment_model.proofs.Leaf.{leaf_begins, leaf_ends, leaf_next}
use Rattle.em_segment_model.proofs.Leaf as model
use Rattle.em_segment.specs.Leaves.{AllBelow, StandsFrom, later_pair}

-- the points before the first one in range make no pair
below_same : (low : ℕ) (xs : List Record) → AllBelow low xs → model.AllBelow low xs
below_same low [] h = tt
below_same low (x ∷ xs) (one, rest) = (one, below_same low xs rest)

pub range_begins : (load : List Record) (piece : Record) (from : ℕ) → StandsFrom piece.a load from
    → leaf_pairs (take from load) piece ≡ []
range_begins load piece from h = leaf_begins (take from load) piece
    (below_same piece.a (take from load) h.below)

is_at_least : (a b : ℕ) → a ≤ b → nat_le a b ≡ true
is_at_least a b h = grind (arith, nat_tests)

-- what a point in range makes
range_one : (piece point : Record) → piece.a ≤ point.a → point.a ≤ piece.b
    → (if is_answered piece point then pair_record point.b piece.c ∷ [] else [])
    ≡ later_pair piece point
range_one piece point a b =
    let x = is_at_least piece.a point.a a in
    let y = is_at_least point.a piece.b b in
    rw (x, y) refl

pub range_next : (load : List Record) (k : ℕ) (piece d : Record) → k < length load
    → piece.a ≤ (get_or load k d).a → (get_or load k d).a ≤ piece.b
    → leaf_pairs (take (k + 1) load) piece
    ≡ leaf_pairs (take k load) piece ++ later_pair piece (get_or load k d)
range_next load k piece d h a b =
    leaf_next load k piece d h
    ∙ ap (λ (xs : List Record). leaf_pairs (take k load) piece ++ xs)
    (range_one piece (get_or load k d) a b)

leaf_append : (xs ys : List Record) (piece : Record)
    → leaf_pairs (xs ++ ys) piece ≡ leaf_pairs xs piece ++ leaf_pairs ys piece
leaf_append xs ys piece =
    ap (map (λ (x : Record). pair_record x.b piece.c)) (filter-append (is_answered piece) xs ys)
    ∙ map-append (λ (x : Record). pair_record x.b piece.c) (filter (is_answered piece) xs)
    (filter (is_answered piece) ys)

-- its pairs are among all
pub range_within : (load : List Record) (k : ℕ) (piece d : Record) → k < length load
    → piece.a ≤ (get_or load k d).a → (get_or load k d).a ≤ piece.b
    → length (leaf_pairs (take k load) piece) + length (later_pair piece (get_or load k d))
    ≤ length (leaf_pairs load piece)
range_within load k piece d h a b =
    let m = ap (λ (xs : List Record). length xs) (range_next load k piece d h a b) in
    let one = length-append (leaf_pairs (take k load) piece) (later_pair piece (get_or load k d)) in
    let whole = ap (λ (xs : List Record). length (leaf_pairs xs piece)) (take-append-drop (k + 1) load) in
    let parts = ap (λ (xs : List Record). length xs)
    (leaf_append (take (k + 1) load) (drop (k + 1) load) piece) in
    let sum = length-append (leaf_pairs (take (k + 1) load) piece)
    (leaf_pairs (drop (k + 1) load) piece) in
    omega (arith, m, one, whole, parts, sum)

-- a point above the piece ends its pairs
pub range_ends : (load : List Record) (k : ℕ) (piece d : Record) → k < length load → IsAscending load
    → piece.b < (get_or load k d).a → leaf_pairs (take k load) piece ≡ leaf_pairs load piece
range_ends load k piece d h a l =
    let y = get_or load k d in
    let split : load ≡ take k load ++ y ∷ drop (suc k) load =
    sym (take-append-drop k load)
    ∙ ap (λ (xs : List Record). take k load ++ xs) (drop-cons load k d h) in
    let b : IsAscending (take k load ++ y ∷ drop (suc k) load) = subst IsAscending split a in
    sym (ap (λ (xs : List Record). leaf_pairs xs piece) split
    ∙ leaf_ends (take k load) y (drop (suc k) load) piece b l)
