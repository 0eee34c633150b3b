-- A leaf: a load of points in order of their values, against one piece after another.
use Rattle.std.proofs.Common.{◌≡◌, ℕ, ◌+◌, ◌<◌, ◌≤◌, Bool, true, false, cond, List, [], ◌∷◌, ◌++◌, length, take, get_or, map, refl, ap, ◌∙◌, arith}
use Rattle.std.proofs.lemmas.Bool.Decides.{nat_tests}
use Rattle.std.proofs.lemmas.List.{append-nil, map-append}
use Rattle.std.proofs.lemmas.List.Elements.{filter-append, filter_more}
use Rattle.std.specs.Prelude.{◌&&◌, if◌then◌else◌, nat_le, nat_lt, filter}
use Rattle.std.specs.List.{flat_map, sum_by}
use Rattle.em_record.specs.declared.record.Record.{Record}
use Rattle.em_record.specs.Order.{AtLeast, IsAscending}
use Rattle.em_record.proofs.OrderLaws.{ascends_apart}
use Rattle.em_model.specs.StabAnswers.{pair_record}
use Rattle.em_segment_model.specs.Alike.{Alike}
use Rattle.em_segment_model.specs.Loads.{is_answered, leaf_list, leaf_pairs}
use Rattle.em_segment_model.specs.Pieces.{Asked, answers, pair_of}
use Rattle.em_segment_model.specs.Points.{asked_in, interval_in, pairs_due}
use Rattle.em_segment_model.proofs.Cuts.{word_least}
use Rattle.em_segment_model.proofs.Turned.{answered_by, turned}

-- The load's pairs with a piece are the model's.
pub leaf_answers : (load : List Record) (piece : Record)
    → leaf_pairs load piece ≡ answered_by (map asked_in load) (interval_in piece)
leaf_answers [] piece = refl
leaf_answers (x ∷ load) piece =
    one_more (nat_le piece.a x.a) (nat_le x.a piece.b) (nat_lt piece.c x.c) (leaf_answers load piece)
  where
    one_more : (p q r : Bool)
        → leaf_pairs load piece ≡ answered_by (map asked_in load) (interval_in piece)
        → map (λ (y : Record). pair_record y.b piece.c)
        (cond (p && (q && r)) (x ∷ filter (is_answered piece) load) (filter (is_answered piece) load))
        ≡ map (λ (a : Asked). pair_of a (interval_in piece))
        (cond ((p && q) && r)
        (asked_in x ∷ filter (λ a. answers a (interval_in piece)) (map asked_in load))
        (filter (λ a. answers a (interval_in piece)) (map asked_in load)))
    one_more true true true e = ap (λ t. pair_record x.b piece.c ∷ t) e
    one_more true true false e = e
    one_more true false r e = e
    one_more false q r e = e

leaf_lists : (load pieces : List Record)
    → leaf_list load pieces ≡ flat_map (answered_by (map asked_in load)) (map interval_in pieces)
leaf_lists load [] = refl
leaf_lists load (x ∷ pieces) =
    ap (λ t. t ++ leaf_list load pieces) (leaf_answers load x)
    ∙ ap (λ t. answered_by (map asked_in load) (interval_in x) ++ t) (leaf_lists load pieces)

-- A leaf reports what is due.
pub leaf_reported : (load pieces : List Record) → Alike (leaf_list load pieces) (pairs_due load pieces)
leaf_reported load pieces = record {
  weighs = λ f.
      ap (sum_by f) (leaf_lists load pieces) ∙ turned f (map asked_in load) (map interval_in pieces);
}

leaf_append : (xs ys : List Record) (piece : Record)
    → leaf_pairs (xs ++ ys) piece ≡ leaf_pairs xs piece ++ leaf_pairs ys piece
leaf_append xs ys piece =
    ap (map (λ x. pair_record x.b piece.c)) (filter-append (is_answered piece) xs ys)
    ∙ map-append (λ x. pair_record x.b piece.c) (filter (is_answered piece) xs) (filter (is_answered piece) ys)

-- One point more.
pub leaf_next : (load : List Record) (k : ℕ) (piece d : Record) → k < length load
    → leaf_pairs (take (k + 1) load) piece
    ≡ leaf_pairs (take k load) piece
    ++ (if is_answered piece (get_or load k d) then pair_record (get_or load k d).b piece.c ∷ [] else [])
leaf_next load k piece d h =
    ap (map (λ x. pair_record x.b piece.c)) (filter_more (is_answered piece) load k d h)
    ∙ map-append (λ x. pair_record x.b piece.c) (filter (is_answered piece) (take k load))
    (cond (is_answered piece (get_or load k d)) (get_or load k d ∷ []) [])
    ∙ ap (λ t. leaf_pairs (take k load) piece ++ t) (single (is_answered piece (get_or load k d)))
  where
    single : (b : Bool)
        → map (λ (x : Record). pair_record x.b piece.c) (cond b (get_or load k d ∷ []) [])
        ≡ (if b then pair_record (get_or load k d).b piece.c ∷ [] else [])
    single true = refl
    single false = refl

-- the words a of these records are below this number
abbrev pub AllBelow : ℕ → List Record → Type 0
AllBelow v [] = Unit {0}
AllBelow v (x ∷ xs) = (x.a < v) × AllBelow v xs

-- the words a of these records are above it
abbrev AllAbove : ℕ → List Record → Type 0
AllAbove v [] = Unit {0}
AllAbove v (x ∷ xs) = (v < x.a) × AllAbove v xs

-- Points below the piece make no pair.
pub leaf_begins : (xs : List Record) (piece : Record) → AllBelow piece.a xs → leaf_pairs xs piece ≡ []
leaf_begins [] piece h = refl
leaf_begins (x ∷ xs) piece (one, rest) =
    let e : nat_le piece.a x.a ≡ false = low piece.a x.a one in rw e (leaf_begins xs piece rest)
  where
    low : (a b : ℕ) → b < a → nat_le a b ≡ false
    low a b h = grind (arith, nat_tests)

above_none : (xs : List Record) (piece : Record) → AllAbove piece.b xs → leaf_pairs xs piece ≡ []
above_none [] piece h = refl
above_none (x ∷ xs) piece (one, rest) =
    let e : nat_le x.a piece.b ≡ false = high x.a piece.b one in
    let f = no_both (nat_le piece.a x.a) (nat_le x.a piece.b) (nat_lt piece.c x.c) e in
    rw f (above_none xs piece rest)
  where
    high : (a b : ℕ) → b < a → nat_le a b ≡ false
    high a b h = grind (arith, nat_tests)

    no_both : (p q r : Bool) → q ≡ false → (p && (q && r)) ≡ false
    no_both true true r e = cc
    no_both true false r e = refl
    no_both false q r e = refl

all_above : (v : ℕ) (x : Record) (xs : List Record) → v < x.a → AtLeast x xs → AllAbove v xs
all_above v x [] h s = tt
all_above v x (y ∷ ys) h (one, rest) =
    let w = word_least x y one in (omega (arith, h, w), all_above v x ys h rest)

-- The first point above the piece ends its pairs.
pub leaf_ends : (xs : List Record) (y : Record) (ys : List Record) (piece : Record)
    → IsAscending (xs ++ y ∷ ys) → piece.b < y.a
    → leaf_pairs (xs ++ y ∷ ys) piece ≡ leaf_pairs xs piece
leaf_ends xs y ys piece a h =
    let s = ascends_apart xs (y ∷ ys) a in
    leaf_append xs (y ∷ ys) piece
    ∙ ap (λ t. leaf_pairs xs piece ++ t) (above_none (y ∷ ys) piece (h, all_above piece.b y ys h s.1.0))
    ∙ append-nil (leaf_pairs xs piece)
