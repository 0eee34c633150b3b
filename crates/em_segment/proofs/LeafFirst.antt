-- The first place of a leaf's load of which the value isn't below another.
use Rattle.std.proofs.Common.{◌≡◌, ℕ, zero, suc, ◌<◌, ◌≤◌, true, false, List, [], ◌∷◌, length, take, get_or, arith, ltb, ltb-true, ltb-false}
use Rattle.std.specs.List.Sorted.{IsNonDecreasingBy, IsPartitionPoint}
use Rattle.em_record.specs.Order.{AtLeast, IsAscending}
use Rattle.em_record.specs.declared.record.Record.{Record}
use Rattle.em_frames.specs.Device.{zero_record}
use Rattle.em_segment_model.proofs.Cuts.{word_least}
use Rattle.em_segment.specs.Leaves.{AllBelow, StandsFrom}

value_least : (x : Record) (xs : List Record) (j : ℕ) (d : Record) → AtLeast x xs → j < length xs
    → x.a ≤ (get_or xs j d).a
value_least x [] j d h l = absurd (omega (arith, l))
value_least x (y ∷ ys) zero d h l = word_least x y h.0
value_least x (y ∷ ys) (suc j) d h l = value_least x ys j d h.1 (omega (arith, l))

pub values_rise : (load : List Record) → IsAscending load
    → IsNonDecreasingBy (λ (x : Record). x.a) load
values_rise [] h i j d l m = absurd (omega (arith, m))
values_rise (x ∷ xs) h zero zero d l m = omega arith
values_rise (x ∷ xs) h zero (suc j) d l m = value_least x xs j d h.0 (omega (arith, m))
values_rise (x ∷ xs) h (suc i) zero d l m = absurd (omega (arith, l))
values_rise (x ∷ xs) h (suc i) (suc j) d l m =
    values_rise xs h.1 i j d (omega (arith, l)) (omega (arith, m))

below_front : (low : ℕ) (xs : List Record) (n : ℕ) → n ≤ length xs
    → ((k : ℕ) (d : Record) → 0 ≤ k → k < n → ltb (get_or xs k d).a low ≡ true)
    → AllBelow low (take n xs)
below_front low xs zero l h = tt
below_front low [] (suc n) l h = absurd (omega (arith, l))
below_front low (x ∷ xs) (suc n) l h = (
  ltb-true x.a low (h 0 x (omega arith) (omega arith)),
  below_front low xs n (omega (arith, l)) (λ k d a b. h (suc k) d (omega arith) (omega (arith, b))),
)

pub stands_from : (low : ℕ) (load : List Record) (place : ℕ) → place ≤ length load
    → IsPartitionPoint (λ (y : Record). ltb y.a low ≡ true) (λ (y : Record). ltb y.a low ≡ false) load
    place → StandsFrom low load place
stands_from low load place l h = record {
  within = l;
  below = below_front low load place l h.0;
  rest = λ k a b. ltb-false (get_or load k zero_record).a low (h.1 k zero_record a b);
}
