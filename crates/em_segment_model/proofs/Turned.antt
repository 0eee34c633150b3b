-- Pairs record by record of a list, and point by point of a load: the same pairs, in another order.
use Rattle.std.proofs.Common.{◌≡◌, ℕ, List, map, sym, ◌∙◌}
use Rattle.std.specs.Prelude.{filter}
use Rattle.std.specs.List.{flat_map, sum_by}
use Rattle.em_record.specs.declared.record.Record.{Record}
use Rattle.em_model.specs.Stab.{NumberedInterval}
use Rattle.em_segment_model.specs.Pieces.{Asked, answers, pair_of, pairs_at, all_pairs}
use Rattle.em_segment_model.proofs.Once.{worth, sum-pairs}
use Rattle.em_segment_model.proofs.Sums.{sum-map, sum-filter, sum-flat, sum-same, sums-turned}

-- what one record of the list adds: a pair for each point of the load that it answers
abbrev pub answered_by : List Asked → NumberedInterval → List Record
answered_by ps i = map (λ a. pair_of a i) (filter (λ a. answers a i) ps)

-- The pairs record by record weigh what the pairs point by point weigh.
pub turned : (f : Record → ℕ) (ps : List Asked) (is : List NumberedInterval)
    → sum_by f (flat_map (answered_by ps) is) ≡ sum_by f (all_pairs ps is)
turned f ps is =
    sum-flat (answered_by ps) f is
    ∙ sum-same _ (λ i. sum_by (λ a. worth f a i) ps) is (λ i.
    sum-map (λ a. pair_of a i) f (filter (λ a. answers a i) ps)
    ∙ sum-filter (λ a. answers a i) (λ a. f (pair_of a i)) ps)
    ∙ sym (sums-turned (worth f) ps is)
    ∙ sum-same _ (λ a. sum_by f (pairs_at is a)) ps (λ a. sym (sum-pairs f is a))
    ∙ sym (sum-flat (pairs_at is) f ps)
