-- What a node reports: the pairs that its multislabs make, strip by strip.
use Rattle.std.specs.Prelude.{ℕ, suc, Bool, List, [], ◌∷◌, ◌++◌, if◌then◌else◌, nat_lt, filter, length, map}
use Rattle.std.specs.List.{flat_map}
use Rattle.em_record.specs.declared.record.Record.{Record}
use Rattle.em_model.specs.Stab.{NumberedInterval}
use Rattle.em_segment_model.specs.Pieces.{Asked, pair_of}
use Rattle.em_segment_model.specs.Points.{asked_in, interval_in}
use Rattle.em_segment_model.specs.Slabs.{Slab, has_strip, in_slab, slabs_from}
use Rattle.em_segment_model.specs.Spans.{strip_at}
use Rattle.em_segment_model.specs.declared.strip.Span.{Span}

-- the pairs of each point with the intervals that were given before it, whatever their ends
abbrev pub later_pairs : List Asked → List NumberedInterval → List Record
later_pairs ps is =
    flat_map (λ a. map (pair_of a) (filter (λ i. nat_lt i.number a.before) is)) ps

-- the pairs that the lists of the multislabs over strip k make with some points
abbrev pub slab_pairs : List Slab → List (List NumberedInterval) → ℕ → List Asked → List Record
slab_pairs (t ∷ ts) (is ∷ iss) k ps =
    (if has_strip t k then later_pairs ps is else []) ++ slab_pairs ts iss k ps
slab_pairs ts iss k ps = []

-- the same for the points of all strips, of which the first is strip k
abbrev pub strips_pairs : List Slab → List (List NumberedInterval) → ℕ → List (List Asked) → List Record
strips_pairs ts iss k [] = []
strips_pairs ts iss k (ps ∷ pss) = slab_pairs ts iss k ps ++ strips_pairs ts iss (suc k) pss

-- the piece belongs to the multislab
abbrev pub is_listed : List Span → Slab → Record → Bool
is_listed zs t r = in_slab (map strip_at zs) t (interval_in r)

-- for each multislab of the strips its pieces
abbrev pub slab_lists : List Span → List Record → List (List Record)
slab_lists zs pieces = map (λ t. filter (is_listed zs t) pieces) (slabs_from 0 (length zs))

-- The pairs that a node reports itself: of the points of each strip, with the pieces of the multislabs
-- over it.
abbrev pub reported_here : List Span → List (List Record) → List Record → List Record
reported_here zs points pieces =
    strips_pairs (slabs_from 0 (length zs)) (map (map interval_in) (slab_lists zs pieces)) 0
    (map (map asked_in) points)
