-- The code's spans as strips, and the spans of records.
use Rattle.std.specs.Prelude.{ℕ, ◌+◌, ◌*◌, ◌<◌, Bool, List, [], ◌∷◌, filter, length, map, max}
use Rattle.std.specs.List.{sum_by}
use Rattle.em_record.specs.declared.record.Record.{Record}
use Rattle.em_model.specs.Stab.{NumberedInterval}
use Rattle.em_segment_model.specs.Pieces.{Strip, ends, goes_down}
use Rattle.em_segment_model.specs.Points.{interval_in}
use Rattle.em_segment_model.specs.declared.strip.Span.{Span}

-- the strip from the cut before the first value to the cut after the last one
abbrev pub strip_at : Span → Strip
strip_at s = record { from = 2 * s.first; to = 2 * s.last + 1 }

-- an interval of which only the ends matter
abbrev pub interval_at : ℕ → ℕ → NumberedInterval
interval_at low high = record { number = 0; low = low; high = high }

-- the value of the last of some points, or this one if there is none
abbrev pub last_value : ℕ → List Record → ℕ
last_value v [] = v
last_value v (x ∷ xs) = last_value x.a xs

-- the values of the first of some points and of the last one
abbrev pub value_span : List Record → Span
value_span [] = record { first = 0; last = 0 }
value_span (x ∷ xs) = record { first = x.a; last = last_value x.a xs }

-- each list has a record
abbrev pub AllSome : List (List Record) → Type 0
AllSome [] = Unit {0}
AllSome (xs ∷ xss) = (0 < length xs) × AllSome xss

-- the piece goes down into the strip
abbrev pub takes_piece : Span → Record → Bool
takes_piece z r = goes_down (strip_at z) (interval_in r)

-- for each strip the pieces that go down into it
abbrev pub down_lists : List Span → List Record → List (List Record)
down_lists zs pieces = map (λ z. filter (takes_piece z) pieces) zs

-- how many ends of the intervals lie inside the strip
abbrev pub ends_in : Strip → List NumberedInterval → ℕ
ends_in z is = sum_by (ends z) is

-- What the pieces of a call weigh: their number, or, if more, the ends that they have inside the points'
-- span. Strips share the ends of their node, so that this doesn't grow from level to level.
abbrev pub ends_of : List Record → List Record → ℕ
ends_of points pieces =
    max (length pieces) (ends_in (strip_at (value_span points)) (map interval_in pieces))

-- the same of the calls for some strips, in all
abbrev pub ends_below : List (List Record) → List (List Record) → ℕ
ends_below (points ∷ others) (pieces ∷ lists) = ends_of points pieces + ends_below others lists
ends_below others lists = 0
