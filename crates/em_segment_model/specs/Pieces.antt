-- Points that ask, intervals that answer, and what an interval is to a strip.
use Rattle.std.specs.Prelude.{ℕ, ◌+◌, ◌*◌, ◌<◌, ◌≤◌, Bool, not, if◌then◌else◌, List, [], ◌∷◌, ◌&&◌, nat_le, nat_lt, filter, map}
use Rattle.std.specs.List.{flat_map}
use Rattle.em_record.specs.declared.record.Record.{Record}
use Rattle.em_model.specs.Stab.{NumberedInterval, holds_point}
use Rattle.em_model.specs.StabAnswers.{pair_record}

-- A point that a stab asks for: its value, the number of the stab, and the count of the intervals that
-- were given before it.
pub record Asked : Type 0 where
  pub point : ℕ
  pub stab : ℕ
  pub before : ℕ

-- the interval holds the point, and was given before it
abbrev pub answers : Asked → NumberedInterval → Bool
answers a i = holds_point a.point i && nat_lt i.number a.before

-- the pair of a point and an interval
abbrev pub pair_of : Asked → NumberedInterval → Record
pair_of a i = pair_record a.stab i.number

-- the pairs of one point with some intervals
abbrev pub pairs_at : List NumberedInterval → Asked → List Record
pairs_at is a = map (pair_of a) (filter (answers a) is)

-- the pairs of some points, point by point
abbrev pub all_pairs : List Asked → List NumberedInterval → List Record
all_pairs ps is = flat_map (pairs_at is) ps

-- A strip, between two cuts. A cut is a value and a side as one number: 2 * value is before the value,
-- 2 * value + 1 after it.
pub record Strip : Type 0 where
  pub from : ℕ
  pub to : ℕ

-- the cut before an interval, and the cut after it
abbrev pub left_of : NumberedInterval → ℕ
left_of i = 2 * i.low

abbrev pub right_of : NumberedInterval → ℕ
right_of i = 2 * i.high + 1

-- the point lies in the strip
pub record Lies (z : Strip) (a : Asked) : Type 0 where
  pub low : z.from ≤ 2 * a.point
  pub high : 2 * a.point < z.to

-- all of them lie in it
abbrev pub AllLie : Strip → List Asked → Type 0
AllLie z [] = Unit {0}
AllLie z (a ∷ ps) = Lies z a × AllLie z ps

-- the interval holds all of the strip
abbrev pub spans : Strip → NumberedInterval → Bool
spans z i = nat_le (left_of i) z.from && nat_le z.to (right_of i)

-- the interval holds some of it
abbrev pub meets : Strip → NumberedInterval → Bool
meets z i = nat_lt (left_of i) z.to && nat_lt z.from (right_of i)

-- the interval goes down into the strip: it holds some of it and not all
abbrev pub goes_down : Strip → NumberedInterval → Bool
goes_down z i = meets z i && not (spans z i)

-- the strips lie within the first one
abbrev pub AllWithin : Strip → List Strip → Type 0
AllWithin o [] = Unit {0}
AllWithin o (z ∷ zs) = ((o.from ≤ z.from) × (z.to ≤ o.to)) × AllWithin o zs

-- how many of the interval's two ends lie inside the strip
abbrev pub ends : Strip → NumberedInterval → ℕ
ends z i =
    (if nat_lt z.from (left_of i) && nat_lt (left_of i) z.to then 1 else 0)
    + (if nat_lt z.from (right_of i) && nat_lt (right_of i) z.to then 1 else 0)

-- the strip stands before these, and shares at most one value with them
abbrev pub Before : Strip → List Strip → Type 0
Before z [] = Unit {0}
Before z (y ∷ ys) = ((z.from ≤ y.from) × (z.to ≤ y.to) × (z.to ≤ y.from + 1)) × Before z ys

-- Strips in order. Neighbours may share one value, since points are cut by place.
abbrev pub AreStrips : List Strip → Type 0
AreStrips [] = Unit {0}
AreStrips (z ∷ zs) = Before z zs × AreStrips zs
