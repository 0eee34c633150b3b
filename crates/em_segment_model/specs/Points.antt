-- Points and intervals as records, and back.
use Rattle.std.specs.Prelude.{List, [], ◌∷◌, ◌++◌, map}
use Rattle.em_record.specs.declared.record.Record.{Record}
use Rattle.em_model.specs.Stab.{NumberedInterval}
use Rattle.em_segment_model.specs.Pieces.{Asked, all_pairs}

-- the point that a record stands for
abbrev pub asked_in : Record → Asked
asked_in r = record { point = r.a; stab = r.b; before = r.c }

-- the record of a point: records are in the order of their points
abbrev pub asked_record : Asked → Record
asked_record a = record { a = a.point; b = a.stab; c = a.before; d = 0 }

-- the interval that a record stands for
abbrev pub interval_in : Record → NumberedInterval
interval_in r = record { number = r.c; low = r.a; high = r.b }

-- the record of an interval
abbrev pub interval_record : NumberedInterval → Record
interval_record i = record { a = i.low; b = i.high; c = i.number; d = 0 }

-- the pairs that points and intervals make, as records
abbrev pub pairs_due : List Record → List Record → List Record
pairs_due points pieces = all_pairs (map asked_in points) (map interval_in pieces)

-- the pairs that the points of some strips make, each with the pieces that go down into its strip
abbrev pub pairs_below : List (List Record) → List (List Record) → List Record
pairs_below (points ∷ others) (pieces ∷ lists) = pairs_due points pieces ++ pairs_below others lists
pairs_below others lists = []

-- some lists, one after another
abbrev pub joined : List (List Record) → List Record
joined [] = []
joined (xs ∷ xss) = xs ++ joined xss
