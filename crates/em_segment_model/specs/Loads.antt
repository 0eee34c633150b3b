-- A load of points in memory, against one piece or a list of pieces.
use Rattle.std.specs.Prelude.{ℕ, ◌-◌, ◌^◌, ◌≤◌, ◌&&◌, Bool, List, [], ◌∷◌, if◌then◌else◌, nat_le, nat_lt, filter, map}
use Rattle.std.specs.List.{flat_map}
use Rattle.em_record.specs.declared.record.Record.{Record}
use Rattle.em_model.specs.StabAnswers.{pair_record}

-- a point as it stands in a load over multislabs: the later it was asked, the less the record
abbrev pub late_record : Record → Record
late_record r = record { a = 2 ^ 64 - 1 - r.c; b = r.b; c = 0; d = 0 }

-- each point's count of intervals fits a word, so that turning it loses nothing
abbrev pub AllFit : List Record → Type 0
AllFit [] = Unit {0}
AllFit (x ∷ xs) = (x.c ≤ 2 ^ 64 - 1) × AllFit xs

-- how many intervals were given before the point of such a record
abbrev pub before_of : Record → ℕ
before_of r = 2 ^ 64 - 1 - r.a

-- the pairs of such a load with the interval of this number: of the points that were asked after it
abbrev pub late_pairs : List Record → ℕ → List Record
late_pairs load number =
    map (λ x. pair_record x.b number) (filter (λ x. nat_lt number (before_of x)) load)

-- the pairs of such a load with a list of pieces, piece by piece
abbrev pub list_pairs : List Record → List Record → List Record
list_pairs load pieces = flat_map (λ x. late_pairs load x.c) pieces

-- the pieces up to the first whose number isn't below this
abbrev pub front_of : ℕ → List Record → List Record
front_of n [] = []
front_of n (x ∷ xs) = if nat_lt x.c n then x ∷ front_of n xs else []

-- the point of a leaf's load lies in the piece and was asked after it
abbrev pub is_answered : Record → Record → Bool
is_answered piece x = nat_le piece.a x.a && (nat_le x.a piece.b && nat_lt piece.c x.c)

-- the pairs of a leaf's load with a piece
abbrev pub leaf_pairs : List Record → Record → List Record
leaf_pairs load piece = map (λ x. pair_record x.b piece.c) (filter (is_answered piece) load)

-- the pairs of a leaf's load with some pieces, piece by piece
abbrev pub leaf_list : List Record → List Record → List Record
leaf_list load pieces = flat_map (leaf_pairs load) pieces
