-- Two lists of records as one, in the order of their words a.
use Rattle.std.specs.Prelude.{ℕ, ◌+◌, ◌≤◌, nat_le, if◌then◌else◌, List, [], ◌∷◌, map, Option, Some, None}
use Rattle.em_record.specs.declared.record.Record.{Record}
use Rattle.em_weave.specs.declared.side.Side.{Side}
use Rattle.em_weave.specs.declared.side.Side.TheVariants.{Left, Right}

-- a left record among right ones: those of a lesser word a come before it, and `rest` has the others
abbrev pub placed : Record → (List Record → List Side) → List Record → List Side
placed l rest [] = Left l ∷ rest []
placed l rest (r ∷ rs) =
    if nat_le l.a r.a then Left l ∷ rest (r ∷ rs) else Right r ∷ placed l rest rs

-- all records of two lists: of the two heads the one with the lesser word a comes first, and the left
-- one if these words are equal
abbrev pub woven : List Record → List Record → List Side
woven [] rs = map (λ r. Right r) rs
woven (l ∷ ls) rs = placed l (λ others. woven ls others) rs

-- the first of two heads, by the same rule
abbrev pub first_side : Option Record → Option Record → Option Side
first_side None None = None
first_side None (Some r) = Some (Right r)
first_side (Some l) None = Some (Left l)
first_side (Some l) (Some r) = if nat_le l.a r.a then Some (Left l) else Some (Right r)

-- the record without its side
abbrev pub side_record : Side → Record
side_record (Left l) = l
side_record (Right r) = r

-- the records of each side
abbrev pub lefts : List Side → List Record
lefts [] = []
lefts (Left l ∷ ds) = l ∷ lefts ds
lefts (Right r ∷ ds) = lefts ds

abbrev pub rights : List Side → List Record
rights [] = []
rights (Left l ∷ ds) = rights ds
rights (Right r ∷ ds) = r ∷ rights ds

-- each word a is at least this number
abbrev pub NoneBefore : ℕ → List Record → Type 0
NoneBefore n [] = Unit {0}
NoneBefore n (x ∷ xs) = (n ≤ x.a) × NoneBefore n xs

-- no record has a lesser word a than one that stands before it
abbrev pub AscendsByA : List Record → Type 0
AscendsByA [] = Unit {0}
AscendsByA (x ∷ xs) = NoneBefore x.a xs × AscendsByA xs

-- After each record of the right no record of the left has the same word a or a lesser one.
abbrev pub LeftsFirst : List Side → Type 0
LeftsFirst [] = Unit {0}
LeftsFirst (Left l ∷ ds) = LeftsFirst ds
LeftsFirst (Right r ∷ ds) = NoneBefore (r.a + 1) (lefts ds) × LeftsFirst ds
