-- The records that are sorted, in lots, and what is counted of them.
use Rattle.std.specs.Prelude.{ℕ, zero, suc, ◌+◌, ◌*◌, ◌/◌, ◌%◌, ◌^◌, List, [], ◌∷◌}
use Rattle.em_record.specs.Order.{in_order}
use Rattle.em_record.specs.declared.record.Record.{Record}

-- the record of a number
abbrev pub numbered : ℕ → Record
numbered n = record { a = (n * 11400714819323198485) % 2 ^ 64; b = n + 1; c = 1; d = 0 }

-- the records of so many numbers, from one on
abbrev pub numbered_from : ℕ → ℕ → List Record
numbered_from first zero = []
numbered_from first (suc n) = numbered first ∷ numbered_from (first + 1) n

-- the second words of records, each times its place, from n on
abbrev pub place_sum : ℕ → List Record → ℕ
place_sum n [] = 0
place_sum n (x ∷ xs) = n * x.b + place_sum (n + 1) xs

-- that of so many numbers' records, from one on, put in order
abbrev pub sorted_sum : ℕ → ℕ → ℕ
sorted_sum first count = place_sum 1 (in_order (numbered_from first count))

-- that of the first whole lots of so many places
abbrev pub whole_sum : ℕ → ℕ → ℕ
whole_sum places zero = 0
whole_sum places (suc lots) = whole_sum places lots + sorted_sum (lots * places) places

-- that of the numbers below one, in whole lots and in one of what is left
abbrev pub lots_sum : ℕ → ℕ → ℕ
lots_sum places count =
    whole_sum places (count / places) + sorted_sum (count / places * places) (count % places)
