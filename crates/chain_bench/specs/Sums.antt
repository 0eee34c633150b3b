-- What reading records sums up.
use Rattle.std.specs.Prelude.{ℕ, ◌+◌, ◌%◌, ◌^◌, List, [], ◌∷◌}
use Rattle.em_record.specs.declared.record.Record.{Record}

-- a sum of 64 bits, and the words a and b of records added to it, modulo 2 ^ 64
abbrev pub sum_from : ℕ → List Record → ℕ
sum_from sum [] = sum
sum_from sum (x ∷ xs) = sum_from (((sum + x.a) % 2 ^ 64 + x.b) % 2 ^ 64) xs
