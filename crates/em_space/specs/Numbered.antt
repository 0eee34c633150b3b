-- Records that carry a number in their word b.
use Rattle.std.specs.Prelude.{ℕ, ◌≤◌, List, [], ◌∷◌}
use Rattle.em_record.specs.declared.record.Record.{Record}

-- no number is above n
abbrev pub NumberedTo : ℕ → List Record → Type 0
NumberedTo n [] = Unit {0}
NumberedTo n (x ∷ xs) = (x.b ≤ n) × NumberedTo n xs
