-- Adds that were worked out by hand, from the table in README.md: at both ends of the range, and where nothing is stored.
use Rattle.std.specs.Prelude.{◌≡◌, ℕ, ◌-◌, ◌^◌, Some, None}
use Rattle.std.proofs.Common.{refl}
use Rattle.em_record.specs.declared.record.Record.{Record}
use Rattle.em_settle.specs.Add.{add_step_of, apply_of}
use Rattle.em_settle.specs.declared.combine.Combine.TheVariants.{Sum, Max, Min, Xor}
use Rattle.em_settle.specs.declared.step.Step.{Step}

-- a record of these words
abbrev rec : ℕ → ℕ → ℕ → ℕ → Record
rec a b c d = record { a = a; b = b; c = c; d = d }

-- the greatest value
abbrev greatest : ℕ
greatest = 2 ^ 64 - 1

-- a step that stores this value under the key 7, and answers nothing
abbrev stores : ℕ → Step
stores v = record { stored = Some (rec 7 0 0 v); answer = None }

-- an add of 2 with the number 5
abbrev add_two : Record
add_two = rec 7 5 3 2

-- to the greatest value
sum_wraps : add_step_of (apply_of Sum) (Some (rec 7 0 0 greatest)) add_two ≡ stores 1
sum_wraps = refl

max_keeps : add_step_of (apply_of Max) (Some (rec 7 0 0 greatest)) add_two ≡ stores greatest
max_keeps = refl

min_lowers : add_step_of (apply_of Min) (Some (rec 7 0 0 greatest)) add_two ≡ stores 2
min_lowers = refl

xor_clears : add_step_of (apply_of Xor) (Some (rec 7 0 0 greatest)) add_two ≡ stores (2 ^ 64 - 3)
xor_clears = refl

-- to zero, which is a value
min_of_zero : add_step_of (apply_of Min) (Some (rec 7 0 0 0)) add_two ≡ stores 0
min_of_zero = refl

max_of_zero : add_step_of (apply_of Max) (Some (rec 7 0 0 0)) add_two ≡ stores 2
max_of_zero = refl

-- to nothing: not joined to zero
min_of_none : add_step_of (apply_of Min) None add_two ≡ stores 2
min_of_none = refl

-- what isn't an add does what it does in a map without adds
get_there : add_step_of (apply_of Xor) (Some (rec 7 0 0 4)) (rec 7 6 2 0)
    ≡ record { stored = Some (rec 7 0 0 4); answer = Some (rec 6 1 4 0) }
get_there = refl

put_over : add_step_of (apply_of Sum) (Some (rec 7 0 0 4)) (rec 7 6 0 9) ≡ stores 9
put_over = refl
