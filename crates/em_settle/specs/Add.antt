-- The operations of a map with adds: an add (K, number, 3, V) beside those of a map.
use Rattle.std.specs.Prelude.{ℕ, ◌≡◌, ◌<◌, ◌+◌, ◌%◌, ◌^◌, ◌==◌, max, min, bit_xor, Option, Some, None, if◌then◌else◌}
use Rattle.em_record.specs.declared.record.Record.{Record}
use Rattle.em_settle.specs.Map.{map_answer, map_record}
use Rattle.em_settle.specs.declared.step.Step.{Step}
use Rattle.em_settle.specs.declared.combine.Combine.{Combine}
use Rattle.em_settle.specs.declared.combine.Combine.TheVariants.{Sum, Max, Min, Xor}

-- the second value joined to the first
abbrev pub apply_of : Combine → ℕ → ℕ → ℕ
apply_of Sum x y = (x + y) % 2 ^ 64
apply_of Max x y = max x y
apply_of Min x y = min x y
apply_of Xor x y = bit_xor x y

-- numbers may be joined in any grouping
abbrev pub IsAssociative : (ℕ → ℕ → ℕ) → Type 0
IsAssociative f = (x y z : ℕ) → f (f x y) z ≡ f x (f y z)

-- what is stored under a key, joined to a value
abbrev pub added : (ℕ → ℕ → ℕ) → Option Record → ℕ → ℕ
added apply None v = v
added apply (Some r) v = apply r.d v

-- a put stores its value, a del stores nothing, an add joins its value to what is stored, and a get
-- answers what is stored and leaves it
abbrev pub add_step_of : (ℕ → ℕ → ℕ) → Option Record → Record → Step
add_step_of apply old op =
    if op.c == 0 then record { stored = Some (map_record op.a op.d); answer = None }
    else if op.c == 1 then record { stored = None; answer = None }
    else if op.c == 3 then record { stored = Some (map_record op.a (added apply old op.d)); answer = None }
    else record { stored = old; answer = Some (map_answer old op.b) }

-- an operation has a number from 1 on, and is a put, a del, a get or an add
abbrev pub IsAddOp : Record → Type 0
IsAddOp r = (0 < r.b) × (r.c < 4)
