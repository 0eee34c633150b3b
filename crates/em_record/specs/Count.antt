-- Counts of 64 bits that never fall: of faults, of moves and of calls.
use Rattle.std.specs.Prelude.{ℕ, ◌+◌, ◌-◌, ◌^◌, ◌≤◌, min, Result, OnErr}

-- the count after one more event; it stays at its greatest value
abbrev pub next_count : ℕ → ℕ
next_count n = min (n + 1) (2 ^ 64 - 1)

-- The count rose, or stands at its greatest value.
abbrev pub Rose : ℕ → ℕ → Type 0
Rose old new = next_count old ≤ new

-- The count of faults did not fall, and a failure is answered only if it rose.
pub record HasCause {T E : Type 0} (old new : ℕ) (result : Result T E) : Type 0 where
  pub later : old ≤ new
  pub failed : OnErr result (Rose old new)
