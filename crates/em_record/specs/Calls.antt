-- The calls of a value that stands in memory for a device, a shelf or a sink.
use Rattle.std.specs.Prelude.{◌≡◌, ◌↔◌, ◌⊎◌, ℕ, ◌-◌, ◌^◌, ◌<◌, ◌≤◌, List, Contains, Result, IsErr, is_err, if◌then◌else◌}
use Rattle.em_record.specs.Count.{next_count}

-- the numbers, from 0, of the calls that are to fail; and how many calls were made, how many of
-- them failed, and how many of those found no memory to grow
pub record CallCounts : Type 0 where
  pub failing : List ℕ
  pub calls : ℕ
  pub faults : ℕ
  pub refused : ℕ

-- each count is of some of the calls that the next one counts, and they fit 64 bits
pub record AreCounts (counts : CallCounts) : Type 0 where
  pub refused_faults : counts.refused ≤ counts.faults
  pub faults_calls : counts.faults ≤ counts.calls
  pub calls_most : counts.calls ≤ 2 ^ 64 - 1

-- One call was made, and it was counted as a fault where it failed. Of the first 2 ^ 64 - 1 calls
-- those fail whose numbers are to fail, and those for which the other cause holds, and no other.
pub record CountsCall {T E : Type 0} (Other : Type 0) (old new : CallCounts) (result : Result T E)
    : Type 0 where
  pub failing : new.failing ≡ old.failing
  pub calls : new.calls ≡ next_count old.calls
  pub faults : new.faults ≡ (if is_err result then next_count old.faults else old.faults)
  pub fails : old.calls < 2 ^ 64 - 1 → IsErr result ↔ (Contains old.failing old.calls ⊎ Other)
