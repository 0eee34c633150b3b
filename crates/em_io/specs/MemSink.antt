-- A sink in memory.
use Rattle.std.specs.Prelude.{◌≡◌, ◌⊎◌, ℕ, ◌<◌, Contains, List, [], Result}
use Rattle.em_record.specs.Calls.{CallCounts, CountsCall}
use Rattle.em_record.specs.Count.{next_count}

-- the bytes that it took, the most bytes of one write, and the calls
pub record MemSinkState : Type 0 where
  pub bytes : List ℕ
  pub piece : ℕ
  pub counts : CallCounts

-- a sink that took nothing, of which the calls of these numbers are to fail
abbrev pub fresh_sink : ℕ → List ℕ → MemSinkState
fresh_sink piece failing = record {
  bytes = [];
  piece = piece;
  counts = record { failing = failing; calls = 0; faults = 0; refused = 0 };
}

-- One call was made. It failed if its number is to fail or it found no memory, and nowhere else; a
-- call that is to fail asks for none.
pub record IsSinkCall {T E : Type 0} (old new : MemSinkState) (result : Result T E) : Type 0 where
  pub piece : new.piece ≡ old.piece
  pub calls : CountsCall (old.counts.refused < new.counts.refused) old.counts new.counts result
  pub refused : (new.counts.refused ≡ old.counts.refused)
      ⊎ (new.counts.refused ≡ next_count old.counts.refused)
  pub told_to : Contains old.counts.failing old.counts.calls
      → new.counts.refused ≡ old.counts.refused
