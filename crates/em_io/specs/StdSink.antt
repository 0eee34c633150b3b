-- A sink over a writer of std.
use Rattle.std.specs.Prelude.{ℕ, List, Option}

-- the bytes that the writer holds, where it tells them, and the writes that failed
pub record StdSinkState : Type 0 where
  pub contents : Option (List ℕ)
  pub faults : ℕ
