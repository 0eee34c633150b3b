-- Lists that hold the same records.
use Rattle.std.specs.Prelude.{◌≡◌, ℕ, List}
use Rattle.std.specs.List.{sum_by}
use Rattle.em_record.specs.declared.record.Record.{Record}

-- The lists hold the same records, each as often, in any order: whatever records weigh, they weigh the
-- same.
pub record Alike (xs ys : List Record) : Type 0 where
  pub weighs : (f : Record → ℕ) → sum_by f xs ≡ sum_by f ys
