-- What a clause sees of a heap.
use Rattle.std.specs.Prelude.{ℕ, List}
use Rattle.em_record.specs.declared.record.Record.{Record}

-- its records in order, their number, the records that the area has room for, and those after the heap
pub record HeapState : Type 0 where
  pub items : List Record
  pub len : ℕ
  pub capacity : ℕ
  pub behind : List Record
