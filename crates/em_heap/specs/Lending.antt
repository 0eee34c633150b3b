-- How the area of a heap with no record is written through a borrow.
use Rattle.std.specs.Prelude.{List, [], length}
use Rattle.std.specs.Borrow.{Lends, MutBor, Fml}
use Rattle.em_record.specs.declared.record.Record.{Record}
use Rattle.em_frames.specs.contracts.area.Area.{the_row as area_row}
use Rattle.em_heap.specs.State.{HeapState}
use Rattle.em_heap.specs.contracts.heap.Heap.{the_row as heap_row}

-- a heap of no records over these
abbrev pub empty_over : List Record → HeapState
empty_over w = record { items = []; len = 0; capacity = length w; behind = w }

-- the heap ends with no record, over what is written in its area
abbrev pub LendsArea : MutBor HeapState → MutBor (List Record) → Fml
LendsArea s r = Lends heap_row area_row s r empty_over
