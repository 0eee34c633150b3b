-- A heap at the front of a list, and a run at its end: ascending records, of which the first is taken first.
use Rattle.std.specs.Prelude.{◌≡◌, ℕ, ◌+◌, ◌-◌, ◌/◌, ◌<◌, ◌≤◌, List, ◌∷◌, ◌++◌, drop, take, length, get_or}
use Rattle.em_record.specs.declared.record.Record.{Record}
use Rattle.em_record.specs.Order.{AtLeast, IsAscending, with_record, with_records}
use Rattle.em_frames.specs.Device.{zero_record}
use Rattle.em_heap.specs.Heap.{IsHeap, heap_items}

-- the last n records
abbrev pub run_of : List Record → ℕ → List Record
run_of xs n = drop (length xs - n) xs

-- the records of a heap of the first ones and of a run, in order
abbrev pub stock_items : List Record → ℕ → ℕ → List Record
stock_items xs top run = with_records (heap_items xs top) (run_of xs run)

-- what stands between heap and run
abbrev pub between : List Record → ℕ → ℕ → List Record
between xs top run = take (length xs - run - top) (drop top xs)

-- the first records are a heap, the last ones ascend, and they are apart
pub record IsStock (xs : List Record) (top run : ℕ) : Type 0 where
  pub heap : IsHeap xs top
  pub rises : IsAscending (run_of xs run)
  pub room : top + run ≤ length xs

-- the first record of the run, and none of the heap is below it
pub record LeadsRun (xs : List Record) (top run : ℕ) : Type 0 where
  pub some : 0 < run
  pub least : AtLeast (get_or xs (length xs - run) zero_record) (take top xs)

-- the least record of the heap, and none of the run is below it
pub record LeadsTop (xs : List Record) (top run : ℕ) : Type 0 where
  pub some : 0 < top
  pub least : AtLeast (get_or xs 0 zero_record) (run_of xs run)

-- One record was added to the heap.
pub record StockPushes (item : Record) (xs ys : List Record) (top run : ℕ) : Type 0 where
  pub stock : IsStock ys (top + 1) run
  pub items : stock_items ys (top + 1) run ≡ with_record item (stock_items xs top run)
  pub long : length ys ≡ length xs

-- The least was taken from the heap.
pub record StockPops (least : Record) (xs ys : List Record) (top run : ℕ) : Type 0 where
  pub stock : IsStock ys (top - 1) run
  pub items : stock_items xs top run ≡ least ∷ stock_items ys (top - 1) run
  pub long : length ys ≡ length xs

-- The least is the first of the run, which is one shorter without it.
pub record RunPops (least : Record) (xs : List Record) (top run : ℕ) : Type 0 where
  pub stock : IsStock xs top (run - 1)
  pub items : stock_items xs top run ≡ least ∷ stock_items xs top (run - 1)

-- The heap has the least half of all, rounded up, and the others stand after it in order.
pub record StockHalves (keep : ℕ) (xs ys : List Record) (top run : ℕ) : Type 0 where
  pub keep_is : keep ≡ (top + run) - (top + run) / 2
  pub stock : IsStock ys keep 0
  pub items : stock_items xs top run
      ≡ stock_items ys keep 0 ++ take ((top + run) / 2) (between ys keep 0)
  pub long : length ys ≡ length xs
