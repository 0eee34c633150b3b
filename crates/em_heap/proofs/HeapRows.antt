-- Heaps that were laid out by hand.
use Rattle.std.proofs.Common.{◌≡◌, ℕ, zero, suc, List, [], ◌∷◌, refl, arith, true≢false}
use Rattle.em_record.specs.declared.record.Record.{Record}
use Rattle.em_heap.specs.Heap.{IsHeapWithin, IsHeap, heap_items, HeapPushes, HeapPops, HeapHalves}
use Rattle.em_heap.proofs.Heaps.{ascending_heap}

-- the record with this word a, and zeros
abbrev key : ℕ → Record
key a = record { a = a; b = 0; c = 0; d = 0 }

-- a heap of three records, and another record after it
abbrev three : List Record
three = key 2 ∷ key 7 ∷ key 5 ∷ key 1 ∷ []

-- its records in order
three_items : heap_items three 3 ≡ key 2 ∷ key 5 ∷ key 7 ∷ []
three_items = refl

-- and with the one after it
four_items : heap_items three 4 ≡ key 1 ∷ key 2 ∷ key 5 ∷ key 7 ∷ []
four_items = refl

-- none of the three is below its parent
three_within : IsHeapWithin three 0 3
three_within zero zero d lo a b f = absurd (omega arith)
three_within zero (suc zero) d lo a b f = refl
three_within zero (suc (suc zero)) d lo a b f = refl
three_within zero (suc (suc (suc k))) d lo a b f = absurd (omega arith)
three_within (suc p) k d lo a b f = absurd (omega arith)

-- so it is a heap
three_heap : IsHeap three 3
three_heap = record { order = three_within; within = omega arith }

-- with the record after it, it is no heap: 1 is below its parent 7
four_is_none : IsHeap three 4 → ⊥
four_is_none h = true≢false (h.order 1 3 (key 0) (omega arith) (omega arith) (omega arith) (omega arith))

-- a heap of two records with an equal one pushed, which stands beside it
twice : HeapPushes (key 2) (key 2 ∷ key 5 ∷ key 9 ∷ []) (key 2 ∷ key 5 ∷ key 2 ∷ []) 2
twice = record {
  heap = record { order = twice_within; within = omega arith };
  items = refl;
  long = refl;
}
  where
    twice_within : IsHeapWithin (key 2 ∷ key 5 ∷ key 2 ∷ []) 0 3
    twice_within zero zero d lo a b f = absurd (omega arith)
    twice_within zero (suc zero) d lo a b f = refl
    twice_within zero (suc (suc zero)) d lo a b f = refl
    twice_within zero (suc (suc (suc k))) d lo a b f = absurd (omega arith)
    twice_within (suc p) k d lo a b f = absurd (omega arith)

-- the least of three records was taken
taken : HeapPops (key 2) three (key 5 ∷ key 7 ∷ key 5 ∷ key 1 ∷ []) 3
taken = record {
  heap = ascending_heap (key 5 ∷ key 7 ∷ key 5 ∷ key 1 ∷ []) 2 (omega arith) ((refl, tt), (tt, tt));
  items = refl;
  long = refl;
}

-- of three records two stay, and the greatest stands after them
halved : HeapHalves 2 three (key 2 ∷ key 5 ∷ key 7 ∷ key 1 ∷ []) 3
halved = record {
  keep_is = refl;
  heap = ascending_heap (key 2 ∷ key 5 ∷ key 7 ∷ key 1 ∷ []) 2 (omega arith) ((refl, tt), (tt, tt));
  items = refl;
  long = refl;
}
