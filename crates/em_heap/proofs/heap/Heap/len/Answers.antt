use Rattle.std.proofs.Common.{◌≡◌, length, take, subst, ◌∙◌, arith, length-take-le}
use Rattle.em_record.specs.Order.{IsAscending}
use Rattle.em_record.proofs.Order.{all_ascend, length_order, length_records, order_ascends}
use Rattle.em_heap.specs.Heap.{heap_items}
use Rattle.em_heap.specs.State.{HeapState}
use Rattle.em_heap.specs.Stock.{run_of}
use Rattle.em_heap.proofs.Stocks.{run_long}
use Rattle.em_heap.proofs.heap.Heap.len.Goals as goal

pub returns-clause-items : goal.returns-clause-items
returns-clause-items c =
    let top = c.self.inside.top in
    let run = c.self.inside.run in
    let xs = c.self.inside.area in
    let room = c.self.invariant.room in
    let both = length_records (heap_items xs top) (run_of xs run) in
    let one : length (heap_items xs top) ≡ top =
    length_order (take top xs) ∙ length-take-le top xs (omega (arith, room)) in
    let other = run_long xs run (omega (arith, room)) in
    subst (λ (h : HeapState). c.count.result ≡ length h.items) c.self.view_is
    (c.count.ensures ∙ omega (arith, both, one, other))

pub returns-clause-ascends : goal.returns-clause-ascends
returns-clause-ascends c =
    let top = c.self.inside.top in
    let xs = c.self.inside.area in
    subst (λ (h : HeapState). IsAscending h.items) c.self.view_is
    (all_ascend (heap_items xs top) (run_of xs c.self.inside.run) (order_ascends (take top xs)))
