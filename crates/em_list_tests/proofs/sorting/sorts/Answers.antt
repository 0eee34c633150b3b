use Rattle.std.proofs.Common.{refl, sym, ◌∙◌}
use Rattle.em_list_tests.specs.contracts.room_queue.RoomQueueQueue.TheImpl.{ghosts}
use Rattle.em_list_tests.proofs.Sorted.{can_sort, kept_refused, kept_sorted, kept_stops, queue_kept, three_lack}
use Rattle.em_list_tests.proofs.sorting.sorts.Goals as goal

pub returns-in_err-list : goal.returns-in_err-list
returns-in_err-list g c = record {
  kept = kept_refused c.from_residual.result c.from_residual.ensures.0 c.requires.ready.is
      c.write.ensures.goes;
}

pub sort-requires-clause-is : goal.sort-requires-clause-is
sort-requires-clause-is g c = (queue_kept c.requires.ready.is c.write.ensures.goes).0

pub sort-requires-clause-can : goal.sort-requires-clause-can
sort-requires-clause-can g c =
    let e = c.in_ok-list.ensures in
    can_sort {h = ghosts} {x = c.args.queue.now} refl refl c.requires.ready e.goes e.is e.count (λ z. three_lack _
    (e.items (sym e.goes.touches.told ∙ z) ∙ rw (c.item.ensures.is, c.item-2.ensures.is, c.item-3.ensures.is) refl))

pub returns-in_err-sorted : goal.returns-in_err-sorted
returns-in_err-sorted g c =
    let r = c.from_residual-in_err-sorted in
    let e = c.in_err-sorted.ensures in record {
      kept = kept_stops c.args.queue.now.queue r.result r.ensures.0 c.write.ensures.goes e.sorts e.frames;
    }

pub returns : goal.returns
returns g c =
    let e = c.in_ok-sorted.ensures in record {
      kept = kept_sorted c.args.queue.now.queue c.in_ok-sorted.sorted c.takes.result c.write.ensures.goes e.sorts.runs e.queue c.takes.ensures.goes;
    }
