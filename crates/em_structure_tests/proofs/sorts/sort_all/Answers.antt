use Rattle.std.proofs.Common.{length}
use Rattle.em_structure_tests.proofs.SortKeeps.{can_sort, kept_refused, kept_sorted, kept_stops, queue_kept}
use Rattle.em_structure_tests.proofs.sorts.sort_all.Goals as goal

pub returns-in_err-list : goal.returns-in_err-list
returns-in_err-list g c = record {
  kept = kept_refused c.from_residual.result c.from_residual.ensures.0 c.requires.ready c.write.ensures.goes;
}

pub sort-requires-clause-is : goal.sort-requires-clause-is
sort-requires-clause-is g c = queue_kept c.requires.ready.is c.write.ensures.goes

pub sort-requires-clause-can : goal.sort-requires-clause-can
sort-requires-clause-can g c =
    let e = c.in_ok-list.ensures in
    can_sort {n = length c.args.records.now} c.requires.ready c.requires.empty c.requires.free e.goes e.is e.count

pub returns-in_err-sorted : goal.returns-in_err-sorted
returns-in_err-sorted g c =
    let r = c.from_residual-in_err-sorted in
    let e = c.in_err-sorted.ensures in record {
      kept = kept_stops r.result r.ensures.0 c.requires.ready c.write.ensures.goes e.sorts e.frames;
    }

pub returns : goal.returns
returns g c =
    let e = c.in_ok-sorted.ensures in record {
      kept = kept_sorted {n = length c.args.records.now} c.read_all.result c.requires.ready c.write.ensures.goes
          c.in_ok-list.ensures.count e.sorts e.queue c.read_all.ensures.goes;
    }
