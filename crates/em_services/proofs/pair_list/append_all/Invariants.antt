use Rattle.std.proofs.Common.{◌≡◌, ◌≤◌, ◌^◌, ◌+◌, []}
use Rattle.em_settle.specs.Add.{apply_of}
use Rattle.em_space.specs.Seen.{seen}
use Rattle.em_services.specs.Listing.{Lists}
use Rattle.em_services.proofs.pair_list.append_all.Given as goal

abbrev pub invariant-loop : goal.invariant-loop
invariant-loop g l =
    record {
      lists : Lists (apply_of l.fn.drain.tree.settle.kind) (seen g.D.Device.state l.fn.rig) (seen g.D.Device.state l.rig)
          l.fn.drain l.drain l.list [];
      rule : l.drain.tree.settle ≡ l.fn.drain.tree.settle;
      count : l.list.count ≡ l.counter;
      most : l.counter ≤ 2 ^ 40 + 1;
    }
