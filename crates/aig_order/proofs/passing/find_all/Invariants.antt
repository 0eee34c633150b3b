use Rattle.std.proofs.Common.{◌≡◌, ◌≤◌}
use Rattle.em_space.specs.Seen.{seen}
use Rattle.aig_order.specs.Marks.{FitsArea}
use Rattle.aig_order.proofs.Finds.{Passed}
use Rattle.aig_order.proofs.passing.find_all.Given as goal

abbrev pub invariant-loop : goal.invariant-loop
invariant-loop g l =
    let first = seen g.D.Device.state l.fn.rig in
    let now = seen g.D.Device.state l.rig in
    record {
      queue : g.Q.Queue.IsQueue l.queue now;
      most : l.counter ≤ l.header.gates;
      passes : l.passes ≡ l.counter;
      passed : Passed g.Q.Queue l.header l.fn.list l.counter l.next l.fn.queue l.queue l.list first now;
      still : FitsArea l.header first.pool.shape → l.queue ≡ l.fn.queue;
    }
