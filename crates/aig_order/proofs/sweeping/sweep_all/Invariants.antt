use Rattle.std.proofs.Common.{◌≤◌}
use Rattle.em_space.specs.Seen.{seen}
use Rattle.aig_order.specs.SweepCalls.{Sweeps}
use Rattle.aig_order.proofs.sweeping.sweep_all.Given as goal

abbrev pub invariant-loop-number : goal.invariant-loop-number
invariant-loop-number g l =
    let first = seen g.D.Device.state l.fn.rig in
    let now = seen g.D.Device.state l.rig in
    record {
      queue : g.Q.Queue.IsQueue l.queue now;
      most : l.number ≤ l.count;
      sweeps : Sweeps g.Q.Queue l.header l.sweep l.base l.number l.fn.queue l.queue l.fn.standing
          l.now l.fn.writer l.writer l.fn.reader l.reader l.fn.limits l.limits first now;
    }
