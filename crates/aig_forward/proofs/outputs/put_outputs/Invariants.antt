use Rattle.std.proofs.Common.{◌-◌}
use Rattle.em_space.specs.Queue.{CanServe}
use Rattle.em_space.specs.Seen.{seen}
use Rattle.aig_forward.specs.Outputs.{PutsFront, printing}
use Rattle.aig_forward.proofs.outputs.put_outputs.Given as goal

abbrev pub invariant-loop : goal.invariant-loop
invariant-loop g l =
    let now = seen g.D.Device.state l.rig in
    record {
      queue : g.Q.Queue.IsQueue l.queue now;
      free : CanServe now.pool;
      front : PutsFront g.W.Sink.took l.count (l.count - l.counter)
          (printing g.Q.Queue g.W.Sink l.fn.queue l.fn.sink l.fn.printer
          (seen g.D.Device.state l.fn.rig))
          (printing g.Q.Queue g.W.Sink l.queue l.sink l.printer now);
    }
