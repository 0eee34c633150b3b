use Rattle.std.proofs.Common.{length, ◌-◌, ◌≡◌, ◌≤◌, take}
use Rattle.em_io.proofs.sink.send.Given as goal

abbrev pub invariant-loop-done : goal.invariant-loop-done
invariant-loop-done g l = record {
  within : l.done ≤ length l.bytes;
  state : g.W.Sink.state l.sink
      ≡ g.W.Sink.took (g.W.Sink.state l.initial.sink) (take l.done l.bytes);
  later : g.W.Sink.faults l.initial.sink ≤ g.W.Sink.faults l.sink;
}

abbrev pub decreases-loop-done : goal.decreases-loop-done
decreases-loop-done g l = length l.bytes - l.done
