use Rattle.std.proofs.Common.{◌*◌, ◌^◌, ◌≤◌, length}
use Rattle.std.specs.Prelude.{Ok}
use Rattle.em_space.specs.Seen.{seen}
use Rattle.em_structure_tests.specs.Ready.{KeepsQueue}
use Rattle.em_structure_tests.proofs.queues.step_all.Given as goal

abbrev pub invariant-loop-call : goal.invariant-loop-call
invariant-loop-call g l = record {
  kept : KeepsQueue {T = Unit {0}} (2 ^ 20 * l.call-index) (seen g.D.Device.state l.fn.rig)
      (seen g.D.Device.state l.rig) l.fn.queue l.queue (Ok tt);
  within : l.call-index ≤ length l.calls;
}
