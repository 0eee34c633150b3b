use Rattle.std.proofs.Common.{◌≡◌, ◌+◌, ◌*◌, ◌^◌}
use Rattle.em_space.specs.Seen.{seen}
use Rattle.aig_text.specs.Source.{source}
use Rattle.aig_tests.specs.Stepping.{KeepsFrames, ReadyToStep}
use Rattle.aig_tests.proofs.groups.group_all.Given as goal

abbrev pub invariant-loop : goal.invariant-loop
invariant-loop g l =
    let now = seen g.D.Device.state l.rig in
    record {
      ready : ReadyToStep g.Q.Queue (2 ^ 90 + l.counter * 2 ^ 46)
          (source g.H.Shelf l.feed l.shelf) now l.evaluator.sweeper;
      none : l.evaluator.sweeper.header.latches ≡ 0;
      keeps : KeepsFrames (g.Q.Queue.counts l.fn.evaluator.sweeper.queue)
          (g.Q.Queue.counts l.evaluator.sweeper.queue) (seen g.D.Device.state l.fn.rig) now;
    }
