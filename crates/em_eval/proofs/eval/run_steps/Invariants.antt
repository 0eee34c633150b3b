use Rattle.std.proofs.Common.{◌-◌, ◌^◌, ◌≤◌}
use Rattle.em_space.specs.Seen.{seen}
use Rattle.aig_text.specs.Source.{source}
use Rattle.aig_sweep.specs.Scene.{scene}
use Rattle.em_eval.specs.Evaluation.{step_round}
use Rattle.em_eval.proofs.RoundLoop.{MadeRounds, first_scene}
use Rattle.em_eval.proofs.eval.run_steps.Given as goal

abbrev pub invariant-loop : goal.invariant-loop
invariant-loop g l =
    let first = seen g.D.Device.state l.fn.rig in
    record {
      made : MadeRounds g.Q.Queue (step_round first l.fn.evaluator.sweeper) g.H.Shelf.tells
          g.W.Sink.took
          (first_scene g.H.Shelf g.W.Sink first l.fn.evaluator.sweeper l.fn.shelf l.fn.out)
          (scene (seen g.D.Device.state l.rig) l.evaluator.sweeper (source g.H.Shelf l.feed l.shelf)
          (g.W.Sink.state l.out) l.printer);
      later : g.W.Sink.faults l.fn.out ≤ g.W.Sink.faults l.out;
    }

abbrev pub decreases-loop : goal.decreases-loop
decreases-loop g l = 2 ^ 50 - l.feed.place
