use Rattle.aig_tests.proofs.Making.{gives_back}
use Rattle.aig_tests.proofs.evaluation.evaluate_steps.Goals as goal

pub returns-in_ok-end-in-Ok : goal.returns-in_ok-end-in-Ok
returns-in_ok-end-in-Ok g c = gives_back g.Q.Queue _ _ _ _ c.args.ordered c.args.queue _ _ _
    c.in_ok-evaluator.ensures.begins c.step_all.ensures c.in_ok-end-in-Ok.ensures.ends
