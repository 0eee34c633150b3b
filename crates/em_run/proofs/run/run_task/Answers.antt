use Rattle.em_run.proofs.Origins.{runs_eval}
use Rattle.em_run.proofs.run.run_task.Goals as goal

pub returns-in-Eval-clause-runs : goal.returns-in-Eval-clause-runs
returns-in-Eval-clause-runs g c =
    runs_eval c.args.task c.in-Eval.uninit c.in-Eval.wide c.args.first.now c.args.second.now c.in-Eval.is
    c.run_eval.ensures.runs
