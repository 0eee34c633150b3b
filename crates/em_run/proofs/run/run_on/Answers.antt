use Rattle.em_run.proofs.Origins.{runs_on_made}
use Rattle.em_run.proofs.run.run_on.Goals as goal

pub returns-in-Made-clause-runs : goal.returns-in-Made-clause-runs
returns-in-Made-clause-runs g c =
    runs_on_made c.args.origin c.args.first.now c.args.second.now c.in-Made.is c.run_made.ensures.runs
