use Rattle.std.proofs.Common.{refl, rules}
use Rattle.em_ends.proofs.EndLaws.{unmoved_memory}
use Rattle.emtool.proofs.TopLaws.{job_run, leaves_no_memory}
use Rattle.emtool.proofs.top.run_granted.Goals as goal

pub returns-in_default-clause-runs : goal.returns-in_default-clause-runs
returns-in_default-clause-runs g c = job_run
    (unmoved_memory g.met.W.Sink.rule _ _ _ _ _ _ (g.met.W.Sink.is_state c.args.out.now) refl refl)
    (search (rules, leaves_no_memory))
