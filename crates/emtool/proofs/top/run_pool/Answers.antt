use Rattle.std.proofs.Common.{ap, refl, rules}
use Rattle.em_frames.specs.Pool.{PoolCounts}
use Rattle.em_space.specs.Seen.{seen}
use Rattle.em_ends.proofs.EndLaws.{unmoved_device, unmoved_memory}
use Rattle.emtool.proofs.TopLaws.{job_run, leaves_no_memory, leaves_unbegun, opened_run, words_run}
use Rattle.emtool.proofs.top.run_pool.Goals as goal

pub returns-in-Ok-clause-runs : goal.returns-in-Ok-clause-runs
returns-in-Ok-clause-runs g c =
    opened_run c.args.pool (seen g.D.Device.state c.in-Ok.rig)
    (seen g.D.Device.state c.run_job-status.new.rig) c.in-Ok.ensures.opened
    (ap (λ (p : PoolCounts). p.shape) c.requires.pool) (search rules)
    (words_run c.args.words.now c.requires.job c.run_job-status.ensures.runs)
    (search rules)

pub returns-in-Failed-clause-runs : goal.returns-in-Failed-clause-runs
returns-in-Failed-clause-runs g c = job_run
    (unmoved_device g.met.W.Sink.rule _ _ _ _ _ _ (g.met.W.Sink.is_state c.args.out.now) refl
    (search rules))
    (search (rules, leaves_unbegun))

pub returns-in-NoMemory-clause-runs : goal.returns-in-NoMemory-clause-runs
returns-in-NoMemory-clause-runs g c = job_run
    (unmoved_memory g.met.W.Sink.rule _ _ _ _ _ _ (g.met.W.Sink.is_state c.args.out.now) refl
    (search rules))
    (search (rules, leaves_no_memory))
