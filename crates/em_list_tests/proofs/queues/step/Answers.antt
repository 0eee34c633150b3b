use Rattle.std.proofs.lemmas.Result.{on_ok_weaker}
use Rattle.em_list_tests.proofs.queues.step.Goals as goal

pub returns-clause-lacks : goal.returns-clause-lacks
returns-clause-lacks g c = on_ok_weaker c.checks.result
    (λ later. later c.args.number c.requires.lacks) c.checks.ensures.lacks
