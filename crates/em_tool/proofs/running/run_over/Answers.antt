use Rattle.std.proofs.Common.{refl}
use Rattle.em_tool.proofs.Unsent.{part_none}
use Rattle.em_tool.proofs.running.run_over.Goals as goal

pub returns-in_default-clause-front : goal.returns-in_default-clause-front
returns-in_default-clause-front g c = λ tells told.
    part_none g.met.W.Sink.rule (g.met.W.Sink.is_state c.args.out.now) _ refl
