use Rattle.std.proofs.Common.{rules}
use Rattle.em_gen.proofs.Lines.{refilled}
use Rattle.em_gen.proofs.made.refill.Goals as goal

pub returns-clause-refilled : goal.returns-clause-refilled
returns-clause-refilled c =
    refilled _ _ _ _ _ c.make_line.ensures.makes (search rules)
