use Rattle.aig_text.proofs.SectionRows.{defining_within}
use Rattle.aig_text.proofs.line.input_line.Goals as goal

pub returns-clause-is : goal.returns-clause-is
returns-clause-is g c = defining_within c.args.header.now _ c.in_ok-literal.ensures.allowed
