use Rattle.aig_text.proofs.SectionRows.{gate_within}
use Rattle.aig_text.proofs.line.gate_line.Goals as goal

pub returns-clause-is : goal.returns-clause-is
returns-clause-is g c = gate_within c.args.header.now _ c.in_ok-lhs.ensures.allowed
    c.in_ok-rhs0.ensures.allowed c.in_ok-rhs1.ensures.allowed
