use Rattle.aig_bin.proofs.Literals.{latch_is}
use Rattle.aig_bin.proofs.line.next_line.Goals as goal

pub returns-clause-is : goal.returns-clause-is
returns-clause-is g c = latch_is c.args.header.now c.args.before _ _ c.requires.header
    c.requires.before c.in_ok-next.ensures.allowed
