use Rattle.aig_bin.proofs.Literals.{gate_is}
use Rattle.aig_bin.proofs.line.gate_deltas.Goals as goal

pub returns-clause-is : goal.returns-clause-is
returns-clause-is g c = gate_is c.args.header.now c.args.before _ _ c.requires.header
    c.requires.before
