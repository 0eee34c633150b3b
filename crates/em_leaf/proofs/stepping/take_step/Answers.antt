use Rattle.em_leaf.proofs.Steps.{stepped}
use Rattle.em_leaf.proofs.stepping.take_step.Goals as goal

pub returns-clause-steps : goal.returns-clause-steps
returns-clause-steps g c =
    let a = c.advance-finding.ensures in
    stepped (g.S.Settle.key_of c.args.settle.now)
    (g.S.Settle.step_of c.args.settle.now) c.args.ops.now
    c.advance-finding.result.1 c.advance-finding.result.0 c.requires.within
    c.in_ok-read_ahead.ensures.reads
    a.counts a.within a.moves_on
