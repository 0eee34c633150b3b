use Rattle.std.proofs.Common.{arith}
use Rattle.em_balance.proofs.Answered.{says_grows, says_growth}
use Rattle.em_balance.proofs.Framed.{grows_framed}
use Rattle.em_balance.proofs.growing.grow_up.Goals as goal

pub returns-clause-grows : goal.returns-clause-grows
returns-clause-grows g c =
    says_grows _ _ _ _ c.grow_into-grown.result
    (grows_framed _ _ c.args.upper c.grow_into-grown.result c.requires.sound (omega (arith, c.requires.free))
    c.lend-frame.ensures.lent c.grow_into-grown.ensures.grows c.give.ensures.given)

pub returns-clause-runs : goal.returns-clause-runs
returns-clause-runs g c =
    says_growth _ _ _ c.args.upper c.grow_into-grown.result
    (grows_framed _ _ c.args.upper c.grow_into-grown.result c.requires.sound (omega (arith, c.requires.free))
    c.lend-frame.ensures.lent c.grow_into-grown.ensures.grows c.give.ensures.given)
