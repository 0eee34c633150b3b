use Rattle.std.proofs.Common.{arith}
use Rattle.em_balance.proofs.Answered.{says_halves, says_split}
use Rattle.em_balance.proofs.Framed.{splits_framed_twice}
use Rattle.em_balance.proofs.splitting.split_node.Goals as goal

pub returns-clause-halves : goal.returns-clause-halves
returns-clause-halves g c =
    says_halves _ _ _ c.split_into-entry.result
    (splits_framed_twice _ _ c.split_into-entry.result c.requires.sound
    (omega (arith, c.requires.free)) c.lend-frame.ensures.sound c.lend-frame.ensures.lent c.lend-upper.ensures.lent
    c.split_into-entry.ensures.splits c.give.ensures.given c.give-2.ensures.given)

pub returns-clause-runs : goal.returns-clause-runs
returns-clause-runs g c =
    says_split _ _ _ c.split_into-entry.result
    (splits_framed_twice _ _ c.split_into-entry.result c.requires.sound
    (omega (arith, c.requires.free)) c.lend-frame.ensures.sound c.lend-frame.ensures.lent c.lend-upper.ensures.lent
    c.split_into-entry.ensures.splits c.give.ensures.given c.give-2.ensures.given)
