use Rattle.std.proofs.Common.{arith}
use Rattle.aig_table.proofs.Tables.{copied_all, copied_next, copied_none}
use Rattle.aig_table.proofs.table.copy.Goals as goal

pub loop-number-init : goal.loop-number-init
loop-number-init c = copied_none c.fill.ensures.fills

pub loop-number-preserved : goal.loop-number-preserved
loop-number-preserved c =
    copied_next c.get.result c.get.ensures.is (omega (arith, c.loop-number-test.true, c.requires.to))
    c.loop-number.invariant c.and_in.ensures.ands

pub returns-clause-bits : goal.returns-clause-bits
returns-clause-bits c =
    copied_all c.loop-number.invariant (omega (arith, c.loop-number-test.false, c.loop-number.auto.number-end))
