use Rattle.std.proofs.Common.{arith}
use Rattle.em_record.proofs.Levels.{lev-more, next-less}
use Rattle.em_record.proofs.bounds.lev.Goals as goal

pub loop-left-preserved : goal.loop-left-preserved
loop-left-preserved c =
    let inv = c.loop-left.invariant in
    let is = c.fan.ensures.limits in
    let next = rw c.fan.ensures.value at c.div_ceil-left.ensures in
    let shape = c.args.shape.now in
    let left = c.loop-left.left in
    let less = next-less shape left c.div_ceil-left.result is c.loop-left-test.true next in
    record {
      few = omega (arith, less, inv.few);
      value = lev-more shape c.args.x left c.loop-left.levels c.div_ceil-left.result is
          c.loop-left-test.true next inv.value;
    }
