use Rattle.std.proofs.Common.{refl, arith}
use Rattle.em_gen.proofs.Counting.{counts_next}
use Rattle.em_gen.proofs.tally.Tally.count_all.Goals as goal

pub loop-at-preserved : goal.loop-at-preserved
loop-at-preserved c =
    counts_next c.args.self.now c.loop-at.self c.args.bytes.now c.loop-at.at 0 _
    (omega (arith, c.loop-at-test.true)) c.loop-at.invariant refl c.count.ensures
