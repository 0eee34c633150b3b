use Rattle.std.proofs.Common.{◌≡◌, ◌+◌, ◌/◌, arith}
use Rattle.em_bits.proofs.Words.{fills_front}
use Rattle.em_bits.proofs.bits.fill_to.Goals as goal

pub returns : goal.returns
returns c =
    let end : c.loop-at.at ≡ c.args.last / 256 + 1 =
    omega (arith, c.loop-at-test.false, c.loop-at.auto.at-end) in
    record {
      fills = fills_front c.loop-at.at c.args.last c.args.records.now c.loop-at.records end
          c.loop-at.invariant;
    }
