use Rattle.std.proofs.Common.{◌≡◌, length, arith}
use Rattle.em_bits.proofs.Words.{fills_all}
use Rattle.em_bits.proofs.bits.fill.Goals as goal

pub returns : goal.returns
returns c =
    let end : c.loop-place.place ≡ length c.args.records.now =
    omega (arith, c.loop-place-test.false, c.loop-place.auto.place-end) in
    record {
      fills = fills_all c.loop-place.place c.args.records.now c.loop-place.records end
          c.loop-place.invariant;
    }
