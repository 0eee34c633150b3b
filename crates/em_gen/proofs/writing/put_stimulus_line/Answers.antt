use Rattle.std.proofs.Common.{◌≡◌, List, ℕ, ap, length, arith}
use Rattle.em_gen.proofs.Lines.{bits_len, bits_next, sixteen_after, stimulus_is}
use Rattle.em_gen.proofs.writing.put_stimulus_line.Goals as goal

pub put_bit-requires-clause-room : goal.put_bit-requires-clause-room
put_bit-requires-clause-room c =
    let e = ap (λ (bs : List ℕ). length bs) c.loop.invariant.0 in
    let n = bits_len c.loop.counter c.args.draws.now in
    omega (arith, c.loop-test.true)

pub loop-preserved : goal.loop-preserved
loop-preserved c =
    let i = c.loop.invariant in
    let k = bits_next c.loop.counter c.args.draws.now c.loop.draws i.0 i.1 c.put_bit.ensures.is
    c.put_bit.ensures.state in
    (k.0, k.1, c.put_bit.ensures.below)

pub returns-clause-is : goal.returns-clause-is
returns-clause-is c =
    stimulus_is c.loop.counter c.args.draws.now (omega (arith, c.loop-test.false))
    c.loop.invariant.0 c.add.ensures.is

pub returns-clause-state : goal.returns-clause-state
returns-clause-state c =
    sixteen_after c.loop.counter c.args.draws.now (omega (arith, c.loop-test.false))
    c.loop.invariant.1
