use Rattle.std.proofs.Common.{arith}
use Rattle.em_tree_part_tests.proofs.Builders.{got_as, got_then}
use Rattle.em_tree_part_tests.proofs.built.push_all.Goals as goal

pub loop-number-preserved : goal.loop-number-preserved
loop-number-preserved g c = record { got = got_then c.loop-number.invariant.got c.in_ok-push_next.ensures }

pub returns : goal.returns
returns g c =
    let most = c.loop-number.auto.number-end in
    let done = c.loop-number-test.false in
    got_as c.loop-number.number c.args.pairs (omega (arith, most, done)) c.loop-number.invariant.got
