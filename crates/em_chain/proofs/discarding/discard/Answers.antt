use Rattle.std.proofs.Common.{◌≡◌, ◌-◌, ◌+◌, arith}
use Rattle.em_chain.proofs.Rows.{discard_goes, discard_more}
use Rattle.em_chain.proofs.discarding.discard.Goals as goal

pub returns-in_err-link-clause-goes : goal.returns-in_err-link-clause-goes
returns-in_err-link-clause-goes g c =
    let lt = c.loop-done-test.true in
    discard_goes c.args.chain c.loop-done.link (c.args.chain.blocks - c.loop-done.done - 1)
    (omega arith) c.loop-done.invariant c.drop_block.ensures.goes

pub loop-done-preserved : goal.loop-done-preserved
loop-done-preserved g c =
    let left = c.args.chain.blocks - c.loop-done.done - 1 in
    let lt = c.loop-done-test.true in
    let f : c.args.chain.blocks - (c.loop-done.done + 1) ≡ left = omega arith in
    let k = c.drop_block.ensures in
    let o = c.in_ok-link.ensures in
    rw f (discard_more c.args.chain c.loop-done.link c.in_ok-link.link left (omega arith)
    c.loop-done.invariant k.goes o.drops k.frees.moves o.frees.used k.frees.most)
