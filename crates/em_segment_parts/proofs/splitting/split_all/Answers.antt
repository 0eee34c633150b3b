use Rattle.std.proofs.Common.{arith}
use Rattle.em_segment_parts.proofs.StripsMade.{splits_can, splits_done, splits_err, splits_few, splits_more, splits_none, splits_stop, strips_room}
use Rattle.em_segment_parts.proofs.splitting.split_all.Goals as goal

pub loop-left-init : goal.loop-left-init
loop-left-init g c =
    splits_none c.requires.sound c.requires.is c.requires.most c.requires.count c.new.ensures
    c.new-2.ensures

pub split_next-requires-clause-can : goal.split_next-requires-clause-can
split_next-requires-clause-can g c = splits_can c.requires.taking c.loop-left.invariant

pub split_next-requires-clause-room : goal.split_next-requires-clause-room
split_next-requires-clause-room g c =
    strips_room _ c.requires.sound
    (splits_few c.requires.sound c.loop-left-test.true (rw c.requires.count at c.requires.strips)
    c.loop-left.invariant)

pub returns-in_err-split_next-clause-splits : goal.returns-in_err-split_next-clause-splits
returns-in_err-split_next-clause-splits g c =
    splits_err _ _ _ _ _ c.from_residual.result _ c.from_residual.ensures.1
    (splits_stop c.requires.sound c.loop-left-test.true (rw c.requires.count at c.requires.strips)
    c.loop-left.invariant c.in_err-split_next.ensures.splits)

pub loop-left-preserved : goal.loop-left-preserved
loop-left-preserved g c =
    let min = c.min-number.ensures in
    let some = c.loop-left-test.true in
    let most = c.requires.most in
    splits_more (omega (arith, min, some, most)) (omega (arith, min)) (omega (arith, min))
    (λ l. omega (arith, min, l)) c.loop-left.invariant c.in_ok-split_next.ensures.splits

pub returns-clause-splits : goal.returns-clause-splits
returns-clause-splits g c = splits_done (omega (arith, c.loop-left-test.false)) c.loop-left.invariant
