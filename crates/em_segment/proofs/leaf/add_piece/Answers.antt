use Rattle.std.proofs.Common.{arith}
use Rattle.em_segment.proofs.LeafWrites.{range_all, range_more, range_none, range_past, range_stop}
use Rattle.em_segment_parts.proofs.Writing.{pairs_is, writes_err}
use Rattle.em_segment.proofs.leaf.add_piece.Goals as goal

pub loop-k-init : goal.loop-k-init
loop-k-init g c =
    range_none c.args.load.now c.args.piece c.first_from-k.result c.requires.sound c.requires.is
    c.first_from-k.ensures

pub add_later-requires-clause-sound : goal.add_later-requires-clause-sound
add_later-requires-clause-sound g c = c.loop-k.invariant.writes.runs.session.sound

pub add_later-requires-clause-is : goal.add_later-requires-clause-is
add_later-requires-clause-is g c = pairs_is c.requires.is c.loop-k.invariant.writes

pub add_later-requires-clause-free : goal.add_later-requires-clause-free
add_later-requires-clause-free g c =
    let free = c.loop-k.invariant.writes.runs.frames.free in omega (arith, free, c.requires.free)

pub returns-then-piece-load-clause-frame : goal.returns-then-piece-load-clause-frame
returns-then-piece-load-clause-frame g c = c.loop-k.invariant.writes.wrote.is.frame

pub returns-then-piece-load-clause-writes : goal.returns-then-piece-load-clause-writes
returns-then-piece-load-clause-writes g c =
    range_past c.loop-k-test.true c.requires.ascends c.if-piece-load.true c.loop-k.invariant

pub returns-in_err-add_later-clause-writes : goal.returns-in_err-add_later-clause-writes
returns-in_err-add_later-clause-writes g c =
    writes_err _ _ _ _ _ _ c.from_residual.result _ c.from_residual.ensures.1
    (range_stop c.requires.sound c.loop-k-test.true (omega (arith, c.if-piece-load.false))
    c.loop-k.invariant c.in_err-add_later.ensures.writes)

pub loop-k-preserved : goal.loop-k-preserved
loop-k-preserved g c =
    range_more c.loop-k-test.true (omega (arith, c.if-piece-load.false)) c.loop-k.invariant
    c.in_ok-add_later.ensures.writes

pub returns-clause-writes : goal.returns-clause-writes
returns-clause-writes g c = range_all (omega (arith, c.loop-k-test.false)) c.loop-k.invariant

pub returns-clause-frame : goal.returns-clause-frame
returns-clause-frame g c = c.loop-k.invariant.writes.wrote.is.frame
