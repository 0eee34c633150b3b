use Rattle.std.proofs.Common.{arith}
use Rattle.em_segment.proofs.LeafTakes.{takes_beside, takes_err, takes_is, takes_none, takes_stops, takes_then}
use Rattle.em_segment.proofs.leaf.add_pieces.Goals as goal

pub loop-init : goal.loop-init
loop-init g c = takes_none c.args.load.now c.requires.sound c.requires.beside

pub add_taken-requires-clause-sound : goal.add_taken-requires-clause-sound
add_taken-requires-clause-sound g c = c.loop.invariant.pairs.runs.session.sound

pub add_taken-requires-clause-beside : goal.add_taken-requires-clause-beside
add_taken-requires-clause-beside g c = takes_beside c.requires.beside c.loop.invariant

pub add_taken-requires-clause-left : goal.add_taken-requires-clause-left
add_taken-requires-clause-left g c =
    let left = c.loop.invariant.pairs.took.left_is in
    let len = c.loop.invariant.len in
    omega (arith, left, len, c.loop-test.true, c.requires.count)

pub add_taken-requires-clause-free : goal.add_taken-requires-clause-free
add_taken-requires-clause-free g c =
    let free = c.loop.invariant.pairs.runs.frames.free in omega (arith, free, c.requires.free)

pub returns-in_err-add_taken-clause-takes : goal.returns-in_err-add_taken-clause-takes
returns-in_err-add_taken-clause-takes g c =
    takes_err _ _ _ _ _ _ _ _ _ c.from_residual.result _ c.from_residual.ensures.1
    (takes_stops c.loop.invariant c.in_err-add_taken.ensures.takes)

pub loop-preserved : goal.loop-preserved
loop-preserved g c = takes_then c.loop.invariant c.in_ok-add_taken.ensures.takes

pub returns-clause-takes : goal.returns-clause-takes
returns-clause-takes g c =
    takes_is (omega (arith, c.loop-test.false, c.loop.auto.counter-end)) c.loop.invariant

pub returns-clause-reader_frame : goal.returns-clause-reader_frame
returns-clause-reader_frame g c = c.loop.invariant.pairs.took.is.frame

pub returns-clause-frame : goal.returns-clause-frame
returns-clause-frame g c = c.loop.invariant.pairs.wrote.is.frame
