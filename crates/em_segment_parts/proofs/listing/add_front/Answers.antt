use Rattle.std.proofs.Common.{arith}
use Rattle.em_segment_parts.proofs.Fronts.{front_all, front_begins, front_err, front_more, front_past, front_refused}
use Rattle.em_segment_parts.proofs.Reading.{reads_beside}
use Rattle.em_segment_parts.proofs.listing.add_front.Goals as goal

pub loop-init : goal.loop-init
loop-init g c = front_begins c.args.load.now c.requires.sound c.requires.beside

pub add_next-requires-clause-sound : goal.add_next-requires-clause-sound
add_next-requires-clause-sound g c = c.loop.invariant.reads.runs.session.sound

pub add_next-requires-clause-beside : goal.add_next-requires-clause-beside
add_next-requires-clause-beside g c = reads_beside c.requires.beside c.loop.invariant.reads

pub add_next-requires-clause-left : goal.add_next-requires-clause-left
add_next-requires-clause-left g c =
    let left = c.loop.invariant.reads.took.left_is in
    let len = c.loop.invariant.len in
    omega (arith, left, len, c.loop-test.true, c.requires.count)

pub add_next-requires-clause-free : goal.add_next-requires-clause-free
add_next-requires-clause-free g c =
    let free = c.loop.invariant.reads.runs.frames.free in omega (arith, free, c.requires.free)

pub returns-in_err-add_next-clause-adds : goal.returns-in_err-add_next-clause-adds
returns-in_err-add_next-clause-adds g c =
    front_err _ _ _ _ _ _ _ c.from_residual.result _ c.from_residual.ensures.1
    (front_refused c.loop.invariant c.in_err-add_next.ensures.adds)

pub returns-then-not-branch-clause-adds : goal.returns-then-not-branch-clause-adds
returns-then-not-branch-clause-adds g c =
    let adds = rw c.if-not-branch.true at c.in_ok-add_next.ensures.adds in
    front_past c.loop.invariant adds

pub loop-preserved : goal.loop-preserved
loop-preserved g c =
    let adds = rw c.if-not-branch.false at c.in_ok-add_next.ensures.adds in
    front_more c.loop.invariant adds

pub returns-clause-adds : goal.returns-clause-adds
returns-clause-adds g c =
    front_all (omega (arith, c.loop-test.false, c.loop.auto.counter-end, c.requires.count))
    c.loop.invariant

pub returns-clause-reader_frame : goal.returns-clause-reader_frame
returns-clause-reader_frame g c = c.loop.invariant.reads.took.is.frame

pub returns-clause-frame : goal.returns-clause-frame
returns-clause-frame g c = c.loop.invariant.reads.wrote.is.frame
