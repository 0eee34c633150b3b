use Rattle.std.proofs.Common.{arith}
use Rattle.em_segment_parts.proofs.Gets.{gets_stop, load_begins, load_err, load_next}
use Rattle.em_segment_parts.proofs.loading.read_load.Goals as goal

pub loop-place-init : goal.loop-place-init
loop-place-init g c = load_begins c.args.area.now c.requires.sound c.requires.is

pub read_to-requires-clause-sound : goal.read_to-requires-clause-sound
read_to-requires-clause-sound g c = c.loop-place.invariant.reads.runs.session.sound

pub read_to-requires-clause-is : goal.read_to-requires-clause-is
read_to-requires-clause-is g c = c.loop-place.invariant.reads.took.is

pub read_to-requires-clause-some : goal.read_to-requires-clause-some
read_to-requires-clause-some g c =
    let left = c.loop-place.invariant.left in
    omega (arith, left, c.loop-place-test.true, c.requires.few)

pub read_to-requires-clause-room : goal.read_to-requires-clause-room
read_to-requires-clause-room g c =
    let len = c.loop-place.invariant.len in
    omega (arith, len, c.loop-place-test.true, c.requires.room)

pub read_to-requires-clause-free : goal.read_to-requires-clause-free
read_to-requires-clause-free g c =
    let free = c.loop-place.invariant.reads.runs.frames.free in
    omega (arith, free, c.requires.free)

pub returns-in_err-read_to-clause-reads : goal.returns-in_err-read_to-clause-reads
returns-in_err-read_to-clause-reads g c =
    load_err _ _ _ _ _ _ _ c.from_residual.result _ c.from_residual.ensures.1
    (gets_stop c.loop-place.invariant.reads c.in_err-read_to.ensures.puts)

pub loop-place-preserved : goal.loop-place-preserved
loop-place-preserved g c =
    let len = c.loop-place.invariant.len in
    load_next c.loop-place.place (omega (arith, len, c.loop-place-test.true, c.requires.room))
    c.loop-place.invariant c.in_ok-read_to.ensures.puts
