use Rattle.std.proofs.Common.{IsTrue, arith, refl, subst, sym}
use Rattle.em_space.specs.Seen.{seen}
use Rattle.em_space.proofs.Queues.{out_same}
use Rattle.em_queued.proofs.Queued.{unstored_frames}
use Rattle.aig_edges.proofs.Pushed.{all_ok}
use Rattle.aig_order.specs.Marks.{FitsArea}
use Rattle.aig_order.proofs.OnePass.{bits_apart, bits_can, bits_goes, bits_pass, queue_pass}
use Rattle.aig_order.proofs.passing.make_pass.Goals as goal

pub pass_by_bits-requires-clause-can : goal.pass_by_bits-requires-clause-can
pass_by_bits-requires-clause-can g c =
    bits_can g.Q.Queue c.args.header.now c.args.next c.args.queue.now c.args.list c.requires.can

pub pass_by_bits-requires-clause-areas : goal.pass_by_bits-requires-clause-areas
pass_by_bits-requires-clause-areas g c =
    let some = c.requires.can.sweeps.free.areas in omega (arith, some)

pub pass_by_bits-requires-clause-fits : goal.pass_by_bits-requires-clause-fits
pass_by_bits-requires-clause-fits g c =
    let yes : IsTrue c.fits.result = c.if-fits.true in
    subst (FitsArea c.args.header.now) c.shape.ensures (c.fits.ensures.is.0 yes)

pub returns-then-fits-clause-frames : goal.returns-then-fits-clause-frames
returns-then-fits-clause-frames g c =
    let laws = g.met.Q.Queue in
    let x = c.args.queue.now in
    let s = seen g.D.Device.state c.args.rig.now in
    let t = seen g.D.Device.state c.pass_by_bits.new.rig in
    let goes = bits_goes c.args.header.now.max c.args.next c.args.list c.pass_by_bits.result
    c.pass_by_bits.ensures.marks in
    let has = laws.frames_of x s c.requires.is in
    laws.frames_stay x _ s t has goes.touches (out_same _ _ _ (laws.out x s has) goes.frames)

pub returns-then-fits-clause-queue : goal.returns-then-fits-clause-queue
returns-then-fits-clause-queue g c =
    let laws = g.met.Q.Queue in
    let x = c.args.queue.now in
    let s = seen g.D.Device.state c.args.rig.now in
    let t = seen g.D.Device.state c.pass_by_bits.new.rig in
    let goes = bits_goes c.args.header.now.max c.args.next c.args.list c.pass_by_bits.result
    c.pass_by_bits.ensures.marks in
    let out = laws.out x s (laws.frames_of x s c.requires.is) in
    let kept = laws.stays x _ s t c.requires.is goes.touches
    (bits_apart g.Q.Queue c.args.header.now c.args.next x c.args.list c.requires.can)
    (out_same _ _ _ out goes.frames) in
    all_ok c.pass_by_bits.result kept.0

pub returns-then-fits-clause-passes : goal.returns-then-fits-clause-passes
returns-then-fits-clause-passes g c =
    let laws = g.met.Q.Queue in
    let x = c.args.queue.now in
    let s = seen g.D.Device.state c.args.rig.now in
    let t = seen g.D.Device.state c.pass_by_bits.new.rig in
    let goes = bits_goes c.args.header.now.max c.args.next c.args.list c.pass_by_bits.result
    c.pass_by_bits.ensures.marks in
    let has = laws.frames_of x s c.requires.is in
    let out = laws.out x s has in
    let kept = laws.stays x _ s t c.requires.is goes.touches
    (bits_apart g.Q.Queue c.args.header.now c.args.next x c.args.list c.requires.can)
    (out_same _ _ _ out goes.frames) in
    bits_pass g.Q.Queue c.args.header.now c.args.next x c.args.list c.pass_by_bits.result
    c.requires.can (laws.blocks_most x s c.requires.is)
    (unstored_frames (laws.unstored_most x s c.requires.is) out c.requires.can.sweeps.sound)
    (laws.fits x s has) kept.2 c.pass_by_bits.ensures.marks

pub returns-then-fits-clause-still : goal.returns-then-fits-clause-still
returns-then-fits-clause-still g c = λ f. refl

pub sweep_twice-requires-clause-can : goal.sweep_twice-requires-clause-can
sweep_twice-requires-clause-can g c = c.requires.can.sweeps

pub sweep_twice-requires-clause-fits : goal.sweep_twice-requires-clause-fits
sweep_twice-requires-clause-fits g c = rw (c.len.ensures) (c.requires.fits)

pub returns-clause-passes : goal.returns-clause-passes
returns-clause-passes g c =
    queue_pass g.Q.Queue c.args.header.now c.args.next c.args.queue.now c.sweep_twice.new.queue
    c.args.list (seen g.D.Device.state c.args.rig.now) (seen g.D.Device.state c.sweep_twice.new.rig)
    c.sweep_twice.result (rw c.len.ensures at c.sweep_twice.ensures.sweeps)

pub returns-clause-still : goal.returns-clause-still
returns-clause-still g c = λ f.
    let yes : IsTrue c.fits.result =
    c.fits.ensures.is.1 (subst (FitsArea c.args.header.now) (sym c.shape.ensures) f) in
    absurd (let no = c.if-fits.false in cc)
