use Rattle.std.proofs.Common.{Option, IfSome, Result, subst, sym, ◌∙◌}
use Rattle.em_record.specs.declared.record.Record.{Record}
use Rattle.em_space.specs.Seen.{seen}
use Rattle.em_space.specs.declared.fault.EmFault.{EmFault}
use Rattle.em_space.proofs.Queues.{out_same}
use Rattle.em_chain.specs.Reads.{Reads}
use Rattle.em_queued.proofs.Queued.{unstored_frames}
use Rattle.aig_edges.proofs.Looks.{of_fault}
use Rattle.aig_order.specs.declared.standing.Standing.{Standing}
use Rattle.aig_order.specs.SweepCalls.{SweepsTo}
use Rattle.aig_order.proofs.Reading.{ReadsOne, next_to, past_limits, queue_apart, reads_can, reads_one, reads_refused}
use Rattle.aig_order.proofs.sweeping.meet_next.Goals as goal

pub returns-in_err-item-clause-frames : goal.returns-in_err-item-clause-frames
returns-in_err-item-clause-frames g c =
    let laws = g.met.Q.Queue in
    let x = c.args.queue.now in
    let s = seen g.D.Device.state c.args.rig.now in
    let t = seen g.D.Device.state c.next.new.rig in
    let goes = c.in_err-item.ensures.goes in
    let has = laws.frames_of x s c.requires.is in
    laws.frames_stay x _ s t has goes.touches (out_same _ _ _ (laws.out x s has) goes.frames)

pub returns-in_err-item-clause-sweeps : goal.returns-in_err-item-clause-sweeps
returns-in_err-item-clause-sweeps g c =
    let laws = g.met.Q.Queue in
    let x = c.args.queue.now in
    let w = c.args.writer.now in
    let s = seen g.D.Device.state c.args.rig.now in
    let t = seen g.D.Device.state c.next.new.rig in
    let e = c.in_err-item.ensures in
    let out = laws.out x s (laws.frames_of x s c.requires.is) in
    of_fault (λ (r : Result Standing EmFault). SweepsTo g.Q.Queue c.args.header.now c.args.sweep
    c.args.number 1 x x c.args.standing w w c.args.reader.now c.next.new.self c.args.limits.now
    c.args.limits.now s t r) _ _
    c.from_residual.ensures.1
    (reads_refused g.Q.Queue x w c.args.limits.now c.requires.can (laws.blocks_most x s c.requires.is)
    (unstored_frames (laws.unstored_most x s c.requires.is) out c.requires.can.meets.notes.sound)
    e.goes e.costs e.cause)

pub meet-requires-clause-is : goal.meet-requires-clause-is
meet-requires-clause-is g c =
    let laws = g.met.Q.Queue in
    let x = c.args.queue.now in
    let s = seen g.D.Device.state c.args.rig.now in
    let t = seen g.D.Device.state c.next.new.rig in
    let goes = c.in_ok-item.ensures.goes in
    let out = laws.out x s (laws.frames_of x s c.requires.is) in
    (laws.stays x _ s t c.requires.is goes.touches
    (queue_apart g.Q.Queue 1 x c.args.writer.now c.args.reader.now c.requires.can)
    (out_same _ _ _ out goes.frames)).0

pub meet-requires-clause-can : goal.meet-requires-clause-can
meet-requires-clause-can g c =
    let laws = g.met.Q.Queue in
    let x = c.args.queue.now in
    let w = c.args.writer.now in
    let s = seen g.D.Device.state c.args.rig.now in
    let t = seen g.D.Device.state c.next.new.rig in
    let e = c.in_ok-item.ensures in
    let out = laws.out x s (laws.frames_of x s c.requires.is) in
    let kept = laws.stays x _ s t c.requires.is e.goes.touches
    (queue_apart g.Q.Queue 1 x w c.args.reader.now c.requires.can)
    (out_same _ _ _ out e.goes.frames) in
    let reads : Reads s t c.args.reader.now c.next.new.self c.in-Some.item =
    subst (λ (o : Option Record). IfSome o (λ y. Reads s t c.args.reader.now c.next.new.self y))
    c.in-Some.is e.reads in
    let one : ReadsOne g.Q.Queue x w c.args.reader.now c.next.new.self c.in-Some.item s t =
    reads_one g.Q.Queue x w c.in_ok-item.field-0 c.requires.can
    (laws.blocks_most x s c.requires.is) e.goes reads e.costs kept.1 kept.2 in
    reads_can g.Q.Queue x w c.requires.can one

pub meet-requires-clause-below : goal.meet-requires-clause-below
meet-requires-clause-below g c =
    let laws = g.met.Q.Queue in
    let x = c.args.queue.now in
    let s = seen g.D.Device.state c.args.rig.now in
    let t = seen g.D.Device.state c.next.new.rig in
    let goes = c.in_ok-item.ensures.goes in
    let out = laws.out x s (laws.frames_of x s c.requires.is) in
    let kept = laws.stays x _ s t c.requires.is goes.touches
    (queue_apart g.Q.Queue 1 x c.args.writer.now c.args.reader.now c.requires.can)
    (out_same _ _ _ out goes.frames) in
    λ z.
    let old = sym goes.touches.told ∙ z in rw (kept.1 old) (c.requires.below old)

pub returns-clause-sweeps : goal.returns-clause-sweeps
returns-clause-sweeps g c =
    let laws = g.met.Q.Queue in
    let x = c.args.queue.now in
    let w = c.args.writer.now in
    let s = seen g.D.Device.state c.args.rig.now in
    let t = seen g.D.Device.state c.next.new.rig in
    let e = c.in_ok-item.ensures in
    let out = laws.out x s (laws.frames_of x s c.requires.is) in
    let kept = laws.stays x _ s t c.requires.is e.goes.touches
    (queue_apart g.Q.Queue 1 x w c.args.reader.now c.requires.can)
    (out_same _ _ _ out e.goes.frames) in
    let reads : Reads s t c.args.reader.now c.next.new.self c.in-Some.item =
    subst (λ (o : Option Record). IfSome o (λ y. Reads s t c.args.reader.now c.next.new.self y))
    c.in-Some.is e.reads in
    let one : ReadsOne g.Q.Queue x w c.args.reader.now c.next.new.self c.in-Some.item s t =
    reads_one g.Q.Queue x w c.in_ok-item.field-0 c.requires.can
    (laws.blocks_most x s c.requires.is) e.goes reads e.costs kept.1 kept.2 in
    next_to g.Q.Queue c.args.header.now c.args.sweep c.args.number x c.meet.new.queue
    c.args.standing _ w c.meet.new.writer c.args.reader.now c.next.new.self c.in-Some.item
    c.args.limits.now c.spend.new.limits c.meet.result c.requires.can one
    c.in_ok-spend.ensures.spends c.meet.ensures.meets

-- it went past the limits
pub returns-in_err-spend-clause-frames : goal.returns-in_err-spend-clause-frames
returns-in_err-spend-clause-frames g c =
    let laws = g.met.Q.Queue in
    let x = c.args.queue.now in
    let s = seen g.D.Device.state c.args.rig.now in
    let t = seen g.D.Device.state c.next.new.rig in
    let goes = c.in_ok-item.ensures.goes in
    let has = laws.frames_of x s c.requires.is in
    laws.frames_stay x _ s t has goes.touches (out_same _ _ _ (laws.out x s has) goes.frames)

pub returns-in_err-spend-clause-sweeps : goal.returns-in_err-spend-clause-sweeps
returns-in_err-spend-clause-sweeps g c =
    let laws = g.met.Q.Queue in
    let x = c.args.queue.now in
    let w = c.args.writer.now in
    let s = seen g.D.Device.state c.args.rig.now in
    let t = seen g.D.Device.state c.next.new.rig in
    let e = c.in_ok-item.ensures in
    let out = laws.out x s (laws.frames_of x s c.requires.is) in
    let kept = laws.stays x _ s t c.requires.is e.goes.touches
    (queue_apart g.Q.Queue 1 x w c.args.reader.now c.requires.can)
    (out_same _ _ _ out e.goes.frames) in
    let reads : Reads s t c.args.reader.now c.next.new.self c.in-Some.item =
    subst (λ (o : Option Record). IfSome o (λ y. Reads s t c.args.reader.now c.next.new.self y))
    c.in-Some.is e.reads in
    let one : ReadsOne g.Q.Queue x w c.args.reader.now c.next.new.self c.in-Some.item s t =
    reads_one g.Q.Queue x w c.in_ok-item.field-0 c.requires.can
    (laws.blocks_most x s c.requires.is) e.goes reads e.costs kept.1 kept.2 in
    let past = c.in_err-spend.ensures.spends in
    of_fault (λ (r : Result Standing EmFault). SweepsTo g.Q.Queue c.args.header.now c.args.sweep
    c.args.number 1 x x c.args.standing w w c.args.reader.now c.next.new.self c.args.limits.now
    c.spend.new.limits s t r) _ _ c.from_residual-in_err-spend.ensures.1
    (past_limits g.Q.Queue c.args.sweep x w c.args.reader.now c.next.new.self c.in-Some.item
    c.args.limits.now c.requires.can one c.requires.fits
    (unstored_frames (laws.unstored_most x s c.requires.is) out c.requires.can.meets.notes.sound)
    past.0 past.1)
