use Rattle.std.proofs.Common.{Result, Err, sym}
use Rattle.em_record.specs.declared.record.Record.{Record}
use Rattle.em_space.specs.Seen.{seen}
use Rattle.em_space.specs.declared.fault.EmFault.{EmFault}
use Rattle.em_space.proofs.Queues.{out_same}
use Rattle.em_chain.specs.Writer.{writer_blocks}
use Rattle.em_queued.proofs.Queued.{apart_after, unstored_frames}
use Rattle.aig_edges.proofs.Looks.{of_fault}
use Rattle.aig_order.specs.declared.standing.Standing.{Standing}
use Rattle.aig_order.specs.SweepCalls.{MeetsTo, Puts, PutsTo}
use Rattle.aig_order.proofs.Meets.{list_stays, meet_one, meet_refused, meet_stops, passed_beside, sent}
use Rattle.aig_order.proofs.sweeping.meet.Goals as goal

pub returns-in_err-first-clause-meets : goal.returns-in_err-first-clause-meets
returns-in_err-first-clause-meets g c =
    let x = c.args.queue.now in
    let w = c.args.writer.now in
    let s = seen g.D.Device.state c.args.rig.now in
    let y = c.pass_notes.new.queue in
    let t = seen g.D.Device.state c.pass_notes.new.rig in
    of_fault (λ (r : Result Standing EmFault). MeetsTo g.Q.Queue c.args.header.now c.args.sweep
    c.args.number c.args.item x y c.args.standing w w s t r) _ _ c.from_residual.ensures.1
    (meet_stops g.Q.Queue c.args.sweep c.args.item x y w c.requires.can
    c.in_err-first.ensures.passes)

pub put_both-requires-clause-is : goal.put_both-requires-clause-is
put_both-requires-clause-is g c =
    (list_stays g.Q.Queue c.args.queue.now c.pass_notes.new.queue c.requires.can
    c.in_ok-first.ensures.passes).is

pub returns-in_err-put_both-clause-frames : goal.returns-in_err-put_both-clause-frames
returns-in_err-put_both-clause-frames g c =
    let laws = g.met.Q.Queue in
    let y = c.pass_notes.new.queue in
    let t = seen g.D.Device.state c.pass_notes.new.rig in
    let u = seen g.D.Device.state c.put_both.new.rig in
    let a = c.in_err-put_both.ensures.puts.goes in
    let f = c.in_ok-first.ensures.frames in
    laws.frames_stay y _ t u f a.touches (out_same _ _ _ (laws.out y t f) a.frames)

pub returns-in_err-put_both-clause-meets : goal.returns-in_err-put_both-clause-meets
returns-in_err-put_both-clause-meets g c =
    let laws = g.met.Q.Queue in
    let x = c.args.queue.now in
    let w = c.args.writer.now in
    let s = seen g.D.Device.state c.args.rig.now in
    let y = c.pass_notes.new.queue in
    let t = seen g.D.Device.state c.pass_notes.new.rig in
    let u = seen g.D.Device.state c.put_both.new.rig in
    let e = c.in_ok-first.ensures in
    let notes : Record × Record = (c.in_ok-first.first, c.in_ok-first.second) in
    let h = c.args.header.now in
    let puts : PutsTo {T = Unit {0}} (sent h c.args.sweep c.args.standing c.args.item notes) w c.put_both.new.writer
    t u (Err c.in_err-put_both.field-0.0) =
    rw (sym c.written_after-one.ensures) c.in_err-put_both.ensures.puts in
    of_fault (λ (r : Result Standing EmFault). MeetsTo g.Q.Queue h c.args.sweep
    c.args.number c.args.item x y c.args.standing w c.put_both.new.writer s u r) _ _
    c.from_residual-in_err-put_both.ensures.1
    (meet_refused g.Q.Queue h c.args.sweep c.args.number c.args.item x y c.args.standing w notes
    c.requires.can e.passes (laws.blocks_most y t e.queue)
    (unstored_frames (laws.unstored_most y t e.queue) (laws.out y t e.frames)
    e.passes.runs.runs.session.sound) (laws.fits y t e.frames) puts)

pub returns-clause-frames : goal.returns-clause-frames
returns-clause-frames g c =
    let laws = g.met.Q.Queue in
    let y = c.pass_notes.new.queue in
    let t = seen g.D.Device.state c.pass_notes.new.rig in
    let u = seen g.D.Device.state c.put_both.new.rig in
    let a = c.in_ok-put_both.ensures.puts.runs in
    let f = c.in_ok-first.ensures.frames in
    laws.frames_stay y _ t u f a.session.touches (out_same _ _ _ (laws.out y t f) a.frames)

pub returns-clause-queue : goal.returns-clause-queue
returns-clause-queue g c =
    let laws = g.met.Q.Queue in
    let x = c.args.queue.now in
    let w = c.args.writer.now in
    let y = c.pass_notes.new.queue in
    let t = seen g.D.Device.state c.pass_notes.new.rig in
    let u = seen g.D.Device.state c.put_both.new.rig in
    let e = c.in_ok-first.ensures in
    let a = c.in_ok-put_both.ensures.puts.runs in
    let one = passed_beside g.Q.Queue x y c.requires.can e.passes in
    (laws.stays y (writer_blocks t w) t u e.queue a.session.touches
    (apart_after (g.Q.Queue.blocks y t) (writer_blocks t w) one)
    (out_same _ _ _ (laws.out y t e.frames) a.frames)).0

pub returns-clause-meets : goal.returns-clause-meets
returns-clause-meets g c =
    let laws = g.met.Q.Queue in
    let x = c.args.queue.now in
    let w = c.args.writer.now in
    let v = c.put_both.new.writer in
    let s = seen g.D.Device.state c.args.rig.now in
    let y = c.pass_notes.new.queue in
    let t = seen g.D.Device.state c.pass_notes.new.rig in
    let u = seen g.D.Device.state c.put_both.new.rig in
    let e = c.in_ok-first.ensures in
    let h = c.args.header.now in
    let notes : Record × Record = (c.in_ok-first.first, c.in_ok-first.second) in
    let puts : Puts (sent h c.args.sweep c.args.standing c.args.item notes) w v t u =
    rw (sym c.written_after-one.ensures) c.in_ok-put_both.ensures.puts in
    let one = passed_beside g.Q.Queue x y c.requires.can e.passes in
    let kept = laws.stays y (writer_blocks t w) t u e.queue puts.runs.session.touches
    (apart_after (g.Q.Queue.blocks y t) (writer_blocks t w) one)
    (out_same _ _ _ (laws.out y t e.frames) puts.runs.frames) in
    rw (c.standing_after.ensures)
    (meet_one g.Q.Queue h c.args.sweep c.args.number c.args.item x y c.args.standing notes
    c.requires.can e.passes (laws.blocks_most y t e.queue) puts kept.1 kept.2)
