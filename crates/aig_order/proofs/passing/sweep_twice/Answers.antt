use Rattle.std.proofs.Common.{Result}
use Rattle.em_space.specs.Seen.{seen}
use Rattle.em_space.specs.declared.fault.EmFault.{EmFault}
use Rattle.em_space.proofs.Held.{apart_none}
use Rattle.em_space.proofs.Queues.{out_given, out_lent}
use Rattle.em_chain.specs.Writer.{writer_blocks}
use Rattle.em_queued.proofs.Queued.{apart_after, shares_frames, unstored_frames}
use Rattle.aig_edges.proofs.Looks.{of_fault}
use Rattle.aig_order.specs.declared.passing.Swept.{Swept}
use Rattle.aig_order.specs.Passes.{SweepsTwice}
use Rattle.aig_order.proofs.SweptTwice.{Begun, begun_can, begun_fits, twice_made, twice_stops, twice_unfinished}
use Rattle.aig_order.proofs.passing.sweep_twice.Goals as goal

pub sweep_both-requires-clause-is : goal.sweep_both-requires-clause-is
sweep_both-requires-clause-is g c =
    let laws = g.met.Q.Queue in
    let x = c.args.queue.now in
    let w = c.new-writer.result in
    let s = seen g.D.Device.state c.args.rig.now in
    let m = seen g.D.Device.state c.new-writer.new.rig in
    let e = c.new-writer.ensures in
    let out = laws.out x s (laws.frames_of x s c.requires.is) in
    let kept = laws.stays x _ s m c.requires.is e.lends.touches (λ z. apart_none _)
    (out_lent 1 _ _ _ out e.lends.frames) in
    kept.0

pub sweep_both-requires-clause-can : goal.sweep_both-requires-clause-can
sweep_both-requires-clause-can g c =
    let laws = g.met.Q.Queue in
    let x = c.args.queue.now in
    let w = c.new-writer.result in
    let s = seen g.D.Device.state c.args.rig.now in
    let m = seen g.D.Device.state c.new-writer.new.rig in
    let e = c.new-writer.ensures in
    let out = laws.out x s (laws.frames_of x s c.requires.is) in
    let kept = laws.stays x _ s m c.requires.is e.lends.touches (λ z. apart_none _)
    (out_lent 1 _ _ _ out e.lends.frames) in
    let k : Begun g.Q.Queue x w s m = record {
      lends = e.lends;
      unmoved = e.unmoved;
      begins = e.begins;
      out = out;
      len = laws.len_is x s c.requires.is;
      items = kept.1;
      blocks = kept.2;
    } in
    let h = c.args.header.now in
    let list = c.args.list in
    begun_can g.Q.Queue h c.args.first c.args.second c.args.next x w list c.requires.can k

pub sweep_both-requires-clause-fits : goal.sweep_both-requires-clause-fits
sweep_both-requires-clause-fits g c =
    let laws = g.met.Q.Queue in
    let x = c.args.queue.now in
    let w = c.new-writer.result in
    let s = seen g.D.Device.state c.args.rig.now in
    let m = seen g.D.Device.state c.new-writer.new.rig in
    let e = c.new-writer.ensures in
    let out = laws.out x s (laws.frames_of x s c.requires.is) in
    let kept = laws.stays x _ s m c.requires.is e.lends.touches (λ z. apart_none _)
    (out_lent 1 _ _ _ out e.lends.frames) in
    let k : Begun g.Q.Queue x w s m = record {
      lends = e.lends;
      unmoved = e.unmoved;
      begins = e.begins;
      out = out;
      len = laws.len_is x s c.requires.is;
      items = kept.1;
      blocks = kept.2;
    } in
    begun_fits g.Q.Queue c.args.header.now c.args.first c.args.second c.args.next x w c.args.list
    c.args.limits c.requires.can k c.requires.fits

pub returns-in_err-list-in-Ok-clause-frames : goal.returns-in_err-list-in-Ok-clause-frames
returns-in_err-list-in-Ok-clause-frames g c =
    let laws = g.met.Q.Queue in
    let x = c.args.queue.now in
    let w = c.new-writer.result in
    let s = seen g.D.Device.state c.args.rig.now in
    let m = seen g.D.Device.state c.new-writer.new.rig in
    let e = c.new-writer.ensures in
    let out = laws.out x s (laws.frames_of x s c.requires.is) in
    let kept = laws.stays x _ s m c.requires.is e.lends.touches (λ z. apart_none _)
    (out_lent 1 _ _ _ out e.lends.frames) in
    let y = c.sweep_both.new.queue in
    let v = c.sweep_both.new.writer in
    let n = seen g.D.Device.state c.sweep_both.new.rig in
    let t = seen g.D.Device.state c.finish.new.rig in
    let back = c.finish.ensures in
    let f = c.in-Ok.ensures.sweeps in
    let shares = shares_frames f.runs.runs.frames f.runs.calls_on.frames f.runs.calls_on.areas in
    let out2 = out_given 1 (g.Q.Queue.counts x) (g.Q.Queue.counts y) s.pool m.pool n.pool t.pool out
    e.lends.frames shares back.gives.frames in
    laws.frames_stay y _ n t c.in-Ok.ensures.frames back.gives.touches out2

pub returns-in_err-list-in-Ok-clause-sweeps : goal.returns-in_err-list-in-Ok-clause-sweeps
returns-in_err-list-in-Ok-clause-sweeps g c =
    let laws = g.met.Q.Queue in
    let x = c.args.queue.now in
    let w = c.new-writer.result in
    let s = seen g.D.Device.state c.args.rig.now in
    let m = seen g.D.Device.state c.new-writer.new.rig in
    let e = c.new-writer.ensures in
    let out = laws.out x s (laws.frames_of x s c.requires.is) in
    let kept = laws.stays x _ s m c.requires.is e.lends.touches (λ z. apart_none _)
    (out_lent 1 _ _ _ out e.lends.frames) in
    let k : Begun g.Q.Queue x w s m = record {
      lends = e.lends;
      unmoved = e.unmoved;
      begins = e.begins;
      out = out;
      len = laws.len_is x s c.requires.is;
      items = kept.1;
      blocks = kept.2;
    } in
    let h = c.args.header.now in
    let list = c.args.list in
    let y = c.sweep_both.new.queue in
    let v = c.sweep_both.new.writer in
    let n = seen g.D.Device.state c.sweep_both.new.rig in
    let t = seen g.D.Device.state c.finish.new.rig in
    let back = c.finish.ensures in
    let f = c.in-Ok.ensures.sweeps in
    let shares = shares_frames f.runs.runs.frames f.runs.calls_on.frames f.runs.calls_on.areas in
    let out2 = out_given 1 (g.Q.Queue.counts x) (g.Q.Queue.counts y) s.pool m.pool n.pool t.pool out
    e.lends.frames shares back.gives.frames in
    let few = unstored_frames (laws.unstored_most y n c.in-Ok.ensures.queue)
    (laws.out y n c.in-Ok.ensures.frames) f.runs.runs.session.sound in
    let end = c.in_err-list-in-Ok.ensures in
    of_fault (λ (r : Result Swept EmFault). SweepsTwice g.Q.Queue h c.args.first c.args.second
    c.args.next c.args.limits x y list s t r) _ _ c.from_residual.ensures.1
    (twice_unfinished g.Q.Queue h c.args.first c.args.second c.args.next x y c.in-Ok.next w v list
    c.requires.can k f few back.gives end.spends end.cause)

pub returns-in_ok-list-in-Ok-clause-frames : goal.returns-in_ok-list-in-Ok-clause-frames
returns-in_ok-list-in-Ok-clause-frames g c =
    let laws = g.met.Q.Queue in
    let x = c.args.queue.now in
    let w = c.new-writer.result in
    let s = seen g.D.Device.state c.args.rig.now in
    let m = seen g.D.Device.state c.new-writer.new.rig in
    let e = c.new-writer.ensures in
    let out = laws.out x s (laws.frames_of x s c.requires.is) in
    let kept = laws.stays x _ s m c.requires.is e.lends.touches (λ z. apart_none _)
    (out_lent 1 _ _ _ out e.lends.frames) in
    let y = c.sweep_both.new.queue in
    let v = c.sweep_both.new.writer in
    let n = seen g.D.Device.state c.sweep_both.new.rig in
    let t = seen g.D.Device.state c.finish.new.rig in
    let back = c.finish.ensures in
    let f = c.in-Ok.ensures.sweeps in
    let shares = shares_frames f.runs.runs.frames f.runs.calls_on.frames f.runs.calls_on.areas in
    let out2 = out_given 1 (g.Q.Queue.counts x) (g.Q.Queue.counts y) s.pool m.pool n.pool t.pool out
    e.lends.frames shares back.gives.frames in
    laws.frames_stay y _ n t c.in-Ok.ensures.frames back.gives.touches out2

pub returns-in_ok-list-in-Ok-clause-queue : goal.returns-in_ok-list-in-Ok-clause-queue
returns-in_ok-list-in-Ok-clause-queue g c =
    let laws = g.met.Q.Queue in
    let x = c.args.queue.now in
    let w = c.new-writer.result in
    let s = seen g.D.Device.state c.args.rig.now in
    let m = seen g.D.Device.state c.new-writer.new.rig in
    let e = c.new-writer.ensures in
    let out = laws.out x s (laws.frames_of x s c.requires.is) in
    let kept = laws.stays x _ s m c.requires.is e.lends.touches (λ z. apart_none _)
    (out_lent 1 _ _ _ out e.lends.frames) in
    let y = c.sweep_both.new.queue in
    let v = c.sweep_both.new.writer in
    let n = seen g.D.Device.state c.sweep_both.new.rig in
    let t = seen g.D.Device.state c.finish.new.rig in
    let back = c.finish.ensures in
    let f = c.in-Ok.ensures.sweeps in
    let shares = shares_frames f.runs.runs.frames f.runs.calls_on.frames f.runs.calls_on.areas in
    let out2 = out_given 1 (g.Q.Queue.counts x) (g.Q.Queue.counts y) s.pool m.pool n.pool t.pool out
    e.lends.frames shares back.gives.frames in
    let after = laws.stays y _ n t c.in-Ok.ensures.queue back.gives.touches
    (apart_after (g.Q.Queue.blocks y n) (writer_blocks n v) f.runs) out2 in
    after.0

pub returns-in_ok-list-in-Ok-clause-sweeps : goal.returns-in_ok-list-in-Ok-clause-sweeps
returns-in_ok-list-in-Ok-clause-sweeps g c =
    let laws = g.met.Q.Queue in
    let x = c.args.queue.now in
    let w = c.new-writer.result in
    let s = seen g.D.Device.state c.args.rig.now in
    let m = seen g.D.Device.state c.new-writer.new.rig in
    let e = c.new-writer.ensures in
    let out = laws.out x s (laws.frames_of x s c.requires.is) in
    let kept = laws.stays x _ s m c.requires.is e.lends.touches (λ z. apart_none _)
    (out_lent 1 _ _ _ out e.lends.frames) in
    let k : Begun g.Q.Queue x w s m = record {
      lends = e.lends;
      unmoved = e.unmoved;
      begins = e.begins;
      out = out;
      len = laws.len_is x s c.requires.is;
      items = kept.1;
      blocks = kept.2;
    } in
    let h = c.args.header.now in
    let list = c.args.list in
    let y = c.sweep_both.new.queue in
    let v = c.sweep_both.new.writer in
    let n = seen g.D.Device.state c.sweep_both.new.rig in
    let t = seen g.D.Device.state c.finish.new.rig in
    let back = c.finish.ensures in
    let f = c.in-Ok.ensures.sweeps in
    let shares = shares_frames f.runs.runs.frames f.runs.calls_on.frames f.runs.calls_on.areas in
    let out2 = out_given 1 (g.Q.Queue.counts x) (g.Q.Queue.counts y) s.pool m.pool n.pool t.pool out
    e.lends.frames shares back.gives.frames in
    let after = laws.stays y _ n t c.in-Ok.ensures.queue back.gives.touches
    (apart_after (g.Q.Queue.blocks y n) (writer_blocks n v) f.runs) out2 in
    let end = c.in_ok-list-in-Ok.ensures in
    twice_made g.Q.Queue h c.args.first c.args.second c.args.next x y c.in-Ok.next w v list
    c.in_ok-list-in-Ok.list c.requires.can k f back.gives end.finishes end.spends after.2
    (laws.since_none y n c.in-Ok.ensures.queue f.empty)

pub returns-in-Err-clause-frames : goal.returns-in-Err-clause-frames
returns-in-Err-clause-frames g c =
    let laws = g.met.Q.Queue in
    let x = c.args.queue.now in
    let w = c.new-writer.result in
    let s = seen g.D.Device.state c.args.rig.now in
    let m = seen g.D.Device.state c.new-writer.new.rig in
    let e = c.new-writer.ensures in
    let out = laws.out x s (laws.frames_of x s c.requires.is) in
    let kept = laws.stays x _ s m c.requires.is e.lends.touches (λ z. apart_none _)
    (out_lent 1 _ _ _ out e.lends.frames) in
    let y = c.sweep_both.new.queue in
    let n = seen g.D.Device.state c.sweep_both.new.rig in
    let t = seen g.D.Device.state c.abandon.new.rig in
    let back = c.abandon.ensures in
    let f = c.in-Err.ensures.sweeps in
    laws.frames_stay y _ n t c.in-Err.ensures.frames back.gives.touches
    (out_given 1 (g.Q.Queue.counts x) (g.Q.Queue.counts y) s.pool m.pool n.pool t.pool out
    e.lends.frames f.stops.frames back.gives.frames)

pub returns-in-Err-clause-sweeps : goal.returns-in-Err-clause-sweeps
returns-in-Err-clause-sweeps g c =
    let laws = g.met.Q.Queue in
    let x = c.args.queue.now in
    let w = c.new-writer.result in
    let s = seen g.D.Device.state c.args.rig.now in
    let m = seen g.D.Device.state c.new-writer.new.rig in
    let e = c.new-writer.ensures in
    let out = laws.out x s (laws.frames_of x s c.requires.is) in
    let kept = laws.stays x _ s m c.requires.is e.lends.touches (λ z. apart_none _)
    (out_lent 1 _ _ _ out e.lends.frames) in
    let k : Begun g.Q.Queue x w s m = record {
      lends = e.lends;
      unmoved = e.unmoved;
      begins = e.begins;
      out = out;
      len = laws.len_is x s c.requires.is;
      items = kept.1;
      blocks = kept.2;
    } in
    let h = c.args.header.now in
    let list = c.args.list in
    let y = c.sweep_both.new.queue in
    let n = seen g.D.Device.state c.sweep_both.new.rig in
    let t = seen g.D.Device.state c.abandon.new.rig in
    let back = c.abandon.ensures in
    let f = c.in-Err.ensures.sweeps in
    twice_stops g.Q.Queue h c.args.first c.args.second c.args.next x y w list c.requires.can k f
    back.gives back.unmoved
