use Rattle.std.proofs.Common.{sym, ◌∙◌}
use Rattle.em_space.specs.Seen.{seen}
use Rattle.em_space.proofs.Held.{apart_none}
use Rattle.em_space.proofs.Queues.{out_given, out_lent}
use Rattle.em_chain.proofs.Views.{view_of}
use Rattle.aig_edges.proofs.Pushed.{on_ok}
use Rattle.aig_order.specs.SweepCalls.{SweepsTo}
use Rattle.aig_order.specs.Sweeps.{at_constant}
use Rattle.aig_order.proofs.ListSweeps.{Keeps, lent_keeps, opened_can, opened_fit, over_to, swept_keeps, swept_shares}
use Rattle.aig_order.proofs.passing.sweep_over.Goals as goal

pub over-reader-requires-clause-is : goal.over-reader-requires-clause-is
over-reader-requires-clause-is g c =
    view_of (seen g.D.Device.state c.args.rig.now) c.args.list.now c.requires.can.chain

pub sweep_all-swept-requires-clause-is : goal.sweep_all-swept-requires-clause-is
sweep_all-swept-requires-clause-is g c =
    let laws = g.met.Q.Queue in
    let x = c.args.queue.now in
    let w = c.args.writer.now in
    let s = seen g.D.Device.state c.args.rig.now in
    let m = seen g.D.Device.state c.over-reader.new.rig in
    let r = c.over-reader.result in
    let e = c.over-reader.ensures in
    let out = laws.out x s (laws.frames_of x s c.requires.is) in
    let kept = laws.stays x _ s m c.requires.is e.lends.touches (λ z. apart_none _)
    (out_lent 1 _ _ _ out e.lends.frames) in
    kept.0

pub sweep_all-swept-requires-clause-can : goal.sweep_all-swept-requires-clause-can
sweep_all-swept-requires-clause-can g c =
    let laws = g.met.Q.Queue in
    let x = c.args.queue.now in
    let w = c.args.writer.now in
    let s = seen g.D.Device.state c.args.rig.now in
    let m = seen g.D.Device.state c.over-reader.new.rig in
    let r = c.over-reader.result in
    let e = c.over-reader.ensures in
    let out = laws.out x s (laws.frames_of x s c.requires.is) in
    let kept = laws.stays x _ s m c.requires.is e.lends.touches (λ z. apart_none _)
    (out_lent 1 _ _ _ out e.lends.frames) in
    let a : Keeps g.Q.Queue x w s m =
    lent_keeps g.Q.Queue x w e.lends c.requires.can.meets.writer kept.1 kept.2 in
    rw (c.len.ensures)
    (opened_can g.Q.Queue c.args.list.now.count x w c.requires.can e.lends e.opens a)

pub sweep_all-swept-requires-clause-fits : goal.sweep_all-swept-requires-clause-fits
sweep_all-swept-requires-clause-fits g c =
    let e = c.over-reader.ensures in
    opened_fit c.args.sweep c.args.limits.now e.opens e.lends.touches.told c.requires.fits

pub sweep_all-swept-requires-clause-below : goal.sweep_all-swept-requires-clause-below
sweep_all-swept-requires-clause-below g c =
    let laws = g.met.Q.Queue in
    let x = c.args.queue.now in
    let w = c.args.writer.now in
    let s = seen g.D.Device.state c.args.rig.now in
    let m = seen g.D.Device.state c.over-reader.new.rig in
    let r = c.over-reader.result in
    let e = c.over-reader.ensures in
    let out = laws.out x s (laws.frames_of x s c.requires.is) in
    let kept = laws.stays x _ s m c.requires.is e.lends.touches (λ z. apart_none _)
    (out_lent 1 _ _ _ out e.lends.frames) in
    λ z.
    let old = sym e.lends.touches.told ∙ z in rw (kept.1 old) (c.requires.below old)

pub returns-clause-frames : goal.returns-clause-frames
returns-clause-frames g c =
    let laws = g.met.Q.Queue in
    let x = c.args.queue.now in
    let w = c.args.writer.now in
    let s = seen g.D.Device.state c.args.rig.now in
    let m = seen g.D.Device.state c.over-reader.new.rig in
    let r = c.over-reader.result in
    let e = c.over-reader.ensures in
    let out = laws.out x s (laws.frames_of x s c.requires.is) in
    let kept = laws.stays x _ s m c.requires.is e.lends.touches (λ z. apart_none _)
    (out_lent 1 _ _ _ out e.lends.frames) in
    let p = c.sweep_all-swept in
    let y = p.new.queue in
    let v = p.new.writer in
    let k = p.new.reader in
    let n = seen g.D.Device.state p.new.rig in
    let t = seen g.D.Device.state c.abandon.new.rig in
    let back = c.abandon.ensures in
    let h = c.args.header.now in
    let from = c.at_constant.result in
    let shares = swept_shares g.Q.Queue h c.args.sweep 0 c.len.result x y from w v r k
    c.args.limits.now p.new.limits m n p.result p.ensures.sweeps in
    let out2 = out_given 1 (g.Q.Queue.counts x) (g.Q.Queue.counts y) s.pool m.pool n.pool t.pool out
    e.lends.frames shares back.gives.frames in
    laws.frames_stay y _ n t p.ensures.frames back.gives.touches out2

pub returns-clause-queue : goal.returns-clause-queue
returns-clause-queue g c =
    let laws = g.met.Q.Queue in
    let x = c.args.queue.now in
    let w = c.args.writer.now in
    let s = seen g.D.Device.state c.args.rig.now in
    let m = seen g.D.Device.state c.over-reader.new.rig in
    let r = c.over-reader.result in
    let e = c.over-reader.ensures in
    let out = laws.out x s (laws.frames_of x s c.requires.is) in
    let kept = laws.stays x _ s m c.requires.is e.lends.touches (λ z. apart_none _)
    (out_lent 1 _ _ _ out e.lends.frames) in
    let p = c.sweep_all-swept in
    let y = p.new.queue in
    let v = p.new.writer in
    let k = p.new.reader in
    let n = seen g.D.Device.state p.new.rig in
    let t = seen g.D.Device.state c.abandon.new.rig in
    let back = c.abandon.ensures in
    let h = c.args.header.now in
    let from = c.at_constant.result in
    let shares = swept_shares g.Q.Queue h c.args.sweep 0 c.len.result x y from w v r k
    c.args.limits.now p.new.limits m n p.result p.ensures.sweeps in
    let out2 = out_given 1 (g.Q.Queue.counts x) (g.Q.Queue.counts y) s.pool m.pool n.pool t.pool out
    e.lends.frames shares back.gives.frames in
    on_ok p.result p.ensures.queue (λ is.
    (laws.stays y _ n t is back.gives.touches (λ z. apart_none _) out2).0)

pub returns-clause-sweeps : goal.returns-clause-sweeps
returns-clause-sweeps g c =
    let laws = g.met.Q.Queue in
    let x = c.args.queue.now in
    let w = c.args.writer.now in
    let s = seen g.D.Device.state c.args.rig.now in
    let m = seen g.D.Device.state c.over-reader.new.rig in
    let r = c.over-reader.result in
    let e = c.over-reader.ensures in
    let out = laws.out x s (laws.frames_of x s c.requires.is) in
    let kept = laws.stays x _ s m c.requires.is e.lends.touches (λ z. apart_none _)
    (out_lent 1 _ _ _ out e.lends.frames) in
    let a : Keeps g.Q.Queue x w s m =
    lent_keeps g.Q.Queue x w e.lends c.requires.can.meets.writer kept.1 kept.2 in
    let p = c.sweep_all-swept in
    let y = p.new.queue in
    let v = p.new.writer in
    let k = p.new.reader in
    let n = seen g.D.Device.state p.new.rig in
    let t = seen g.D.Device.state c.abandon.new.rig in
    let back = c.abandon.ensures in
    let h = c.args.header.now in
    let from = c.at_constant.result in
    let shares = swept_shares g.Q.Queue h c.args.sweep 0 c.len.result x y from w v r k
    c.args.limits.now p.new.limits m n p.result p.ensures.sweeps in
    let out2 = out_given 1 (g.Q.Queue.counts x) (g.Q.Queue.counts y) s.pool m.pool n.pool t.pool out
    e.lends.frames shares back.gives.frames in
    let count = c.args.list.now.count in
    let can = opened_can g.Q.Queue count x w c.requires.can e.lends e.opens a in
    let swept : SweepsTo g.Q.Queue h c.args.sweep 0 count x y (at_constant c.args.next) w v r k
    c.args.limits.now p.new.limits m n p.result = rw (sym c.len.ensures, sym c.at_constant.ensures) p.ensures.sweeps in
    let b = swept_keeps g.Q.Queue h c.args.sweep 0 count x y (at_constant c.args.next) w v r k
    c.args.limits.now p.new.limits p.result can swept back.gives p.ensures.queue
    (λ is. (laws.stays y _ n t is back.gives.touches (λ z. apart_none _) out2).1)
    (λ is. (laws.stays y _ n t is back.gives.touches (λ z. apart_none _) out2).2) in
    over_to g.Q.Queue h c.args.sweep 0 c.args.next x y w v c.args.list.now r k c.args.limits.now
    p.new.limits t p.result
    c.requires.can e.lends e.unmoved e.opens a swept back.gives back.unmoved b
