use Rattle.std.proofs.Common.{Result, Ok, Err, sym, subst, ◌∙◌}
use Rattle.em_space.specs.Rig.{Goes}
use Rattle.em_space.specs.Seen.{seen}
use Rattle.em_space.specs.declared.fault.EmFault.{EmFault}
use Rattle.em_space.proofs.Held.{apart_none}
use Rattle.em_space.proofs.Queues.{out_given, out_lent, out_same}
use Rattle.em_chain.specs.Chain.{ChainStays, chain_blocks}
use Rattle.em_chain.specs.Reader.{rest_of}
use Rattle.em_chain.specs.Row.{Frees}
use Rattle.em_chain.specs.declared.chain.Chain.{Chain}
use Rattle.em_queued.proofs.Queued.{shares_frames, unstored_frames}
use Rattle.aig_edges.specs.Accounts.{releasing}
use Rattle.aig_edges.proofs.Looks.{of_fault}
use Rattle.aig_order.specs.declared.standing.Standing.{Standing}
use Rattle.aig_order.specs.SweepCalls.{StopsSweeping, Sweeps}
use Rattle.aig_order.specs.SweepLists.{ListTo, three_held}
use Rattle.aig_order.specs.Sweeps.{at_constant}
use Rattle.aig_order.proofs.ListSweeps.{Keeps, given_keeps, lent_keeps, opened_can, opened_fit, queue_after, released_keeps, swept_out, taken_list, taken_refused, taken_runs, taken_stops}
use Rattle.aig_order.proofs.passing.sweep_taking.Goals as goal

pub sweep_all-requires-clause-is : goal.sweep_all-requires-clause-is
sweep_all-requires-clause-is g c =
    let laws = g.met.Q.Queue in
    let x = c.args.queue.now in
    let w = c.args.writer.now in
    let s = seen g.D.Device.state c.args.rig.now in
    let m = seen g.D.Device.state c.taking-reader.new.rig in
    let r = c.taking-reader.result in
    let e = c.taking-reader.ensures in
    let out = laws.out x s (laws.frames_of x s c.requires.is) in
    let kept = laws.stays x _ s m c.requires.is e.lends.touches (λ z. apart_none _)
    (out_lent 1 _ _ _ out e.lends.frames) in
    kept.0

pub sweep_all-requires-clause-can : goal.sweep_all-requires-clause-can
sweep_all-requires-clause-can g c =
    let laws = g.met.Q.Queue in
    let x = c.args.queue.now in
    let w = c.args.writer.now in
    let s = seen g.D.Device.state c.args.rig.now in
    let m = seen g.D.Device.state c.taking-reader.new.rig in
    let r = c.taking-reader.result in
    let e = c.taking-reader.ensures in
    let out = laws.out x s (laws.frames_of x s c.requires.is) in
    let kept = laws.stays x _ s m c.requires.is e.lends.touches (λ z. apart_none _)
    (out_lent 1 _ _ _ out e.lends.frames) in
    let a : Keeps g.Q.Queue x w s m =
    lent_keeps g.Q.Queue x w e.lends c.requires.can.meets.writer kept.1 kept.2 in
    rw (c.len-count.ensures)
    (opened_can g.Q.Queue c.args.list.count x w c.requires.can e.lends e.opens a)

pub sweep_all-requires-clause-fits : goal.sweep_all-requires-clause-fits
sweep_all-requires-clause-fits g c =
    let e = c.taking-reader.ensures in
    opened_fit c.args.sweep c.args.limits.now e.opens e.lends.touches.told c.requires.fits

pub sweep_all-requires-clause-below : goal.sweep_all-requires-clause-below
sweep_all-requires-clause-below g c =
    let laws = g.met.Q.Queue in
    let x = c.args.queue.now in
    let w = c.args.writer.now in
    let s = seen g.D.Device.state c.args.rig.now in
    let m = seen g.D.Device.state c.taking-reader.new.rig in
    let r = c.taking-reader.result in
    let e = c.taking-reader.ensures in
    let out = laws.out x s (laws.frames_of x s c.requires.is) in
    let kept = laws.stays x _ s m c.requires.is e.lends.touches (λ z. apart_none _)
    (out_lent 1 _ _ _ out e.lends.frames) in
    λ z.
    let old = sym e.lends.touches.told ∙ z in
    rw (kept.1 old, c.len-count.ensures) (c.requires.below old)

pub returns-in_err-discard-in-Ok-clause-frames : goal.returns-in_err-discard-in-Ok-clause-frames
returns-in_err-discard-in-Ok-clause-frames g c =
    let laws = g.met.Q.Queue in
    let x = c.args.queue.now in
    let w = c.args.writer.now in
    let s = seen g.D.Device.state c.args.rig.now in
    let m = seen g.D.Device.state c.taking-reader.new.rig in
    let r = c.taking-reader.result in
    let e = c.taking-reader.ensures in
    let out = laws.out x s (laws.frames_of x s c.requires.is) in
    let kept = laws.stays x _ s m c.requires.is e.lends.touches (λ z. apart_none _)
    (out_lent 1 _ _ _ out e.lends.frames) in
    let a : Keeps g.Q.Queue x w s m =
    lent_keeps g.Q.Queue x w e.lends c.requires.can.meets.writer kept.1 kept.2 in
    let p = c.sweep_all in
    let y = p.new.queue in
    let v = p.new.writer in
    let k = p.new.reader in
    let n = seen g.D.Device.state p.new.rig in
    let t = seen g.D.Device.state c.end-rest.new.rig in
    let u = seen g.D.Device.state c.discard.new.rig in
    let back = c.end-rest.ensures in
    let h = c.args.header.now in
    let list = c.args.list in
    let can = opened_can g.Q.Queue list.count x w c.requires.can e.lends e.opens a in
    let f : Sweeps g.Q.Queue h c.args.sweep list.count list.count x y (at_constant c.args.next)
    c.in-Ok.last w v r k c.args.limits.now p.new.limits m n =
    rw (sym c.len-count.ensures, sym c.at_constant.ensures) c.in-Ok.ensures.sweeps in
    let shares = shares_frames f.runs.runs.frames f.runs.calls_on.frames f.runs.calls_on.areas in
    let out2 = out_given 1 (g.Q.Queue.counts x) (g.Q.Queue.counts y) s.pool m.pool n.pool t.pool out
    e.lends.frames shares back.gives.frames in
    let after = laws.stays y _ n t c.in-Ok.ensures.queue back.gives.touches (λ z. apart_none _)
    out2 in
    let b : Keeps g.Q.Queue y v n t = given_keeps g.Q.Queue y v back.gives f.meets.is
    (swept_out g.Q.Queue h c.args.sweep list.count list.count list.count x y
    (at_constant c.args.next) c.in-Ok.last can f) after.1 after.2 in
    let st : ChainStays n t (rest_of k) =
    back.stays (f.took.is.closed (f.took.taking ∙ e.opens.taking_is)) in
    let goes : Goes (chain_blocks t (rest_of k)) t u =
    subst (λ (z : Chain). Goes (chain_blocks t z) t u) back.words c.discard.ensures.goes in
    let one = taken_runs g.Q.Queue h c.args.sweep list.count c.args.next x y c.in-Ok.last
    c.requires.can e.lends e.unmoved e.opens a f back.gives back.unmoved b st in
    let few = unstored_frames (laws.unstored_most y t after.0) out2 back.gives.sound in
    let most = laws.blocks_most y t after.0 in
    laws.frames_stay y _ t u (laws.frames_of y t after.0) goes.touches
    (out_same _ _ _ out2 goes.frames)

pub returns-in_err-discard-in-Ok-clause-sweeps : goal.returns-in_err-discard-in-Ok-clause-sweeps
returns-in_err-discard-in-Ok-clause-sweeps g c =
    let laws = g.met.Q.Queue in
    let x = c.args.queue.now in
    let w = c.args.writer.now in
    let s = seen g.D.Device.state c.args.rig.now in
    let m = seen g.D.Device.state c.taking-reader.new.rig in
    let r = c.taking-reader.result in
    let e = c.taking-reader.ensures in
    let out = laws.out x s (laws.frames_of x s c.requires.is) in
    let kept = laws.stays x _ s m c.requires.is e.lends.touches (λ z. apart_none _)
    (out_lent 1 _ _ _ out e.lends.frames) in
    let a : Keeps g.Q.Queue x w s m =
    lent_keeps g.Q.Queue x w e.lends c.requires.can.meets.writer kept.1 kept.2 in
    let p = c.sweep_all in
    let y = p.new.queue in
    let v = p.new.writer in
    let k = p.new.reader in
    let n = seen g.D.Device.state p.new.rig in
    let t = seen g.D.Device.state c.end-rest.new.rig in
    let u = seen g.D.Device.state c.discard.new.rig in
    let back = c.end-rest.ensures in
    let h = c.args.header.now in
    let list = c.args.list in
    let can = opened_can g.Q.Queue list.count x w c.requires.can e.lends e.opens a in
    let f : Sweeps g.Q.Queue h c.args.sweep list.count list.count x y (at_constant c.args.next)
    c.in-Ok.last w v r k c.args.limits.now p.new.limits m n =
    rw (sym c.len-count.ensures, sym c.at_constant.ensures) c.in-Ok.ensures.sweeps in
    let shares = shares_frames f.runs.runs.frames f.runs.calls_on.frames f.runs.calls_on.areas in
    let out2 = out_given 1 (g.Q.Queue.counts x) (g.Q.Queue.counts y) s.pool m.pool n.pool t.pool out
    e.lends.frames shares back.gives.frames in
    let after = laws.stays y _ n t c.in-Ok.ensures.queue back.gives.touches (λ z. apart_none _)
    out2 in
    let b : Keeps g.Q.Queue y v n t = given_keeps g.Q.Queue y v back.gives f.meets.is
    (swept_out g.Q.Queue h c.args.sweep list.count list.count list.count x y
    (at_constant c.args.next) c.in-Ok.last can f) after.1 after.2 in
    let st : ChainStays n t (rest_of k) =
    back.stays (f.took.is.closed (f.took.taking ∙ e.opens.taking_is)) in
    let goes : Goes (chain_blocks t (rest_of k)) t u =
    subst (λ (z : Chain). Goes (chain_blocks t z) t u) back.words c.discard.ensures.goes in
    let one = taken_runs g.Q.Queue h c.args.sweep list.count c.args.next x y c.in-Ok.last
    c.requires.can e.lends e.unmoved e.opens a f back.gives back.unmoved b st in
    let few = unstored_frames (laws.unstored_most y t after.0) out2 back.gives.sound in
    let most = laws.blocks_most y t after.0 in
    let frees : Frees {T = Unit {0}} k.blocks t u (Err c.in_err-discard-in-Ok.field-0.0) =
    subst (λ (z : Chain). Frees {T = Unit {0}} z.blocks t u (Err c.in_err-discard-in-Ok.field-0.0))
    back.words c.in_err-discard-in-Ok.ensures.frees in
    of_fault (λ (z : Result Standing EmFault). ListTo g.Q.Queue h c.args.sweep list.count c.args.next
    (three_held g.Q.Queue x w list s) (releasing list.blocks) list x y w v c.args.limits.now
    p.new.limits s u z) _ _
    c.from_residual.ensures.1
    (taken_refused {T = Unit {0}} g.Q.Queue h c.args.sweep list.count c.args.next x y c.in-Ok.last
    c.requires.can e.lends e.unmoved e.opens a f back.gives back.unmoved b st most few goes frees
    c.in_err-discard-in-Ok.ensures.cause)

pub returns-in_ok-discard-in-Ok-clause-frames : goal.returns-in_ok-discard-in-Ok-clause-frames
returns-in_ok-discard-in-Ok-clause-frames g c =
    let laws = g.met.Q.Queue in
    let x = c.args.queue.now in
    let w = c.args.writer.now in
    let s = seen g.D.Device.state c.args.rig.now in
    let m = seen g.D.Device.state c.taking-reader.new.rig in
    let r = c.taking-reader.result in
    let e = c.taking-reader.ensures in
    let out = laws.out x s (laws.frames_of x s c.requires.is) in
    let kept = laws.stays x _ s m c.requires.is e.lends.touches (λ z. apart_none _)
    (out_lent 1 _ _ _ out e.lends.frames) in
    let a : Keeps g.Q.Queue x w s m =
    lent_keeps g.Q.Queue x w e.lends c.requires.can.meets.writer kept.1 kept.2 in
    let p = c.sweep_all in
    let y = p.new.queue in
    let v = p.new.writer in
    let k = p.new.reader in
    let n = seen g.D.Device.state p.new.rig in
    let t = seen g.D.Device.state c.end-rest.new.rig in
    let u = seen g.D.Device.state c.discard.new.rig in
    let back = c.end-rest.ensures in
    let h = c.args.header.now in
    let list = c.args.list in
    let can = opened_can g.Q.Queue list.count x w c.requires.can e.lends e.opens a in
    let f : Sweeps g.Q.Queue h c.args.sweep list.count list.count x y (at_constant c.args.next)
    c.in-Ok.last w v r k c.args.limits.now p.new.limits m n =
    rw (sym c.len-count.ensures, sym c.at_constant.ensures) c.in-Ok.ensures.sweeps in
    let shares = shares_frames f.runs.runs.frames f.runs.calls_on.frames f.runs.calls_on.areas in
    let out2 = out_given 1 (g.Q.Queue.counts x) (g.Q.Queue.counts y) s.pool m.pool n.pool t.pool out
    e.lends.frames shares back.gives.frames in
    let after = laws.stays y _ n t c.in-Ok.ensures.queue back.gives.touches (λ z. apart_none _)
    out2 in
    let b : Keeps g.Q.Queue y v n t = given_keeps g.Q.Queue y v back.gives f.meets.is
    (swept_out g.Q.Queue h c.args.sweep list.count list.count list.count x y
    (at_constant c.args.next) c.in-Ok.last can f) after.1 after.2 in
    let st : ChainStays n t (rest_of k) =
    back.stays (f.took.is.closed (f.took.taking ∙ e.opens.taking_is)) in
    let goes : Goes (chain_blocks t (rest_of k)) t u =
    subst (λ (z : Chain). Goes (chain_blocks t z) t u) back.words c.discard.ensures.goes in
    let one = taken_runs g.Q.Queue h c.args.sweep list.count c.args.next x y c.in-Ok.last
    c.requires.can e.lends e.unmoved e.opens a f back.gives back.unmoved b st in
    let few = unstored_frames (laws.unstored_most y t after.0) out2 back.gives.sound in
    let most = laws.blocks_most y t after.0 in
    laws.frames_stay y _ t u (laws.frames_of y t after.0) goes.touches
    (out_same _ _ _ out2 goes.frames)

pub returns-in_ok-discard-in-Ok-clause-queue : goal.returns-in_ok-discard-in-Ok-clause-queue
returns-in_ok-discard-in-Ok-clause-queue g c =
    let laws = g.met.Q.Queue in
    let x = c.args.queue.now in
    let w = c.args.writer.now in
    let s = seen g.D.Device.state c.args.rig.now in
    let m = seen g.D.Device.state c.taking-reader.new.rig in
    let r = c.taking-reader.result in
    let e = c.taking-reader.ensures in
    let out = laws.out x s (laws.frames_of x s c.requires.is) in
    let kept = laws.stays x _ s m c.requires.is e.lends.touches (λ z. apart_none _)
    (out_lent 1 _ _ _ out e.lends.frames) in
    let a : Keeps g.Q.Queue x w s m =
    lent_keeps g.Q.Queue x w e.lends c.requires.can.meets.writer kept.1 kept.2 in
    let p = c.sweep_all in
    let y = p.new.queue in
    let v = p.new.writer in
    let k = p.new.reader in
    let n = seen g.D.Device.state p.new.rig in
    let t = seen g.D.Device.state c.end-rest.new.rig in
    let u = seen g.D.Device.state c.discard.new.rig in
    let back = c.end-rest.ensures in
    let h = c.args.header.now in
    let list = c.args.list in
    let can = opened_can g.Q.Queue list.count x w c.requires.can e.lends e.opens a in
    let f : Sweeps g.Q.Queue h c.args.sweep list.count list.count x y (at_constant c.args.next)
    c.in-Ok.last w v r k c.args.limits.now p.new.limits m n =
    rw (sym c.len-count.ensures, sym c.at_constant.ensures) c.in-Ok.ensures.sweeps in
    let shares = shares_frames f.runs.runs.frames f.runs.calls_on.frames f.runs.calls_on.areas in
    let out2 = out_given 1 (g.Q.Queue.counts x) (g.Q.Queue.counts y) s.pool m.pool n.pool t.pool out
    e.lends.frames shares back.gives.frames in
    let after = laws.stays y _ n t c.in-Ok.ensures.queue back.gives.touches (λ z. apart_none _)
    out2 in
    let b : Keeps g.Q.Queue y v n t = given_keeps g.Q.Queue y v back.gives f.meets.is
    (swept_out g.Q.Queue h c.args.sweep list.count list.count list.count x y
    (at_constant c.args.next) c.in-Ok.last can f) after.1 after.2 in
    let st : ChainStays n t (rest_of k) =
    back.stays (f.took.is.closed (f.took.taking ∙ e.opens.taking_is)) in
    let goes : Goes (chain_blocks t (rest_of k)) t u =
    subst (λ (z : Chain). Goes (chain_blocks t z) t u) back.words c.discard.ensures.goes in
    let one = taken_runs g.Q.Queue h c.args.sweep list.count c.args.next x y c.in-Ok.last
    c.requires.can e.lends e.unmoved e.opens a f back.gives back.unmoved b st in
    let few = unstored_frames (laws.unstored_most y t after.0) out2 back.gives.sound in
    let most = laws.blocks_most y t after.0 in
    let kept2 = laws.stays y _ t u after.0 goes.touches (queue_after g.Q.Queue y v (rest_of k) one)
    (out_same _ _ _ out2 goes.frames) in
    let d : Keeps g.Q.Queue y v t u = released_keeps g.Q.Queue y v (rest_of k) one b.list.is goes
    kept2.1 kept2.2 in
    kept2.0

pub returns-in_ok-discard-in-Ok-clause-sweeps : goal.returns-in_ok-discard-in-Ok-clause-sweeps
returns-in_ok-discard-in-Ok-clause-sweeps g c =
    let laws = g.met.Q.Queue in
    let x = c.args.queue.now in
    let w = c.args.writer.now in
    let s = seen g.D.Device.state c.args.rig.now in
    let m = seen g.D.Device.state c.taking-reader.new.rig in
    let r = c.taking-reader.result in
    let e = c.taking-reader.ensures in
    let out = laws.out x s (laws.frames_of x s c.requires.is) in
    let kept = laws.stays x _ s m c.requires.is e.lends.touches (λ z. apart_none _)
    (out_lent 1 _ _ _ out e.lends.frames) in
    let a : Keeps g.Q.Queue x w s m =
    lent_keeps g.Q.Queue x w e.lends c.requires.can.meets.writer kept.1 kept.2 in
    let p = c.sweep_all in
    let y = p.new.queue in
    let v = p.new.writer in
    let k = p.new.reader in
    let n = seen g.D.Device.state p.new.rig in
    let t = seen g.D.Device.state c.end-rest.new.rig in
    let u = seen g.D.Device.state c.discard.new.rig in
    let back = c.end-rest.ensures in
    let h = c.args.header.now in
    let list = c.args.list in
    let can = opened_can g.Q.Queue list.count x w c.requires.can e.lends e.opens a in
    let f : Sweeps g.Q.Queue h c.args.sweep list.count list.count x y (at_constant c.args.next)
    c.in-Ok.last w v r k c.args.limits.now p.new.limits m n =
    rw (sym c.len-count.ensures, sym c.at_constant.ensures) c.in-Ok.ensures.sweeps in
    let shares = shares_frames f.runs.runs.frames f.runs.calls_on.frames f.runs.calls_on.areas in
    let out2 = out_given 1 (g.Q.Queue.counts x) (g.Q.Queue.counts y) s.pool m.pool n.pool t.pool out
    e.lends.frames shares back.gives.frames in
    let after = laws.stays y _ n t c.in-Ok.ensures.queue back.gives.touches (λ z. apart_none _)
    out2 in
    let b : Keeps g.Q.Queue y v n t = given_keeps g.Q.Queue y v back.gives f.meets.is
    (swept_out g.Q.Queue h c.args.sweep list.count list.count list.count x y
    (at_constant c.args.next) c.in-Ok.last can f) after.1 after.2 in
    let st : ChainStays n t (rest_of k) =
    back.stays (f.took.is.closed (f.took.taking ∙ e.opens.taking_is)) in
    let goes : Goes (chain_blocks t (rest_of k)) t u =
    subst (λ (z : Chain). Goes (chain_blocks t z) t u) back.words c.discard.ensures.goes in
    let one = taken_runs g.Q.Queue h c.args.sweep list.count c.args.next x y c.in-Ok.last
    c.requires.can e.lends e.unmoved e.opens a f back.gives back.unmoved b st in
    let few = unstored_frames (laws.unstored_most y t after.0) out2 back.gives.sound in
    let most = laws.blocks_most y t after.0 in
    let kept2 = laws.stays y _ t u after.0 goes.touches (queue_after g.Q.Queue y v (rest_of k) one)
    (out_same _ _ _ out2 goes.frames) in
    let d : Keeps g.Q.Queue y v t u = released_keeps g.Q.Queue y v (rest_of k) one b.list.is goes
    kept2.1 kept2.2 in
    let frees : Frees {T = Unit {0}} k.blocks t u (Ok c.in_ok-discard-in-Ok.field-0) =
    subst (λ (z : Chain). Frees {T = Unit {0}} z.blocks t u (Ok c.in_ok-discard-in-Ok.field-0))
    back.words c.in_ok-discard-in-Ok.ensures.frees in
    taken_list {T = Unit {0}} g.Q.Queue h c.args.sweep list.count c.args.next x y c.in-Ok.last
    c.in_ok-discard-in-Ok.field-0 c.requires.can e.lends e.unmoved e.opens a f back.gives
    back.unmoved b st most goes frees d

pub returns-in-Err-clause-frames : goal.returns-in-Err-clause-frames
returns-in-Err-clause-frames g c =
    let laws = g.met.Q.Queue in
    let x = c.args.queue.now in
    let w = c.args.writer.now in
    let s = seen g.D.Device.state c.args.rig.now in
    let m = seen g.D.Device.state c.taking-reader.new.rig in
    let r = c.taking-reader.result in
    let e = c.taking-reader.ensures in
    let out = laws.out x s (laws.frames_of x s c.requires.is) in
    let kept = laws.stays x _ s m c.requires.is e.lends.touches (λ z. apart_none _)
    (out_lent 1 _ _ _ out e.lends.frames) in
    let p = c.sweep_all in
    let y = p.new.queue in
    let v = p.new.writer in
    let k = p.new.reader in
    let n = seen g.D.Device.state p.new.rig in
    let t = seen g.D.Device.state c.abandon.new.rig in
    let back = c.abandon.ensures in
    let h = c.args.header.now in
    let from = c.at_constant.result in
    let shares = c.in-Err.ensures.sweeps.stops.frames in
    let out2 = out_given 1 (g.Q.Queue.counts x) (g.Q.Queue.counts y) s.pool m.pool n.pool t.pool out
    e.lends.frames shares back.gives.frames in
    laws.frames_stay y _ n t p.ensures.frames back.gives.touches out2

pub returns-in-Err-clause-sweeps : goal.returns-in-Err-clause-sweeps
returns-in-Err-clause-sweeps g c =
    let laws = g.met.Q.Queue in
    let x = c.args.queue.now in
    let w = c.args.writer.now in
    let s = seen g.D.Device.state c.args.rig.now in
    let m = seen g.D.Device.state c.taking-reader.new.rig in
    let r = c.taking-reader.result in
    let e = c.taking-reader.ensures in
    let out = laws.out x s (laws.frames_of x s c.requires.is) in
    let kept = laws.stays x _ s m c.requires.is e.lends.touches (λ z. apart_none _)
    (out_lent 1 _ _ _ out e.lends.frames) in
    let a : Keeps g.Q.Queue x w s m =
    lent_keeps g.Q.Queue x w e.lends c.requires.can.meets.writer kept.1 kept.2 in
    let p = c.sweep_all in
    let y = p.new.queue in
    let v = p.new.writer in
    let k = p.new.reader in
    let n = seen g.D.Device.state p.new.rig in
    let t = seen g.D.Device.state c.abandon.new.rig in
    let back = c.abandon.ensures in
    let h = c.args.header.now in
    let from = c.at_constant.result in
    let shares = c.in-Err.ensures.sweeps.stops.frames in
    let out2 = out_given 1 (g.Q.Queue.counts x) (g.Q.Queue.counts y) s.pool m.pool n.pool t.pool out
    e.lends.frames shares back.gives.frames in
    let stops : StopsSweeping g.Q.Queue x y w r c.args.limits.now m n c.in-Err.fault =
    c.in-Err.ensures.sweeps in
    taken_stops g.Q.Queue x y e.lends e.unmoved e.opens a stops back.gives back.unmoved
