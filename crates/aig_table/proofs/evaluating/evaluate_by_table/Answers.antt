use Rattle.std.proofs.Common.{◌∙◌, [], ap, arith, length}
use Rattle.em_frames.specs.Pool.{given, lent, singles_of}
use Rattle.em_space.specs.Seen.{seen}
use Rattle.em_space.proofs.Held.{apart_none}
use Rattle.em_space.proofs.Queues.{out_given, out_lent}
use Rattle.em_chain.specs.Effects.{GivesFrame, LendsFrame, Unmoved}
use Rattle.aig_edges.proofs.Pushed.{on_ok}
use Rattle.aig_table.proofs.Around.{gives_frame, lends_frame, unmoved_by}
use Rattle.aig_table.proofs.Framed.{evaluates_shares, framed, framed_can, framed_for}
use Rattle.aig_table.proofs.evaluating.evaluate_by_table.Goals as goal

pub evaluate_beside-done-requires-clause-is : goal.evaluate_beside-done-requires-clause-is
evaluate_beside-done-requires-clause-is g c =
    let laws = g.met.Q.Queue in
    let x = c.args.queue.now in
    let s = seen g.D.Device.state c.args.rig.now in
    let m = seen g.D.Device.state c.lend-row.new.self in
    let l = c.lend-row.ensures in
    let free = c.requires.spare.singles in
    let lends : LendsFrame s m = lends_frame l.sound l.touches l.lent (omega (arith, free)) l.most in
    let out = laws.out x s (laws.frames_of x s c.requires.is) in
    let kept = laws.stays x [] s m c.requires.is l.touches (λ z. apart_none (g.Q.Queue.blocks x s)) (out_lent 1 _ _ _ out lends.frames) in
    kept.0

pub evaluate_beside-done-requires-clause-can : goal.evaluate_beside-done-requires-clause-can
evaluate_beside-done-requires-clause-can g c =
    let laws = g.met.Q.Queue in
    let x = c.args.queue.now in
    let s = seen g.D.Device.state c.args.rig.now in
    let m = seen g.D.Device.state c.lend-row.new.self in
    let l = c.lend-row.ensures in
    let free = c.requires.spare.singles in
    let lends : LendsFrame s m = lends_frame l.sound l.touches l.lent (omega (arith, free)) l.most in
    let still : Unmoved s m = unmoved_by (lent s.pool) l.lent in
    let out = laws.out x s (laws.frames_of x s c.requires.is) in
    let kept = laws.stays x [] s m c.requires.is l.touches (λ z. apart_none (g.Q.Queue.blocks x s)) (out_lent 1 _ _ _ out lends.frames) in
    framed_can g.Q.Queue x c.requires.can lends still kept.1 kept.2 c.requires.spare

pub evaluate_beside-done-requires-clause-row : goal.evaluate_beside-done-requires-clause-row
evaluate_beside-done-requires-clause-row g c =
    let long = ap length c.records_mut.ensures.value in
    let len = c.lend-row.ensures.len in
    let row = c.requires.row in
    omega (arith, long, len, row)

pub give-requires-clause-out : goal.give-requires-clause-out
give-requires-clause-out g c =
    let laws = g.met.Q.Queue in
    let x = c.args.queue.now in
    let y = c.evaluate_beside-done.new.queue in
    let s = seen g.D.Device.state c.args.rig.now in
    let m = seen g.D.Device.state c.lend-row.new.self in
    let n = seen g.D.Device.state c.evaluate_beside-done.new.rig in
    let l = c.lend-row.ensures in
    let free = c.requires.spare.singles in
    let lends : LendsFrame s m = lends_frame l.sound l.touches l.lent (omega (arith, free)) l.most in
    let out = (laws.out x s (laws.frames_of x s c.requires.is)).singles in
    let shares = evaluates_shares g.Q.Queue x y c.args.header.now c.args.given.now c.args.gates.now c.args.bits m n
    c.evaluate_beside-done.result c.evaluate_beside-done.ensures.evaluates in
    let shape = ap singles_of (shares.shape ∙ lends.frames.shape) in
    let all = shares.free in
    let one = lends.frames.free in
    omega (arith, out, shape, all, one)

pub returns-clause-frames : goal.returns-clause-frames
returns-clause-frames g c =
    let laws = g.met.Q.Queue in
    let x = c.args.queue.now in
    let s = seen g.D.Device.state c.args.rig.now in
    let m = seen g.D.Device.state c.lend-row.new.self in
    let l = c.lend-row.ensures in
    let free = c.requires.spare.singles in
    let lends : LendsFrame s m = lends_frame l.sound l.touches l.lent (omega (arith, free)) l.most in
    let still : Unmoved s m = unmoved_by (lent s.pool) l.lent in
    let out = laws.out x s (laws.frames_of x s c.requires.is) in
    let kept = laws.stays x [] s m c.requires.is l.touches (λ z. apart_none (g.Q.Queue.blocks x s)) (out_lent 1 _ _ _ out lends.frames) in
    let e = c.evaluate_beside-done.ensures in
    let y = c.evaluate_beside-done.new.queue in
    let n = seen g.D.Device.state c.evaluate_beside-done.new.rig in
    let t = seen g.D.Device.state c.give.new.self in
    let d = c.give.ensures in
    let gives : GivesFrame [] n t = gives_frame d.sound d.touches d.given in
    let back : Unmoved n t = unmoved_by (given n.pool) d.given in
    let shares = evaluates_shares g.Q.Queue x y c.args.header.now c.args.given.now c.args.gates.now
    c.args.bits m n c.evaluate_beside-done.result e.evaluates in
    let out2 = out_given 1 (g.Q.Queue.counts x) (g.Q.Queue.counts y) s.pool m.pool n.pool t.pool out lends.frames
    shares gives.frames in
    laws.frames_stay y [] n t e.frames d.touches out2

pub returns-clause-queue : goal.returns-clause-queue
returns-clause-queue g c =
    let laws = g.met.Q.Queue in
    let x = c.args.queue.now in
    let s = seen g.D.Device.state c.args.rig.now in
    let m = seen g.D.Device.state c.lend-row.new.self in
    let l = c.lend-row.ensures in
    let free = c.requires.spare.singles in
    let lends : LendsFrame s m = lends_frame l.sound l.touches l.lent (omega (arith, free)) l.most in
    let still : Unmoved s m = unmoved_by (lent s.pool) l.lent in
    let out = laws.out x s (laws.frames_of x s c.requires.is) in
    let kept = laws.stays x [] s m c.requires.is l.touches (λ z. apart_none (g.Q.Queue.blocks x s)) (out_lent 1 _ _ _ out lends.frames) in
    let e = c.evaluate_beside-done.ensures in
    let y = c.evaluate_beside-done.new.queue in
    let n = seen g.D.Device.state c.evaluate_beside-done.new.rig in
    let t = seen g.D.Device.state c.give.new.self in
    let d = c.give.ensures in
    let gives : GivesFrame [] n t = gives_frame d.sound d.touches d.given in
    let back : Unmoved n t = unmoved_by (given n.pool) d.given in
    let shares = evaluates_shares g.Q.Queue x y c.args.header.now c.args.given.now c.args.gates.now
    c.args.bits m n c.evaluate_beside-done.result e.evaluates in
    let out2 = out_given 1 (g.Q.Queue.counts x) (g.Q.Queue.counts y) s.pool m.pool n.pool t.pool out lends.frames
    shares gives.frames in
    let after = on_ok c.evaluate_beside-done.result e.queue
    (λ i. laws.stays y [] n t i d.touches (λ z. apart_none (g.Q.Queue.blocks y n)) out2) in
    on_ok c.evaluate_beside-done.result after (λ i. i.0)

pub returns-clause-evaluates : goal.returns-clause-evaluates
returns-clause-evaluates g c =
    let laws = g.met.Q.Queue in
    let x = c.args.queue.now in
    let s = seen g.D.Device.state c.args.rig.now in
    let m = seen g.D.Device.state c.lend-row.new.self in
    let l = c.lend-row.ensures in
    let free = c.requires.spare.singles in
    let lends : LendsFrame s m = lends_frame l.sound l.touches l.lent (omega (arith, free)) l.most in
    let still : Unmoved s m = unmoved_by (lent s.pool) l.lent in
    let out = laws.out x s (laws.frames_of x s c.requires.is) in
    let kept = laws.stays x [] s m c.requires.is l.touches (λ z. apart_none (g.Q.Queue.blocks x s)) (out_lent 1 _ _ _ out lends.frames) in
    let e = c.evaluate_beside-done.ensures in
    let y = c.evaluate_beside-done.new.queue in
    let n = seen g.D.Device.state c.evaluate_beside-done.new.rig in
    let t = seen g.D.Device.state c.give.new.self in
    let d = c.give.ensures in
    let gives : GivesFrame [] n t = gives_frame d.sound d.touches d.given in
    let back : Unmoved n t = unmoved_by (given n.pool) d.given in
    let shares = evaluates_shares g.Q.Queue x y c.args.header.now c.args.given.now c.args.gates.now
    c.args.bits m n c.evaluate_beside-done.result e.evaluates in
    let out2 = out_given 1 (g.Q.Queue.counts x) (g.Q.Queue.counts y) s.pool m.pool n.pool t.pool out lends.frames
    shares gives.frames in
    let after = on_ok c.evaluate_beside-done.result e.queue
    (λ i. laws.stays y [] n t i d.touches (λ z. apart_none (g.Q.Queue.blocks y n)) out2) in
    framed g.Q.Queue x c.requires.can lends still kept.1 kept.2 (g.Q.Queue.IsQueue y t) y gives
    back c.evaluate_beside-done.result after
    e.evaluates

pub returns-clause-few : goal.returns-clause-few
returns-clause-few g c = c.evaluate_beside-done.ensures.few

pub returns-clause-values : goal.returns-clause-values
returns-clause-values g c =
    let laws = g.met.Q.Queue in
    let x = c.args.queue.now in
    let s = seen g.D.Device.state c.args.rig.now in
    let m = seen g.D.Device.state c.lend-row.new.self in
    let l = c.lend-row.ensures in
    let free = c.requires.spare.singles in
    let lends : LendsFrame s m = lends_frame l.sound l.touches l.lent (omega (arith, free)) l.most in
    let still : Unmoved s m = unmoved_by (lent s.pool) l.lent in
    let out = laws.out x s (laws.frames_of x s c.requires.is) in
    let kept = laws.stays x [] s m c.requires.is l.touches (λ z. apart_none (g.Q.Queue.blocks x s)) (out_lent 1 _ _ _ out lends.frames) in
    let e = c.evaluate_beside-done.ensures in
    let y = c.evaluate_beside-done.new.queue in
    let n = seen g.D.Device.state c.evaluate_beside-done.new.rig in
    let t = seen g.D.Device.state c.give.new.self in
    let d = c.give.ensures in
    let gives : GivesFrame [] n t = gives_frame d.sound d.touches d.given in
    let back : Unmoved n t = unmoved_by (given n.pool) d.given in
    let shares = evaluates_shares g.Q.Queue x y c.args.header.now c.args.given.now c.args.gates.now
    c.args.bits m n c.evaluate_beside-done.result e.evaluates in
    let out2 = out_given 1 (g.Q.Queue.counts x) (g.Q.Queue.counts y) s.pool m.pool n.pool t.pool out lends.frames
    shares gives.frames in
    let after = on_ok c.evaluate_beside-done.result e.queue
    (λ i. laws.stays y [] n t i d.touches (λ z. apart_none (g.Q.Queue.blocks y n)) out2) in
    framed_for g.Q.Queue x c.requires.can lends still kept.1 kept.2 (g.Q.Queue.IsQueue y t) y gives
    back c.evaluate_beside-done.result after
    e.evaluates e.values
