use Rattle.std.proofs.Common.{refl, Result}
use Rattle.em_space.specs.Seen.{seen}
use Rattle.em_space.specs.declared.fault.EmFault.{EmFault}
use Rattle.em_pqueue.specs.Steps.{PushesDown}
use Rattle.em_pqueue.specs.declared.queue.ExtQueue.{ExtQueue}
use Rattle.em_pqueue.proofs.Pushed.{later_of, push_refused, pushed_one}
use Rattle.em_pqueue.proofs.Working.{of_err}
use Rattle.em_pqueue.proofs.queue.ExtQueue.push_down.Goals as goal

pub push-requires-clause-op : goal.push-requires-clause-op
push-requires-clause-op g c = tt

pub push-requires-clause-later : goal.push-requires-clause-later
push-requires-clause-later g c = λ told.
    later_of (seen g.D.Device.state c.args.rig.now) c.args.self.now c.args.item c.requires.tree told
    (c.requires.lacks told)

pub returns-in_err-push : goal.returns-in_err-push
returns-in_err-push g c =
    let s = seen g.D.Device.state c.args.rig.now in
    let t = seen g.D.Device.state c.push.new.rig in
    let w : ExtQueue = record c.args.self.now { tree = c.push.new.self } in
    of_err (λ (r : Result (Unit {0}) EmFault). PushesDown c.args.item s t c.args.self.now w r) _ _
    c.from_residual.ensures.1 (push_refused s t c.args.self.now w c.in_err-push.field-0.0
    c.in_err-push.ensures.pushes c.in_err-push.ensures.counts refl c.requires.sound c.requires.tree
    c.in_err-push.ensures.room c.in_err-push.ensures.over)

pub returns : goal.returns
returns g c =
    pushed_one (seen g.D.Device.state c.args.rig.now) (seen g.D.Device.state c.push.new.rig)
    c.args.self.now _ c.args.item c.requires.tree c.requires.lacks c.in_ok-push.ensures.pushes
    c.in_ok-push.ensures.counts refl c.requires.sound c.in_ok-push.ensures.room
