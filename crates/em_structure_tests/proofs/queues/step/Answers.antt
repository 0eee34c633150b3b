use Rattle.std.proofs.Common.{◌^◌, arith}
use Rattle.em_space.specs.Seen.{seen}
use Rattle.em_structure_tests.proofs.Kept.{never}
use Rattle.em_structure_tests.proofs.QueueKeeps.{called_keeps, pushed_len}
use Rattle.em_structure_tests.proofs.queues.step.Goals as goal

pub push-requires-clause-lacks : goal.push-requires-clause-lacks
push-requires-clause-lacks g c = never c.requires.untold

pub returns : goal.returns
returns g c =
    let s = seen g.D.Device.state c.args.rig.now in
    let t = seen g.D.Device.state c.push.new.rig in
    let p = c.args.queue.now in
    let q = c.push.new.self in
    called_keeps (2 ^ 20) _ s t p q c.push.result c.requires.untold c.push.ensures.serves
    c.push.ensures.frames c.push.ensures.is (pushed_len p.len q.len c.push.result c.push.ensures.len)
    (omega arith)

pub push-requires-clause-few : goal.push-requires-clause-few
push-requires-clause-few g c = let few = c.requires.few in omega (arith, few)

pub push-requires-clause-limit : goal.push-requires-clause-limit
push-requires-clause-limit g c = let few = c.requires.few in omega (arith, few)
