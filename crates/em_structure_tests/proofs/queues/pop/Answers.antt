use Rattle.std.proofs.Common.{◌^◌, arith}
use Rattle.em_space.specs.Seen.{seen}
use Rattle.em_structure_tests.proofs.Kept.{keeps_more, kept_on}
use Rattle.em_structure_tests.proofs.QueueKeeps.{called_keeps, popped_len}
use Rattle.em_structure_tests.proofs.queues.pop.Goals as goal

pub returns-in_err-item : goal.returns-in_err-item
returns-in_err-item g c =
    let s = seen g.D.Device.state c.args.rig.now in
    let t = seen g.D.Device.state c.pop.new.rig in
    let p = c.args.queue.now in
    let q = c.pop.new.self in
    let k = called_keeps (2 ^ 20) _ s t p q c.pop.result c.requires.untold c.pop.ensures.serves
    c.pop.ensures.frames c.pop.ensures.is (popped_len p.len q.len c.pop.result c.pop.ensures.len)
    (omega arith) in
    kept_on (2 ^ 20) (2 ^ 20) _ _ s t _ _ c.in_err-item.field-0.0 c.from_residual.result
    c.from_residual.ensures.1 (rw c.in_err-item.was at k)

pub returns : goal.returns
returns g c =
    let s = seen g.D.Device.state c.args.rig.now in
    let t = seen g.D.Device.state c.pop.new.rig in
    let p = c.args.queue.now in
    let q = c.pop.new.self in
    let k = called_keeps (2 ^ 20) _ s t p q c.pop.result c.requires.untold c.pop.ensures.serves
    c.pop.ensures.frames c.pop.ensures.is (popped_len p.len q.len c.pop.result c.pop.ensures.len)
    (omega arith) in
    keeps_more (2 ^ 20) (2 ^ 20) _ _ s t _ _ _ _ (omega arith) (rw c.in_ok-item.was at k)

pub pop-requires-clause-few : goal.pop-requires-clause-few
pop-requires-clause-few g c = let few = c.requires.few in omega (arith, few)
