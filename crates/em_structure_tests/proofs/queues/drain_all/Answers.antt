use Rattle.std.proofs.Common.{◌^◌, arith, length}
use Rattle.em_space.specs.Seen.{seen}
use Rattle.em_structure_tests.proofs.Kept.{keeps_more, kept_on}
use Rattle.em_structure_tests.proofs.QueueKeeps.{drained_keeps}
use Rattle.em_structure_tests.proofs.queues.drain_all.Goals as goal

pub drain-requires-clause-few : goal.drain-requires-clause-few
drain-requires-clause-few g c =
    let few = c.is_long.ensures c.if-is_long.false in
    let calls = c.requires.few in
    omega (arith, few, calls)

pub returns-in_err-drain : goal.returns-in_err-drain
returns-in_err-drain g c =
    let s = seen g.D.Device.state c.args.rig.now in
    let t = seen g.D.Device.state c.drain.new.rig in
    let e = c.drain.ensures in
    let k = drained_keeps (length c.args.out.now) _ s t c.args.queue.now c.drain.new.queue
    c.drain.result c.requires.untold e.sound e.touches e.frames e.shares e.calls e.queue e.empty
    (c.is_long.ensures c.if-is_long.false) in
    kept_on (2 ^ 20) (2 ^ 20) _ _ s t _ _ c.in_err-drain.field-0.0 c.from_residual.result
    c.from_residual.ensures.1 (rw c.in_err-drain.was at k)

pub returns : goal.returns
returns g c =
    let s = seen g.D.Device.state c.args.rig.now in
    let t = seen g.D.Device.state c.drain.new.rig in
    let e = c.drain.ensures in
    let k = drained_keeps (length c.args.out.now) _ s t c.args.queue.now c.drain.new.queue
    c.drain.result c.requires.untold e.sound e.touches e.frames e.shares e.calls e.queue e.empty
    (c.is_long.ensures c.if-is_long.false) in
    keeps_more (2 ^ 20) (2 ^ 20) _ _ s t _ _ _ _ (omega arith) (rw c.in_ok-drain.was at k)
