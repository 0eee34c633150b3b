use Rattle.std.proofs.Common.{◌+◌, ◌-◌, arith}
use Rattle.em_space.specs.Seen.{seen}
use Rattle.em_plain.proofs.Calls.{called, frames_after, settled_frames, taken_is, taken_served}
use Rattle.em_plain.proofs.scan_queue.ScanQueueQueue.pop.Goals as goal

pub returns-in_err-item-clause-frames : goal.returns-in_err-item-clause-frames
returns-in_err-item-clause-frames g c =
    let s = seen g.D.Device.state c.args.rig.now in
    let t = seen g.D.Device.state c.take_least-taken.new.rig in
    let a = c.moves.ensures in
    let b = c.moves-before.ensures in
    let goes = c.take_least-taken.ensures.goes in
    rw c.count_call.ensures (frames_after s t c.args.self.now c.take_least-taken.new.list _
    c.requires.sound c.requires.is goes.frames c.take_least-taken.ensures.frame
    goes.touches.moves (omega arith))

pub returns-clause-frames : goal.returns-clause-frames
returns-clause-frames g c =
    let s = seen g.D.Device.state c.args.rig.now in
    let t = seen g.D.Device.state c.take_least-taken.new.rig in
    let q = c.args.self.now in
    let v = c.take_least-taken.new.list in
    let a = c.moves.ensures in
    let b = c.moves-before.ensures in
    let goes = c.take_least-taken.ensures.goes in
    rw (c.settle.ensures, c.count_call.ensures) (settled_frames t (called q v _)
    (frames_after s t q v _ c.requires.sound c.requires.is goes.frames
    c.take_least-taken.ensures.frame goes.touches.moves (omega arith)))

pub returns-clause-is : goal.returns-clause-is
returns-clause-is g c =
    let s = seen g.D.Device.state c.args.rig.now in
    let t = seen g.D.Device.state c.take_least-taken.new.rig in
    let q = c.args.self.now in
    let v = c.take_least-taken.new.list in
    let a = c.moves.ensures in
    let b = c.moves-before.ensures in
    let goes = c.take_least-taken.ensures.goes in
    let frames = frames_after s t q v (q.spent + (c.moves.result - c.moves-before.result))
    c.requires.sound c.requires.is goes.frames c.take_least-taken.ensures.frame
    goes.touches.moves (omega arith) in
    let takes = rw c.count_call.ensures at c.in_ok-item.ensures.takes in
    rw (c.settle.ensures, c.count_call.ensures) (taken_is s t q v c.in_ok-item.item _
    c.requires.sound goes.sound c.requires.is frames goes.touches.shape takes)

pub returns-clause-served : goal.returns-clause-served
returns-clause-served g c =
    let s = seen g.D.Device.state c.args.rig.now in
    let t = seen g.D.Device.state c.take_least-taken.new.rig in
    let takes = rw c.count_call.ensures at c.in_ok-item.ensures.takes in
    rw (c.settle.ensures, c.count_call.ensures) (taken_served s t c.args.self.now
    c.take_least-taken.new.list c.in_ok-item.item _ takes)
