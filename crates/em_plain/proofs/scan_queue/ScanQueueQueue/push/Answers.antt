use Rattle.std.proofs.Common.{arith, sym}
use Rattle.em_space.specs.Seen.{seen}
use Rattle.em_plain.proofs.Calls.{frames_after, pushed_is, pushed_items, pushed_within, pushed_served}
use Rattle.em_plain.proofs.scan_queue.ScanQueueQueue.push.Goals as goal

pub returns-clause-frames : goal.returns-clause-frames
returns-clause-frames g c =
    let s = seen g.D.Device.state c.args.rig.now in
    let t = seen g.D.Device.state c.append-done.new.rig in
    let a = c.moves.ensures in
    let b = c.moves-before.ensures in
    let goes = c.append-done.ensures.goes in
    rw c.count_call.ensures (frames_after s t c.args.self.now c.append-done.new.self _
    c.requires.sound c.requires.is goes.frames c.append-done.ensures.frame goes.touches.moves
    (omega arith))

pub returns-clause-is : goal.returns-clause-is
returns-clause-is g c =
    let s = seen g.D.Device.state c.args.rig.now in
    let t = seen g.D.Device.state c.append-done.new.rig in
    let a = c.moves.ensures in
    let b = c.moves-before.ensures in
    let goes = c.append-done.ensures.goes in
    let e = c.count_call.ensures in
    let appends = rw e at c.append-done.ensures.appends in
    let costs = rw e at c.append-done.ensures.costs in
    let frames = frames_after s t c.args.self.now c.append-done.new.self _ c.requires.sound
    c.requires.is goes.frames c.append-done.ensures.frame goes.touches.moves (omega arith) in
    rw e (pushed_is s t c.args.self.now c.append-done.new.self c.args.item _
    c.append-done.result c.requires.is frames appends costs (sym goes.touches.told))

pub returns-clause-items : goal.returns-clause-items
returns-clause-items g c =
    let s = seen g.D.Device.state c.args.rig.now in
    let t = seen g.D.Device.state c.append-done.new.rig in
    let appends = rw c.count_call.ensures at c.append-done.ensures.appends in
    pushed_items s t c.args.self.now.writer c.append-done.new.self c.args.item c.append-done.result
    appends

pub returns-clause-served : goal.returns-clause-served
returns-clause-served g c =
    let s = seen g.D.Device.state c.args.rig.now in
    let t = seen g.D.Device.state c.append-done.new.rig in
    let e = c.count_call.ensures in
    let appends = rw e at c.append-done.ensures.appends in
    let costs = rw e at c.append-done.ensures.costs in
    rw e (pushed_served s t c.args.self.now c.append-done.new.self c.args.item _
    c.append-done.result appends costs)

pub returns-clause-within : goal.returns-clause-within
returns-clause-within g c =
    let s = seen g.D.Device.state c.args.rig.now in
    let t = seen g.D.Device.state c.append-done.new.rig in
    let appends = rw c.count_call.ensures at c.append-done.ensures.appends in
    pushed_within s t c.args.self.now.writer c.append-done.new.self c.args.item
    c.append-done.result appends

pub returns-clause-full_exactly : goal.returns-clause-full_exactly
returns-clause-full_exactly g c = rw c.count_call.ensures at c.append-done.ensures.full
