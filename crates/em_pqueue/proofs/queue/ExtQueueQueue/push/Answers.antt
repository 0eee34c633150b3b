use Rattle.em_space.specs.Seen.{seen}
use Rattle.em_pqueue.proofs.PushCalls.{push_ends, push_leaves, push_needs, push_still, put_blocks, put_few, still_blocks, still_few, still_lacks}
use Rattle.em_pqueue.specs.ExtQueue.{GivesDown}
use Rattle.em_pqueue.proofs.Serves.{call_stands, recount_full}
use Rattle.em_pqueue.proofs.queue.ExtQueueQueue.push.Goals as goal

pub put-requires-clause-stands : goal.put-requires-clause-stands
put-requires-clause-stands g c =
    call_stands (seen g.D.Device.state c.args.rig.now) c.args.self.now c.count_call.new.self
    c.count_call.ensures c.requires.is.stands

pub put-requires-clause-limit : goal.put-requires-clause-limit
put-requires-clause-limit g c =
    let s = seen g.D.Device.state c.args.rig.now in
    still_few c.args.item s s c.args.self.now c.count_call.new.self c.requires.is
    c.count_call.ensures c.requires.limit

pub put-requires-clause-lacks : goal.put-requires-clause-lacks
put-requires-clause-lacks g c =
    let s = seen g.D.Device.state c.args.rig.now in
    still_lacks c.args.item s s c.args.self.now c.count_call.new.self c.requires.is
    c.count_call.ensures c.requires.lacks

pub recount-requires-clause-items : goal.recount-requires-clause-items
recount-requires-clause-items g c =
    let s = seen g.D.Device.state c.args.rig.now in
    let t = seen g.D.Device.state c.put.new.rig in
    put_few c.args.item s t c.args.self.now c.count_call.new.self c.requires.is
    c.count_call.ensures c.put.new.self c.put.new.self c.in_ok-put.ensures.puts c.requires.limit

pub returns-in_err-put-clause-serves : goal.returns-in_err-put-clause-serves
returns-in_err-put-clause-serves g c =
    let s = seen g.D.Device.state c.args.rig.now in
    let t = seen g.D.Device.state c.put.new.rig in
    (push_ends c.args.item s t c.args.self.now c.count_call.new.self c.requires.is
    c.count_call.ensures c.put.new.self c.in_err-put.field-0.0 c.in_err-put.ensures.puts
    c.from_residual.result c.from_residual.ensures.1).serves

pub returns-clause-serves : goal.returns-clause-serves
returns-clause-serves g c =
    let s = seen g.D.Device.state c.args.rig.now in
    let t = seen g.D.Device.state c.put.new.rig in
    (push_leaves c.args.item s t c.args.self.now c.count_call.new.self c.requires.is
    c.count_call.ensures c.put.new.self c.recount.new.self c.in_ok-put.ensures.puts
    c.requires.limit c.used-used.result c.used-used.ensures c.recount.result c.recount.ensures).serves

pub returns-clause-frames : goal.returns-clause-frames
returns-clause-frames g c =
    let s = seen g.D.Device.state c.args.rig.now in
    let t = seen g.D.Device.state c.put.new.rig in
    (push_leaves c.args.item s t c.args.self.now c.count_call.new.self c.requires.is
    c.count_call.ensures c.put.new.self c.recount.new.self c.in_ok-put.ensures.puts
    c.requires.limit c.used-used.result c.used-used.ensures c.recount.result c.recount.ensures).frames

pub returns-clause-is : goal.returns-clause-is
returns-clause-is g c =
    let s = seen g.D.Device.state c.args.rig.now in
    let t = seen g.D.Device.state c.put.new.rig in
    (push_leaves c.args.item s t c.args.self.now c.count_call.new.self c.requires.is
    c.count_call.ensures c.put.new.self c.recount.new.self c.in_ok-put.ensures.puts
    c.requires.limit c.used-used.result c.used-used.ensures c.recount.result c.recount.ensures).is

pub returns-clause-items : goal.returns-clause-items
returns-clause-items g c =
    let s = seen g.D.Device.state c.args.rig.now in
    let t = seen g.D.Device.state c.put.new.rig in
    (push_leaves c.args.item s t c.args.self.now c.count_call.new.self c.requires.is
    c.count_call.ensures c.put.new.self c.recount.new.self c.in_ok-put.ensures.puts
    c.requires.limit c.used-used.result c.used-used.ensures c.recount.result c.recount.ensures).items

pub returns-clause-len : goal.returns-clause-len
returns-clause-len g c =
    let s = seen g.D.Device.state c.args.rig.now in
    let t = seen g.D.Device.state c.put.new.rig in
    (push_leaves c.args.item s t c.args.self.now c.count_call.new.self c.requires.is
    c.count_call.ensures c.put.new.self c.recount.new.self c.in_ok-put.ensures.puts
    c.requires.limit c.used-used.result c.used-used.ensures c.recount.result c.recount.ensures).len

pub returns-clause-served : goal.returns-clause-served
returns-clause-served g c =
    let s = seen g.D.Device.state c.args.rig.now in
    let t = seen g.D.Device.state c.put.new.rig in
    (push_leaves c.args.item s t c.args.self.now c.count_call.new.self c.requires.is
    c.count_call.ensures c.put.new.self c.recount.new.self c.in_ok-put.ensures.puts
    c.requires.limit c.used-used.result c.used-used.ensures c.recount.result c.recount.ensures).served

pub returns-clause-within : goal.returns-clause-within
returns-clause-within g c =
    let s = seen g.D.Device.state c.args.rig.now in
    let t = seen g.D.Device.state c.put.new.rig in
    (push_leaves c.args.item s t c.args.self.now c.count_call.new.self c.requires.is
    c.count_call.ensures c.put.new.self c.recount.new.self c.in_ok-put.ensures.puts
    c.requires.limit c.used-used.result c.used-used.ensures c.recount.result c.recount.ensures).within

pub returns-clause-owes : goal.returns-clause-owes
returns-clause-owes g c =
    let s = seen g.D.Device.state c.args.rig.now in
    let t = seen g.D.Device.state c.put.new.rig in
    (push_leaves c.args.item s t c.args.self.now c.count_call.new.self c.requires.is
    c.count_call.ensures c.put.new.self c.recount.new.self c.in_ok-put.ensures.puts
    c.requires.limit c.used-used.result c.used-used.ensures c.recount.result c.recount.ensures).owes

pub returns-clause-full : goal.returns-clause-full
returns-clause-full g c =
    let s = seen g.D.Device.state c.args.rig.now in
    let t = seen g.D.Device.state c.put.new.rig in
    (push_leaves c.args.item s t c.args.self.now c.count_call.new.self c.requires.is
    c.count_call.ensures c.put.new.self c.recount.new.self c.in_ok-put.ensures.puts
    c.requires.limit c.used-used.result c.used-used.ensures c.recount.result c.recount.ensures).full

pub returns-clause-cause : goal.returns-clause-cause
returns-clause-cause g c =
    let s = seen g.D.Device.state c.args.rig.now in
    let t = seen g.D.Device.state c.put.new.rig in
    (push_leaves c.args.item s t c.args.self.now c.count_call.new.self c.requires.is
    c.count_call.ensures c.put.new.self c.recount.new.self c.in_ok-put.ensures.puts
    c.requires.limit c.used-used.result c.used-used.ensures c.recount.result c.recount.ensures).cause

pub returns-in_err-put-clause-needs : goal.returns-in_err-put-clause-needs
returns-in_err-put-clause-needs g c =
    let s = seen g.D.Device.state c.args.rig.now in
    let t = seen g.D.Device.state c.put.new.rig in
    push_needs c.args.item s t c.args.self.now c.count_call.new.self c.requires.is
    c.count_call.ensures c.in_err-put.ensures.needs c.in_err-put.field-0.0 c.from_residual.result
    c.from_residual.ensures.1

pub returns-in_err-put-clause-still : goal.returns-in_err-put-clause-still
returns-in_err-put-clause-still g c =
    let s = seen g.D.Device.state c.args.rig.now in
    let t = seen g.D.Device.state c.put.new.rig in
    push_still c.args.item s t c.args.self.now c.count_call.new.self c.requires.is
    c.count_call.ensures c.in_err-put.ensures.still

pub returns-clause-needs : goal.returns-clause-needs
returns-clause-needs g c =
    recount_full (GivesDown c.args.self.now c.args.item) c.used-used.result
    (seen g.D.Device.state c.put.new.rig) c.put.new.self c.recount.new.self c.recount.result
    c.recount.ensures

pub returns-clause-still : goal.returns-clause-still
returns-clause-still g c =
    let s = seen g.D.Device.state c.args.rig.now in
    let t = seen g.D.Device.state c.put.new.rig in
    push_still c.args.item s t c.args.self.now c.count_call.new.self c.requires.is
    c.count_call.ensures c.in_ok-put.ensures.still

pub returns-in_err-put-clause-owes : goal.returns-in_err-put-clause-owes
returns-in_err-put-clause-owes g c =
    let s = seen g.D.Device.state c.args.rig.now in
    let t = seen g.D.Device.state c.put.new.rig in
    (push_ends c.args.item s t c.args.self.now c.count_call.new.self c.requires.is
    c.count_call.ensures c.put.new.self c.in_err-put.field-0.0 c.in_err-put.ensures.puts
    c.from_residual.result c.from_residual.ensures.1).owes

pub returns-in_err-put-clause-full : goal.returns-in_err-put-clause-full
returns-in_err-put-clause-full g c =
    let s = seen g.D.Device.state c.args.rig.now in
    let t = seen g.D.Device.state c.put.new.rig in
    (push_ends c.args.item s t c.args.self.now c.count_call.new.self c.requires.is
    c.count_call.ensures c.put.new.self c.in_err-put.field-0.0 c.in_err-put.ensures.puts
    c.from_residual.result c.from_residual.ensures.1).full

pub returns-in_err-put-clause-room : goal.returns-in_err-put-clause-room
returns-in_err-put-clause-room g c =
    let s = seen g.D.Device.state c.args.rig.now in
    let t = seen g.D.Device.state c.put.new.rig in
    (push_ends c.args.item s t c.args.self.now c.count_call.new.self c.requires.is
    c.count_call.ensures c.put.new.self c.in_err-put.field-0.0 c.in_err-put.ensures.puts
    c.from_residual.result c.from_residual.ensures.1).room

pub returns-in_err-put-clause-over : goal.returns-in_err-put-clause-over
returns-in_err-put-clause-over g c =
    let s = seen g.D.Device.state c.args.rig.now in
    let t = seen g.D.Device.state c.put.new.rig in
    (push_ends c.args.item s t c.args.self.now c.count_call.new.self c.requires.is
    c.count_call.ensures c.put.new.self c.in_err-put.field-0.0 c.in_err-put.ensures.puts
    c.from_residual.result c.from_residual.ensures.1).over

pub returns-clause-room : goal.returns-clause-room
returns-clause-room g c =
    let s = seen g.D.Device.state c.args.rig.now in
    let t = seen g.D.Device.state c.put.new.rig in
    (push_leaves c.args.item s t c.args.self.now c.count_call.new.self c.requires.is
    c.count_call.ensures c.put.new.self c.recount.new.self c.in_ok-put.ensures.puts
    c.requires.limit c.used-used.result c.used-used.ensures c.recount.result c.recount.ensures).room

pub returns-clause-over : goal.returns-clause-over
returns-clause-over g c =
    let s = seen g.D.Device.state c.args.rig.now in
    let t = seen g.D.Device.state c.put.new.rig in
    (push_leaves c.args.item s t c.args.self.now c.count_call.new.self c.requires.is
    c.count_call.ensures c.put.new.self c.recount.new.self c.in_ok-put.ensures.puts
    c.requires.limit c.used-used.result c.used-used.ensures c.recount.result c.recount.ensures).over

pub put-requires-clause-blocks : goal.put-requires-clause-blocks
put-requires-clause-blocks g c =
    let s = seen g.D.Device.state c.args.rig.now in
    still_blocks c.args.item s s c.args.self.now c.count_call.new.self c.requires.is c.count_call.ensures

pub recount-requires-clause-few : goal.recount-requires-clause-few
recount-requires-clause-few g c =
    let s = seen g.D.Device.state c.args.rig.now in
    let t = seen g.D.Device.state c.put.new.rig in
    put_blocks c.args.item s t c.args.self.now c.count_call.new.self c.requires.is
    c.count_call.ensures c.put.new.self c.put.new.self c.in_ok-put.ensures.puts

pub returns-in_err-put-clause-frames : goal.returns-in_err-put-clause-frames
returns-in_err-put-clause-frames g c =
    let s = seen g.D.Device.state c.args.rig.now in
    let t = seen g.D.Device.state c.put.new.rig in
    (push_ends c.args.item s t c.args.self.now c.count_call.new.self c.requires.is
    c.count_call.ensures c.put.new.self c.in_err-put.field-0.0 c.in_err-put.ensures.puts
    c.from_residual.result c.from_residual.ensures.1).frames
