use Rattle.em_space.specs.Seen.{seen}
use Rattle.em_pqueue.proofs.PopCalls.{counted_few, moved_blocks, moved_few, pop_ends, pop_leaves, pop_needs, pop_still, pop_wrong, taken_blocks}
use Rattle.em_pqueue.specs.ExtQueue.{WantsRefill}
use Rattle.em_pqueue.proofs.Serves.{call_stands, miscount_full}
use Rattle.em_pqueue.proofs.queue.ExtQueueQueue.pop.Goals as goal

pub refill-requires-clause-stands : goal.refill-requires-clause-stands
refill-requires-clause-stands g c =
    call_stands (seen g.D.Device.state c.args.rig.now) c.args.self.now c.count_call.new.self
    c.count_call.ensures c.requires.is.stands

pub recount-requires-clause-items : goal.recount-requires-clause-items
recount-requires-clause-items g c =
    let s = seen g.D.Device.state c.args.rig.now in
    let t = seen g.D.Device.state c.refill.new.rig in
    moved_few s t c.args.self.now c.count_call.new.self c.requires.is c.count_call.ensures
    c.refill.new.self c.refill.new.self c.in_ok-refill.ensures.refills

pub take_least-requires : goal.take_least-requires
take_least-requires g c =
    let s = seen g.D.Device.state c.args.rig.now in
    let t = seen g.D.Device.state c.refill.new.rig in
    let few = counted_few s t c.args.self.now c.count_call.new.self c.requires.is c.count_call.ensures
    c.refill.new.self c.recount.new.self c.in_ok-refill.ensures.refills c.used-used.result
    c.used-used.ensures c.in_ok-recount.ensures in
    record { items = few }

pub returns-in_err-refill-clause-serves : goal.returns-in_err-refill-clause-serves
returns-in_err-refill-clause-serves g c =
    let s = seen g.D.Device.state c.args.rig.now in
    let t = seen g.D.Device.state c.refill.new.rig in
    (pop_ends s t c.args.self.now c.count_call.new.self c.requires.is
    c.count_call.ensures c.refill.new.self c.in_err-refill.field-0.0 c.in_err-refill.ensures.refills
    c.from_residual.result c.from_residual.ensures.1).serves

pub returns-in_err-recount-clause-serves : goal.returns-in_err-recount-clause-serves
returns-in_err-recount-clause-serves g c =
    let s = seen g.D.Device.state c.args.rig.now in
    let t = seen g.D.Device.state c.refill.new.rig in
    (pop_wrong s t c.args.self.now c.count_call.new.self c.requires.is c.count_call.ensures
    c.refill.new.self c.recount.new.self c.in_ok-refill.ensures.refills c.used-used.result
    c.used-used.ensures c.in_err-recount.field-0.0 c.in_err-recount.ensures
    c.from_residual-in_err-recount.result c.from_residual-in_err-recount.ensures.1).serves

pub returns-in_err-recount-clause-frames : goal.returns-in_err-recount-clause-frames
returns-in_err-recount-clause-frames g c =
    let s = seen g.D.Device.state c.args.rig.now in
    let t = seen g.D.Device.state c.refill.new.rig in
    (pop_wrong s t c.args.self.now c.count_call.new.self c.requires.is c.count_call.ensures
    c.refill.new.self c.recount.new.self c.in_ok-refill.ensures.refills c.used-used.result
    c.used-used.ensures c.in_err-recount.field-0.0 c.in_err-recount.ensures
    c.from_residual-in_err-recount.result c.from_residual-in_err-recount.ensures.1).frames

pub returns-in_err-recount-clause-owes : goal.returns-in_err-recount-clause-owes
returns-in_err-recount-clause-owes g c =
    let s = seen g.D.Device.state c.args.rig.now in
    let t = seen g.D.Device.state c.refill.new.rig in
    (pop_wrong s t c.args.self.now c.count_call.new.self c.requires.is c.count_call.ensures
    c.refill.new.self c.recount.new.self c.in_ok-refill.ensures.refills c.used-used.result
    c.used-used.ensures c.in_err-recount.field-0.0 c.in_err-recount.ensures
    c.from_residual-in_err-recount.result c.from_residual-in_err-recount.ensures.1).owes

pub returns-in_err-recount-clause-cause : goal.returns-in_err-recount-clause-cause
returns-in_err-recount-clause-cause g c =
    let s = seen g.D.Device.state c.args.rig.now in
    let t = seen g.D.Device.state c.refill.new.rig in
    (pop_wrong s t c.args.self.now c.count_call.new.self c.requires.is c.count_call.ensures
    c.refill.new.self c.recount.new.self c.in_ok-refill.ensures.refills c.used-used.result
    c.used-used.ensures c.in_err-recount.field-0.0 c.in_err-recount.ensures
    c.from_residual-in_err-recount.result c.from_residual-in_err-recount.ensures.1).cause

pub returns-clause-serves : goal.returns-clause-serves
returns-clause-serves g c =
    let s = seen g.D.Device.state c.args.rig.now in
    let t = seen g.D.Device.state c.refill.new.rig in
    (pop_leaves s t c.args.self.now c.count_call.new.self c.requires.is c.count_call.ensures
    c.refill.new.self c.recount.new.self c.in_ok-refill.ensures.refills c.used-used.result
    c.used-used.ensures c.in_ok-recount.ensures c.take_least.new.self c.take_least.result
    c.take_least.ensures.taken).serves

pub returns-clause-frames : goal.returns-clause-frames
returns-clause-frames g c =
    let s = seen g.D.Device.state c.args.rig.now in
    let t = seen g.D.Device.state c.refill.new.rig in
    (pop_leaves s t c.args.self.now c.count_call.new.self c.requires.is c.count_call.ensures
    c.refill.new.self c.recount.new.self c.in_ok-refill.ensures.refills c.used-used.result
    c.used-used.ensures c.in_ok-recount.ensures c.take_least.new.self c.take_least.result
    c.take_least.ensures.taken).frames

pub returns-clause-is : goal.returns-clause-is
returns-clause-is g c =
    let s = seen g.D.Device.state c.args.rig.now in
    let t = seen g.D.Device.state c.refill.new.rig in
    (pop_leaves s t c.args.self.now c.count_call.new.self c.requires.is c.count_call.ensures
    c.refill.new.self c.recount.new.self c.in_ok-refill.ensures.refills c.used-used.result
    c.used-used.ensures c.in_ok-recount.ensures c.take_least.new.self c.take_least.result
    c.take_least.ensures.taken).is

pub returns-clause-items : goal.returns-clause-items
returns-clause-items g c =
    let s = seen g.D.Device.state c.args.rig.now in
    let t = seen g.D.Device.state c.refill.new.rig in
    (pop_leaves s t c.args.self.now c.count_call.new.self c.requires.is c.count_call.ensures
    c.refill.new.self c.recount.new.self c.in_ok-refill.ensures.refills c.used-used.result
    c.used-used.ensures c.in_ok-recount.ensures c.take_least.new.self c.take_least.result
    c.take_least.ensures.taken).items

pub returns-clause-len : goal.returns-clause-len
returns-clause-len g c =
    let s = seen g.D.Device.state c.args.rig.now in
    let t = seen g.D.Device.state c.refill.new.rig in
    (pop_leaves s t c.args.self.now c.count_call.new.self c.requires.is c.count_call.ensures
    c.refill.new.self c.recount.new.self c.in_ok-refill.ensures.refills c.used-used.result
    c.used-used.ensures c.in_ok-recount.ensures c.take_least.new.self c.take_least.result
    c.take_least.ensures.taken).len

pub returns-clause-none : goal.returns-clause-none
returns-clause-none g c =
    let s = seen g.D.Device.state c.args.rig.now in
    let t = seen g.D.Device.state c.refill.new.rig in
    (pop_leaves s t c.args.self.now c.count_call.new.self c.requires.is c.count_call.ensures
    c.refill.new.self c.recount.new.self c.in_ok-refill.ensures.refills c.used-used.result
    c.used-used.ensures c.in_ok-recount.ensures c.take_least.new.self c.take_least.result
    c.take_least.ensures.taken).none

pub returns-clause-served : goal.returns-clause-served
returns-clause-served g c =
    let s = seen g.D.Device.state c.args.rig.now in
    let t = seen g.D.Device.state c.refill.new.rig in
    (pop_leaves s t c.args.self.now c.count_call.new.self c.requires.is c.count_call.ensures
    c.refill.new.self c.recount.new.self c.in_ok-refill.ensures.refills c.used-used.result
    c.used-used.ensures c.in_ok-recount.ensures c.take_least.new.self c.take_least.result
    c.take_least.ensures.taken).served

pub returns-clause-within : goal.returns-clause-within
returns-clause-within g c =
    let s = seen g.D.Device.state c.args.rig.now in
    let t = seen g.D.Device.state c.refill.new.rig in
    (pop_leaves s t c.args.self.now c.count_call.new.self c.requires.is c.count_call.ensures
    c.refill.new.self c.recount.new.self c.in_ok-refill.ensures.refills c.used-used.result
    c.used-used.ensures c.in_ok-recount.ensures c.take_least.new.self c.take_least.result
    c.take_least.ensures.taken).within

pub returns-in_err-refill-clause-needs : goal.returns-in_err-refill-clause-needs
returns-in_err-refill-clause-needs g c =
    let s = seen g.D.Device.state c.args.rig.now in
    let t = seen g.D.Device.state c.refill.new.rig in
    pop_needs s t c.args.self.now c.count_call.new.self c.requires.is c.count_call.ensures
    c.in_err-refill.ensures.needs c.in_err-refill.field-0.0 c.from_residual.result
    c.from_residual.ensures.1

pub returns-in_err-recount-clause-needs : goal.returns-in_err-recount-clause-needs
returns-in_err-recount-clause-needs g c =
    miscount_full (WantsRefill c.args.self.now) c.used-used.result
    (seen g.D.Device.state c.refill.new.rig) c.refill.new.self c.recount.new.self
    c.in_err-recount.field-0.0 c.in_err-recount.ensures c.from_residual-in_err-recount.result
    c.from_residual-in_err-recount.ensures.1

pub returns-in_err-refill-clause-still : goal.returns-in_err-refill-clause-still
returns-in_err-refill-clause-still g c =
    let s = seen g.D.Device.state c.args.rig.now in
    let t = seen g.D.Device.state c.refill.new.rig in
    pop_still s t c.args.self.now c.count_call.new.self c.requires.is c.count_call.ensures
    c.in_err-refill.ensures.still

pub returns-in_err-recount-clause-still : goal.returns-in_err-recount-clause-still
returns-in_err-recount-clause-still g c =
    let s = seen g.D.Device.state c.args.rig.now in
    let t = seen g.D.Device.state c.refill.new.rig in
    pop_still s t c.args.self.now c.count_call.new.self c.requires.is c.count_call.ensures
    c.in_ok-refill.ensures.still

pub returns-clause-still : goal.returns-clause-still
returns-clause-still g c =
    let s = seen g.D.Device.state c.args.rig.now in
    let t = seen g.D.Device.state c.refill.new.rig in
    pop_still s t c.args.self.now c.count_call.new.self c.requires.is c.count_call.ensures
    c.in_ok-refill.ensures.still

pub returns-in_err-refill-clause-room : goal.returns-in_err-refill-clause-room
returns-in_err-refill-clause-room g c =
    let s = seen g.D.Device.state c.args.rig.now in
    let t = seen g.D.Device.state c.refill.new.rig in
    (pop_ends s t c.args.self.now c.count_call.new.self c.requires.is
    c.count_call.ensures c.refill.new.self c.in_err-refill.field-0.0 c.in_err-refill.ensures.refills
    c.from_residual.result c.from_residual.ensures.1).room

pub returns-in_err-refill-clause-over : goal.returns-in_err-refill-clause-over
returns-in_err-refill-clause-over g c =
    let s = seen g.D.Device.state c.args.rig.now in
    let t = seen g.D.Device.state c.refill.new.rig in
    (pop_ends s t c.args.self.now c.count_call.new.self c.requires.is
    c.count_call.ensures c.refill.new.self c.in_err-refill.field-0.0 c.in_err-refill.ensures.refills
    c.from_residual.result c.from_residual.ensures.1).over

pub returns-in_err-recount-clause-room : goal.returns-in_err-recount-clause-room
returns-in_err-recount-clause-room g c =
    let s = seen g.D.Device.state c.args.rig.now in
    let t = seen g.D.Device.state c.refill.new.rig in
    (pop_wrong s t c.args.self.now c.count_call.new.self c.requires.is c.count_call.ensures
    c.refill.new.self c.recount.new.self c.in_ok-refill.ensures.refills c.used-used.result
    c.used-used.ensures c.in_err-recount.field-0.0 c.in_err-recount.ensures
    c.from_residual-in_err-recount.result c.from_residual-in_err-recount.ensures.1).room

pub returns-in_err-recount-clause-over : goal.returns-in_err-recount-clause-over
returns-in_err-recount-clause-over g c =
    let s = seen g.D.Device.state c.args.rig.now in
    let t = seen g.D.Device.state c.refill.new.rig in
    (pop_wrong s t c.args.self.now c.count_call.new.self c.requires.is c.count_call.ensures
    c.refill.new.self c.recount.new.self c.in_ok-refill.ensures.refills c.used-used.result
    c.used-used.ensures c.in_err-recount.field-0.0 c.in_err-recount.ensures
    c.from_residual-in_err-recount.result c.from_residual-in_err-recount.ensures.1).over

pub returns-clause-room : goal.returns-clause-room
returns-clause-room g c =
    let s = seen g.D.Device.state c.args.rig.now in
    let t = seen g.D.Device.state c.refill.new.rig in
    (pop_leaves s t c.args.self.now c.count_call.new.self c.requires.is c.count_call.ensures
    c.refill.new.self c.recount.new.self c.in_ok-refill.ensures.refills c.used-used.result
    c.used-used.ensures c.in_ok-recount.ensures c.take_least.new.self c.take_least.result
    c.take_least.ensures.taken).room

pub refill-requires-clause-blocks : goal.refill-requires-clause-blocks
refill-requires-clause-blocks g c =
    let s = seen g.D.Device.state c.args.rig.now in
    taken_blocks s s c.args.self.now c.count_call.new.self c.requires.is c.count_call.ensures

pub recount-requires-clause-few : goal.recount-requires-clause-few
recount-requires-clause-few g c =
    let s = seen g.D.Device.state c.args.rig.now in
    let t = seen g.D.Device.state c.refill.new.rig in
    moved_blocks s t c.args.self.now c.count_call.new.self c.requires.is c.count_call.ensures
    c.refill.new.self c.refill.new.self c.in_ok-refill.ensures.refills

pub returns-in_err-refill-clause-frames : goal.returns-in_err-refill-clause-frames
returns-in_err-refill-clause-frames g c =
    let s = seen g.D.Device.state c.args.rig.now in
    let t = seen g.D.Device.state c.refill.new.rig in
    (pop_ends s t c.args.self.now c.count_call.new.self c.requires.is
    c.count_call.ensures c.refill.new.self c.in_err-refill.field-0.0 c.in_err-refill.ensures.refills
    c.from_residual.result c.from_residual.ensures.1).frames

pub returns-in_err-refill-clause-owes : goal.returns-in_err-refill-clause-owes
returns-in_err-refill-clause-owes g c =
    let s = seen g.D.Device.state c.args.rig.now in
    let t = seen g.D.Device.state c.refill.new.rig in
    (pop_ends s t c.args.self.now c.count_call.new.self c.requires.is
    c.count_call.ensures c.refill.new.self c.in_err-refill.field-0.0 c.in_err-refill.ensures.refills
    c.from_residual.result c.from_residual.ensures.1).owes

pub returns-in_err-refill-clause-full : goal.returns-in_err-refill-clause-full
returns-in_err-refill-clause-full g c =
    let s = seen g.D.Device.state c.args.rig.now in
    let t = seen g.D.Device.state c.refill.new.rig in
    (pop_ends s t c.args.self.now c.count_call.new.self c.requires.is
    c.count_call.ensures c.refill.new.self c.in_err-refill.field-0.0 c.in_err-refill.ensures.refills
    c.from_residual.result c.from_residual.ensures.1).full
