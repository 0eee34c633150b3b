use Rattle.std.proofs.Common.{Result}
use Rattle.em_space.specs.Seen.{seen}
use Rattle.aig_text.specs.declared.stop.AigStop.{AigStop}
use Rattle.aig_text.proofs.Lines.{of_error}
use Rattle.aig_order.specs.Room.{OrdersBlocks}
use Rattle.aig_edges.specs.declared.graph.Ordered.{Ordered}
use Rattle.aig_edges.proofs.Ended.{cause_left, pays_left}
use Rattle.aig_order.proofs.OrderEnded.{orders_graph, costs_ended, costs_left, few_ended, few_left, pays_unended, stores_ended, up_ended, up_left}
use Rattle.aig_order.proofs.OrderRoom.{end_full, left_full, orders_blocks}
use Rattle.aig_order.proofs.ordering.order.Goals as goal

pub returns-in_err-end-in-Ok-clause-uses_up : goal.returns-in_err-end-in-Ok-clause-uses_up
returns-in_err-end-in-Ok-clause-uses_up g c =
    up_ended g.Q.Queue c.args.queue c.find_order.new.queue c.args.graph c.requires.holds
    c.in-Ok.ensures.finds
    c.end.ensures.ends

pub returns-in_err-end-in-Ok-clause-costs : goal.returns-in_err-end-in-Ok-clause-costs
returns-in_err-end-in-Ok-clause-costs g c =
    let u = seen g.D.Device.state c.find_order.new.rig in
    costs_ended g.Q.Queue c.args.queue c.find_order.new.queue c.args.graph c.in-Ok.ensures.finds
    c.in-Ok.ensures.frames c.end.ensures.ends g.met.Q.Queue.rising g.met.Q.Queue.rising_room
    (g.met.Q.Queue.fits c.find_order.new.queue u c.in-Ok.ensures.frames)

pub returns-in_ok-end-in-Ok-clause-uses_up : goal.returns-in_ok-end-in-Ok-clause-uses_up
returns-in_ok-end-in-Ok-clause-uses_up g c =
    up_ended g.Q.Queue c.args.queue c.find_order.new.queue c.args.graph c.requires.holds
    c.in-Ok.ensures.finds
    c.end.ensures.ends

pub returns-in_ok-end-in-Ok-clause-costs : goal.returns-in_ok-end-in-Ok-clause-costs
returns-in_ok-end-in-Ok-clause-costs g c =
    let u = seen g.D.Device.state c.find_order.new.rig in
    costs_ended g.Q.Queue c.args.queue c.find_order.new.queue c.args.graph c.in-Ok.ensures.finds
    c.in-Ok.ensures.frames c.end.ensures.ends g.met.Q.Queue.rising g.met.Q.Queue.rising_room
    (g.met.Q.Queue.fits c.find_order.new.queue u c.in-Ok.ensures.frames)

pub returns-in_ok-end-in-Ok-clause-orders : goal.returns-in_ok-end-in-Ok-clause-orders
returns-in_ok-end-in-Ok-clause-orders g c =
    orders_graph g.Q.Queue c.args.queue c.find_order.new.queue c.args.graph c.requires.holds
    c.in-Ok.ensures.finds
    c.end.ensures.ends

pub returns-in_ok-end-in-Ok-clause-blocks : goal.returns-in_ok-end-in-Ok-clause-blocks
returns-in_ok-end-in-Ok-clause-blocks g c =
    let laws = g.met.Q.Queue in
    let x = c.args.queue in
    let y = c.find_order.new.queue in
    let u = seen g.D.Device.state c.find_order.new.rig in
    orders_blocks g.Q.Queue x c.args.graph _ c.requires.sound c.requires.graph
    (laws.since_none x _ c.requires.queue c.requires.begins.empty)
    (costs_ended g.Q.Queue x y c.args.graph c.in-Ok.ensures.finds c.in-Ok.ensures.frames
    c.end.ensures.ends laws.rising laws.rising_room (laws.fits y u c.in-Ok.ensures.frames)) tt
    (stores_ended g.Q.Queue x y c.args.graph c.in-Ok.ensures.finds c.in_ok-end-in-Ok.ensures.ended
    c.end.ensures.ends.touches.moves)

pub returns-in_err-end-in-Ok-clause-blocks : goal.returns-in_err-end-in-Ok-clause-blocks
returns-in_err-end-in-Ok-clause-blocks g c =
    let laws = g.met.Q.Queue in
    let x = c.args.queue in
    let y = c.find_order.new.queue in
    let s = seen g.D.Device.state c.args.rig.now in
    let u = seen g.D.Device.state c.find_order.new.rig in
    let v = seen g.D.Device.state c.end.new.rig in
    let e = c.in_err-end-in-Ok.ensures in
    of_error (λ (z : Result Ordered AigStop). OrdersBlocks g.Q.Queue (g.Q.Queue.counts x) s v c.args.graph z)
    _ _ c.from_residual.ensures.1
    (orders_blocks g.Q.Queue x c.args.graph _ c.requires.sound c.requires.graph
    (laws.since_none x _ c.requires.queue c.requires.begins.empty)
    (costs_ended g.Q.Queue x y c.args.graph c.in-Ok.ensures.finds c.in-Ok.ensures.frames
    c.end.ensures.ends laws.rising laws.rising_room (laws.fits y u c.in-Ok.ensures.frames))
    (end_full g.Q.Queue x y c.in_err-end-in-Ok.field-0.0 c.in-Ok.ensures.finds laws.rising_room e.full)
    (pays_unended g.Q.Queue x y c.args.graph c.in-Ok.ensures.finds e.owes
    c.end.ensures.ends.touches.moves))

pub returns-in-Err-clause-uses_up : goal.returns-in-Err-clause-uses_up
returns-in-Err-clause-uses_up g c =
    up_left g.Q.Queue c.args.queue c.find_order.new.queue c.args.graph c.in-Err.ensures.finds.done
    c.abandon.ensures.leaves

pub returns-in-Err-clause-stops : goal.returns-in-Err-clause-stops
returns-in-Err-clause-stops g c =
    c.in-Err.ensures.finds.stops

pub returns-in-Err-clause-costs : goal.returns-in-Err-clause-costs
returns-in-Err-clause-costs g c =
    let u = seen g.D.Device.state c.find_order.new.rig in
    costs_left g.Q.Queue c.args.queue c.find_order.new.queue c.args.graph c.in-Err.ensures.finds.done
    c.in-Err.ensures.frames c.abandon.ensures.leaves g.met.Q.Queue.rising (g.met.Q.Queue.spends
    c.find_order.new.queue u c.in-Err.ensures.frames) g.met.Q.Queue.rising_room (g.met.Q.Queue.fits
    c.find_order.new.queue u c.in-Err.ensures.frames)

pub returns-in-Err-clause-blocks : goal.returns-in-Err-clause-blocks
returns-in-Err-clause-blocks g c =
    let laws = g.met.Q.Queue in
    let x = c.args.queue in
    let y = c.find_order.new.queue in
    let u = seen g.D.Device.state c.find_order.new.rig in
    orders_blocks g.Q.Queue x c.args.graph _ c.requires.sound c.requires.graph
    (laws.since_none x _ c.requires.queue c.requires.begins.empty)
    (costs_left g.Q.Queue x y c.args.graph c.in-Err.ensures.finds.done c.in-Err.ensures.frames
    c.abandon.ensures.leaves laws.rising (laws.spends y u c.in-Err.ensures.frames) laws.rising_room
    (laws.fits y u c.in-Err.ensures.frames))
    (left_full g.Q.Queue x y c.in-Err.stop c.in-Err.ensures.finds laws.rising_room)
    (pays_left g.Q.Queue x y c.in-Err.ensures.finds.pays c.abandon.ensures.leaves)

pub returns-in-Err-clause-cause : goal.returns-in-Err-clause-cause
returns-in-Err-clause-cause g c =
    cause_left (seen g.D.Device.state c.args.rig.now) c.in-Err.stop c.abandon.ensures.leaves
    c.in-Err.ensures.finds.cause

pub abandon-requires-clause-sound : goal.abandon-requires-clause-sound
abandon-requires-clause-sound g c = c.in-Err.ensures.finds.done.sound

pub returns-in_err-end-in-Ok-clause-few : goal.returns-in_err-end-in-Ok-clause-few
returns-in_err-end-in-Ok-clause-few g c = λ f.
    let u = seen g.D.Device.state c.find_order.new.rig in
    few_ended g.Q.Queue c.args.queue c.find_order.new.queue c.args.graph c.in-Ok.ensures.finds
    (c.in-Ok.ensures.few f) c.in-Ok.ensures.frames c.end.ensures.ends g.met.Q.Queue.rising
    g.met.Q.Queue.rising_room (g.met.Q.Queue.fits c.find_order.new.queue u c.in-Ok.ensures.frames)

pub returns-in_ok-end-in-Ok-clause-few : goal.returns-in_ok-end-in-Ok-clause-few
returns-in_ok-end-in-Ok-clause-few g c = λ f.
    let u = seen g.D.Device.state c.find_order.new.rig in
    few_ended g.Q.Queue c.args.queue c.find_order.new.queue c.args.graph c.in-Ok.ensures.finds
    (c.in-Ok.ensures.few f) c.in-Ok.ensures.frames c.end.ensures.ends g.met.Q.Queue.rising
    g.met.Q.Queue.rising_room (g.met.Q.Queue.fits c.find_order.new.queue u c.in-Ok.ensures.frames)

pub returns-in-Err-clause-few : goal.returns-in-Err-clause-few
returns-in-Err-clause-few g c = λ f.
    let u = seen g.D.Device.state c.find_order.new.rig in
    few_left g.Q.Queue c.args.queue c.find_order.new.queue c.args.graph c.in-Err.ensures.finds.done
    (c.in-Err.ensures.few f) c.in-Err.ensures.frames c.abandon.ensures.leaves g.met.Q.Queue.rising
    (g.met.Q.Queue.spends c.find_order.new.queue u c.in-Err.ensures.frames)
    g.met.Q.Queue.rising_room (g.met.Q.Queue.fits c.find_order.new.queue u c.in-Err.ensures.frames)
