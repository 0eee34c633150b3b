use Rattle.std.proofs.Common.{arith}
use Rattle.em_space.specs.Seen.{seen}
use Rattle.em_services.proofs.OrderedBatch.{can_order_new, orders_new}
use Rattle.em_services.proofs.batch_service.order_answers.Goals as goal

pub put_in_order-requires-clause-can : goal.put_in_order-requires-clause-can
put_in_order-requires-clause-can g c =
    let few = c.if-len-gt-ANSWERS_MOST.false in
    let count = c.len.ensures in
    can_order_new c.in-Ok.queue c.args.answers (seen g.D.Device.state c.args.rig.now)
    (seen g.D.Device.state c.new.new.rig) c.requires.are c.in-Ok.ensures.makes
    (omega (arith, few, count))

pub returns-in-Ok : goal.returns-in-Ok
returns-in-Ok g c = record {
  orders = orders_new c.in-Ok.queue c.args.answers (seen g.D.Device.state c.args.rig.now)
      (seen g.D.Device.state c.new.new.rig) c.requires.are c.in-Ok.ensures.makes
      (seen g.D.Device.state c.put_in_order.new.rig) c.put_in_order.result
      c.put_in_order.ensures.orders;
}
