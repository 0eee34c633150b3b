use Rattle.std.proofs.Common.{ap, arith}
use Rattle.em_space.specs.Queue.{QueueCounts}
use Rattle.em_space.specs.Seen.{seen}
use Rattle.aig_order.proofs.FewCalls.{calls_low}
use Rattle.aig_tests.proofs.Making.{can_lend, defined_beside, graph_beside, graph_held}
use Rattle.aig_tests.proofs.ordering.rank.Goals as goal

pub order-requires-clause-graph : goal.order-requires-clause-graph
order-requires-clause-graph g c =
    (graph_beside (seen g.D.Device.state c.args.rig.now) (seen g.D.Device.state c.new.new.rig)
    c.args.graph c.requires.graph c.new.ensures.lends.touches).is

pub order-requires-clause-defined : goal.order-requires-clause-defined
order-requires-clause-defined g c =
    let s = seen g.D.Device.state c.args.rig.now in
    let t = seen g.D.Device.state c.new.new.rig in
    let h = c.new.ensures.lends.touches in
    defined_beside (graph_beside s t c.args.graph c.requires.graph h) h.told c.requires.defined

pub order-requires-clause-begins : goal.order-requires-clause-begins
order-requires-clause-begins g c =
    let s = seen g.D.Device.state c.args.rig.now in
    let t = seen g.D.Device.state c.new.new.rig in
    let made = c.in_ok-queue.ensures in
    let none = ap (λ (n : QueueCounts). n.n) made.counts in
    let low = calls_low c.args.graph.header c.requires.graph.header in
    record {
      empty = ap (λ (n : QueueCounts). n.len) made.counts;
      few = omega (arith, none, low);
      free = can_lend s t c.requires.has c.new.ensures.lends;
    }

pub order-requires-clause-holds : goal.order-requires-clause-holds
order-requires-clause-holds g c =
    let s = seen g.D.Device.state c.args.rig.now in
    let t = seen g.D.Device.state c.new.new.rig in
    graph_held t c.args.graph _ c.in_ok-queue.ensures.blocks
    (graph_beside s t c.args.graph c.requires.graph c.new.ensures.lends.touches).is
