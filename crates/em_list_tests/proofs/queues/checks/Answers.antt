use Rattle.em_space.specs.Seen.{seen}
use Rattle.em_plain.proofs.Lacks.{lacks_still}
use Rattle.em_list_tests.proofs.Beside.{lacks_more}
use Rattle.em_list_tests.proofs.queues.checks.Goals as goal

pub returns-clause-lacks : goal.returns-clause-lacks
returns-clause-lacks g c =
    let s = seen g.D.Device.state c.args.rig.now in
    let t = seen g.D.Device.state c.pop.new.rig in
    λ n h. lacks_more (lacks_still n s t c.args.queue.now.queue c.pop.new.self.queue c.in_ok-item.item h
    c.pop.ensures.serves.touches.told c.in_ok-item.ensures.items)

pub returns-then-call-eq3-clause-lacks : goal.returns-then-call-eq3-clause-lacks
returns-then-call-eq3-clause-lacks g c = λ n h. lacks_more h
