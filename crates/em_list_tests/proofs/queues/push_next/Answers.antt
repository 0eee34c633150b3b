use Rattle.std.proofs.Common.{◌≡◌, ap, arith}
use Rattle.std.proofs.lemmas.Result.{on_ok_weaker}
use Rattle.em_record.specs.declared.record.Record.{Record}
use Rattle.em_space.specs.Seen.{seen}
use Rattle.em_plain.proofs.Lacks.{lacks_next}
use Rattle.em_list_tests.proofs.queues.push_next.Goals as goal

pub returns-clause-lacks : goal.returns-clause-lacks
returns-clause-lacks g c =
    let s = seen g.D.Device.state c.args.rig.now in
    let t = seen g.D.Device.state c.push.new.rig in
    on_ok_weaker c.push.result (λ items. lacks_next c.args.number s t c.args.queue.now.queue
    c.push.new.self.queue c.item.result c.requires.lacks (ap (λ (x : Record). x.b) c.item.ensures.is)
    c.push.ensures.serves.touches.told items) c.push.ensures.items

pub push-requires-clause-lacks : goal.push-requires-clause-lacks
push-requires-clause-lacks g c =
    let is : c.item.result.b ≡ c.args.number = ap (λ (x : Record). x.b) c.item.ensures.is in
    λ z. c.requires.lacks.is z c.item.result (omega (arith, is))
