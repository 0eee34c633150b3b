use Rattle.std.proofs.Common.{sym, ◌∙◌}
use Rattle.em_space.specs.Seen.{seen}
use Rattle.em_space.proofs.Held.{apart_none}
use Rattle.em_space.proofs.Queues.{out_given}
use Rattle.em_plain.specs.QueueLaws.{out}
use Rattle.em_plain.specs.ScanQueue.{IsScanQueue, counts_of, queue_blocks}
use Rattle.em_list_tests.proofs.Beside.{queue_lent, queue_read}
use Rattle.em_list_tests.proofs.clients.copies.Given as given
use Rattle.em_list_tests.proofs.clients.copies.Goals.{In_ok-same-in-Ok}
use Rattle.em_list_tests.proofs.clients.copies.Goals as goal

pub beside-requires-clause-is : goal.beside-requires-clause-is
beside-requires-clause-is g c = queue_lent c.requires.ready.is c.new-writer.ensures.lends

pub beside-requires-clause-apart : goal.beside-requires-clause-apart
beside-requires-clause-apart g c = λ z. rw c.new-writer.ensures.begins.held
    (apart_none (queue_blocks (seen g.D.Device.state c.new-writer.new.rig) c.args.queue.now.queue))

-- the queue after the list was read
module _ (g : given.Over) (c : In_ok-same-in-Ok g) where
  kept : IsScanQueue (seen g.D.Device.state c.takes.new.rig) c.beside.new.queue.queue
  kept =
      let s = seen g.D.Device.state c.args.rig.now in
      let t = seen g.D.Device.state c.new-writer.new.rig in
      let u = seen g.D.Device.state c.beside.new.rig in
      let v = seen g.D.Device.state c.finish.new.rig in
      let q = c.args.queue.now.queue in
      let b = c.in-Ok.ensures in
      queue_read b.queue c.finish.ensures.gives c.in_ok-chain-in-Ok.ensures.finishes
      c.takes.ensures.goes (λ z. b.apart (sym b.touches.told ∙ z))
      (out_given 1 (counts_of q) (counts_of c.beside.new.queue.queue) s.pool t.pool u.pool v.pool
      (out q s c.requires.ready.is.rest) c.new-writer.ensures.lends.frames b.shares
      c.finish.ensures.gives.frames)

pub returns-then-same-clause-is : goal.returns-then-same-clause-is
returns-then-same-clause-is g c = kept g (goal.at.returns-then-same-clause-is g c).In_ok-same-in-Ok

pub returns-else-same-clause-is : goal.returns-else-same-clause-is
returns-else-same-clause-is g c = kept g (goal.at.returns-else-same-clause-is g c).In_ok-same-in-Ok
