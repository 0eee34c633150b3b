use Rattle.std.proofs.Common.{take}
use Rattle.em_space.specs.Seen.{seen}
use Rattle.em_pqueue.specs.Steps.{PushedDown}
use Rattle.em_pqueue.proofs.queue.ExtQueue.push_all.Given as goal

abbrev pub invariant-loop-at : goal.invariant-loop-at
invariant-loop-at g l =
    PushedDown (take l.at (take l.fn.count l.fn.self.heap.behind))
    (seen g.D.Device.state l.fn.rig) (seen g.D.Device.state l.rig) l.fn.self l.self
