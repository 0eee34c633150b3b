use Rattle.std.proofs.Common.{length}
use Rattle.em_space.specs.Seen.{seen}
use Rattle.em_chain.specs.Writers.{Emptying}
use Rattle.em_chain.proofs.writers.Writers.abandon.Given as goal

abbrev pub invariant-loop-self : goal.invariant-loop-self
invariant-loop-self g l = Emptying (seen g.D.Device.state l.fn.rig) (seen g.D.Device.state l.rig)
    l.fn.self l.self

abbrev pub decreases-loop-self : goal.decreases-loop-self
decreases-loop-self g l = length l.self.words.items
