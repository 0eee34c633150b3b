use Rattle.std.proofs.Common.{◌-◌}
use Rattle.em_space.specs.Seen.{seen}
use Rattle.em_chain.specs.Row.{Discarding}
use Rattle.em_chain.proofs.discarding.discard.Given as goal

abbrev pub invariant-loop-done : goal.invariant-loop-done
invariant-loop-done g l = Discarding (seen g.D.Device.state l.fn.rig) (seen g.D.Device.state l.rig)
    l.fn.chain l.link (l.fn.chain.blocks - l.done)
