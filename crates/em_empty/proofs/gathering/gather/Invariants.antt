use Rattle.std.proofs.Common.{take}
use Rattle.em_space.specs.Seen.{seen}
use Rattle.em_node.specs.Node.{entries_of}
use Rattle.em_empty.specs.Dealt.{Gathers}
use Rattle.em_empty.proofs.gathering.gather.Given as goal

abbrev pub invariant-loop-at : goal.invariant-loop-at
invariant-loop-at g l =
    Gathers (seen g.D.Device.state l.fn.rig) (seen g.D.Device.state l.rig) l.group
    (take l.at (entries_of l.fn.frame))
