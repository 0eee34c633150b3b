use Rattle.std.proofs.Common.{List}
use Rattle.em_space.specs.Seen.{seen}
use Rattle.em_weave.specs.Weaves.{Weaves}
use Rattle.em_weave.specs.declared.side.Side.{Side}
use Rattle.em_list_tests.proofs.weaves.follows.Given as goal

abbrev pub invariant-loop-side : goal.invariant-loop-side
invariant-loop-side g l = (given : List Side) × Weaves (seen g.D.Device.state l.fn.rig)
    (seen g.D.Device.state l.rig) l.fn.weave l.weave given
