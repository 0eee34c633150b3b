use Rattle.em_space.specs.Seen.{seen}
use Rattle.em_tree_part_tests.specs.Builders.{GotPairs}
use Rattle.em_tree_part_tests.proofs.built.push_all.Given as goal

abbrev pub invariant-loop-number : goal.invariant-loop-number
invariant-loop-number g l = record {
  got : GotPairs (seen g.D.Device.state l.fn.rig) (seen g.D.Device.state l.rig) l.builder l.number;
}
