use Rattle.em_space.specs.Seen.{seen}
use Rattle.em_tree_part_tests.specs.Drains.{GotPuts}
use Rattle.em_tree_part_tests.proofs.drained.push_all.Given as goal

abbrev pub invariant-loop-number : goal.invariant-loop-number
invariant-loop-number g l = record {
  got : GotPuts (seen g.D.Device.state l.fn.rig) (seen g.D.Device.state l.rig) l.tree.trunk l.number;
}
