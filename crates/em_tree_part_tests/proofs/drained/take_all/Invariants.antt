use Rattle.em_space.specs.Seen.{seen}
use Rattle.em_tree_part_tests.specs.Drains.{GaveRecords}
use Rattle.em_tree_part_tests.proofs.drained.take_all.Given as goal

abbrev pub invariant-loop : goal.invariant-loop
invariant-loop g l = record {
  gave : GaveRecords (seen g.D.Device.state l.fn.rig) (seen g.D.Device.state l.rig) l.drain;
}
