use Rattle.em_tree_part_tests.proofs.Ready.{is_high}
use Rattle.em_tree_part_tests.proofs.fused_leaves.high_of.Goals as goal

pub scans-requires-clause-is : goal.scans-requires-clause-is
scans-requires-clause-is g c = is_high c.requires.ready.small c.in-Some.is c.requires.is
