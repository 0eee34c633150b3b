use Rattle.std.proofs.Common.{◌≡◌, length}
use Rattle.em_tree_part_tests.proofs.blocks.write_node.Given as goal

abbrev pub invariant-loop-number : goal.invariant-loop-number
invariant-loop-number l = length l.frame ≡ 128
