use Rattle.std.proofs.Common.{arith, inl, inr}
use Rattle.em_tree_part_tests.proofs.fused_leaves.parts_left.Goals as goal

pub fused_with-requires-clause-short : goal.fused_with-requires-clause-short
fused_with-requires-clause-short g c = inl (omega arith)

pub fused_with-requires-then-len-lt1024-2-clause-short : goal.fused_with-requires-then-len-lt1024-2-clause-short
fused_with-requires-then-len-lt1024-2-clause-short g c = inr (omega arith)
