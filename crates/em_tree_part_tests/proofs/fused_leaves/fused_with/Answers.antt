use Rattle.em_tree_part_tests.proofs.Ready.{can_fuse}
use Rattle.em_tree_part_tests.proofs.fused_leaves.fused_with.Goals as goal

pub fuse_leaves-requires-clause-can : goal.fuse_leaves-requires-clause-can
fuse_leaves-requires-clause-can g c =
    can_fuse c.requires.ready.small c.requires.low_count c.requires.low_blocks c.requires.high_count
    c.requires.high_blocks c.requires.short
