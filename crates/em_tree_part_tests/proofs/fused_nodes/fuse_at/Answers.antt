use Rattle.em_tree_part_tests.proofs.Ready.{can_pair, keeps_pair}
use Rattle.em_tree_part_tests.proofs.fused_nodes.fuse_at.Goals as goal

pub fuse_or_share-requires-clause-can : goal.fuse_or_share-requires-clause-can
fuse_or_share-requires-clause-can g c = can_pair c.requires.ready.small c.requires.below

pub returns : goal.returns
returns g c = record {
  keeps = keeps_pair _ _ c.args.node c.args.at c.fuse_or_share.result c.fuse_or_share.ensures.does;
}
