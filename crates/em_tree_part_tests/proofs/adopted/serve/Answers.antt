use Rattle.em_tree_part_tests.proofs.Drains.{tree_puts}
use Rattle.em_tree_part_tests.proofs.adopted.serve.Goals as goal

pub push_more-requires-clause-has : goal.push_more-requires-clause-has
push_more-requires-clause-has g c =
    tree_puts c.requires.rig c.requires.free c.requires.areas c.requires.shape c.in_ok-tree.ensures
