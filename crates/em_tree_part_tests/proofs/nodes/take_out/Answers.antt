use Rattle.em_node.proofs.Seams.{node_is}
use Rattle.em_tree_part_tests.proofs.nodes.take_out.Goals as goal

pub returns-clause-node : goal.returns-clause-node
returns-clause-node c = node_is c.remove.new.frame _ _ c.remove.ensures.is
