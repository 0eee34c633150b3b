use Rattle.em_tree_walk.proofs.Standing.{linked_up}
use Rattle.em_tree_load.proofs.GoneNodes.{read_child}
use Rattle.em_tree_load.proofs.removing.child_by.Goals as goal

pub child_in-requires-clause-linked : goal.child_in-requires-clause-linked
child_in-requires-clause-linked g c =
    linked_up _ _ c.in_ok-load_node.ensures.reads.is.node.linked

pub returns-clause-reads : goal.returns-clause-reads
returns-clause-reads g c = read_child c.in_ok-load_node.ensures.reads c.child_in.ensures
