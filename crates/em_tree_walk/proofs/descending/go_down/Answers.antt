use Rattle.em_tree_walk.proofs.Downwards.{down_one}
use Rattle.em_tree_walk.proofs.Standing.{linked_up}
use Rattle.em_tree_walk.proofs.descending.go_down.Goals as goal

pub child_on_path-requires-clause-linked : goal.child_on_path-requires-clause-linked
child_on_path-requires-clause-linked g c =
    linked_up _ _ c.in_ok-load_node.ensures.reads.is.node.linked

pub returns-clause-descends : goal.returns-clause-descends
returns-clause-descends g c =
    down_one c.args.key c.args.at_level c.args.from c.requires.above c.requires.leads
    c.in_ok-load_node.ensures.reads c.child_on_path.ensures
