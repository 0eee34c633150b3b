use Rattle.em_tree_walk.proofs.Standing.{linked_up}
use Rattle.em_tree_walk.proofs.Takings.{unread_stops, unstored_stops}
use Rattle.em_tree_load.proofs.GoneNodes.{lowered_node, lowers_of}
use Rattle.em_tree_load.proofs.removing.lower_in.Goals as goal

pub returns-in_err-load_node-clause-lowers : goal.returns-in_err-load_node-clause-lowers
returns-in_err-load_node-clause-lowers g c =
    lowers_of _ _ c.args.level c.args.node c.from_residual.result c.in_err-load_node.field-0.0
    c.from_residual.ensures.1
    (unread_stops c.args.node c.in_err-load_node.ensures.reads.stops)

pub child_in-child-requires-clause-linked : goal.child_in-child-requires-clause-linked
child_in-child-requires-clause-linked g c =
    linked_up _ _ c.in_ok-load_node.ensures.reads.is.node.linked

pub returns-in_err-store-clause-lowers : goal.returns-in_err-store-clause-lowers
returns-in_err-store-clause-lowers g c =
    let e = c.in_err-store.ensures in
    lowers_of _ _ c.args.level c.args.node c.from_residual-in_err-store.result
    c.in_err-store.field-0.0 c.from_residual-in_err-store.ensures.1
    (unstored_stops c.args.node c.in_ok-load_node.ensures.reads.reads e.goes e.moved e.cause)

pub returns-clause-lowers : goal.returns-clause-lowers
returns-clause-lowers g c =
    let e = c.in_ok-store.ensures in
    lowered_node c.requires.sound c.requires.leads.in_use c.in_ok-load_node.ensures.reads
    c.child_in-child.ensures c.lower_entry.ensures.is e.goes e.moved e.stored e.in_use
