use Rattle.std.proofs.Common.{arith}
use Rattle.em_tree_walk.proofs.Standing.{linked_up}
use Rattle.em_tree_walk.proofs.Takings.{unread_stops, unstored_stops}
use Rattle.em_tree_load.proofs.GoneNodes.{dropped_first, drops_of, few_stops}
use Rattle.em_tree_load.proofs.removing.drop_in.Goals as goal

pub returns-in_err-load_node-clause-drops : goal.returns-in_err-load_node-clause-drops
returns-in_err-load_node-clause-drops g c =
    drops_of _ _ c.args.level c.args.node c.from_residual.result c.in_err-load_node.field-0.0
    c.from_residual.ensures.1
    (unread_stops c.args.node c.in_err-load_node.ensures.reads.stops)

pub returns-then-count-lt2-clause-drops : goal.returns-then-count-lt2-clause-drops
returns-then-count-lt2-clause-drops g c =
    few_stops c.requires.sound c.requires.can c.in_ok-load_node.ensures.reads
    (omega (arith, c.count.ensures, c.if-count-lt2.true))

pub child_in-gone-requires-clause-linked : goal.child_in-gone-requires-clause-linked
child_in-gone-requires-clause-linked g c =
    linked_up _ _ c.in_ok-load_node.ensures.reads.is.node.linked

pub child_in-first-requires-clause-linked : goal.child_in-first-requires-clause-linked
child_in-first-requires-clause-linked g c =
    linked_up _ _ c.in_ok-load_node.ensures.reads.is.node.linked

pub returns-in_err-store-clause-drops : goal.returns-in_err-store-clause-drops
returns-in_err-store-clause-drops g c =
    let e = c.in_err-store.ensures in
    drops_of _ _ c.args.level c.args.node c.from_residual-in_err-store.result
    c.in_err-store.field-0.0 c.from_residual-in_err-store.ensures.1
    (unstored_stops c.args.node c.in_ok-load_node.ensures.reads.reads e.goes e.moved e.cause)

pub returns-clause-drops : goal.returns-clause-drops
returns-clause-drops g c =
    let e = c.in_ok-store.ensures in
    dropped_first c.requires.sound c.requires.can.leads.in_use c.in_ok-load_node.ensures.reads
    (omega (arith, c.count.ensures, c.if-count-lt2.false)) c.child_in-gone.ensures
    c.child_in-first.ensures c.drop_entry.ensures.is e.goes e.moved e.stored e.in_use
