use Rattle.std.proofs.Common.{sym, ◌∙◌}
use Rattle.std.proofs.lemmas.Bool.{false≢true}
use Rattle.em_tree_walk.proofs.Standing.{linked_up}
use Rattle.em_tree_walk.proofs.Takings.{past_stops, takes_of, took_buffer, unread_stops, unstored_stops}
use Rattle.em_tree_walk.proofs.taking.take_out_in.Goals as goal

pub returns-in_err-load_node-clause-takes : goal.returns-in_err-load_node-clause-takes
returns-in_err-load_node-clause-takes g c =
    takes_of _ _ c.args.level c.args.node c.args.at c.from_residual.result
    c.in_err-load_node.field-0.0 c.from_residual.ensures.1
    (unread_stops c.args.node c.in_err-load_node.ensures.reads.stops)

pub child_in-child-requires-clause-linked : goal.child_in-child-requires-clause-linked
child_in-child-requires-clause-linked g c =
    linked_up _ _ c.in_ok-load_node.ensures.reads.is.node.linked

pub returns-in_err-store-clause-takes : goal.returns-in_err-store-clause-takes
returns-in_err-store-clause-takes g c =
    let e = c.in_err-store.ensures in
    takes_of _ _ c.args.level c.args.node c.args.at c.from_residual-in_err-store.result
    c.in_err-store.field-0.0 c.from_residual-in_err-store.ensures.1
    (unstored_stops c.args.node c.in_ok-load_node.ensures.reads.reads e.goes e.moved e.cause)

pub returns-then-not-has_place-clause-takes : goal.returns-then-not-has_place-clause-takes
returns-then-not-has_place-clause-takes g c =
    past_stops c.requires.sound c.requires.place c.in_ok-load_node.ensures.reads
    (λ l. false≢true (sym c.if-not-has_place.true ∙ c.has_place.ensures.1 l))

pub returns-clause-takes : goal.returns-clause-takes
returns-clause-takes g c =
    let e = c.in_ok-store.ensures in
    took_buffer c.requires.sound c.requires.place c.requires.above
    (c.has_place.ensures.0 c.if-not-has_place.false) c.in_ok-load_node.ensures.reads
    c.child_in-child.ensures c.take_in-buffer.ensures.is c.take_in-buffer.ensures.buffer e.goes
    e.moved e.stored e.in_use
