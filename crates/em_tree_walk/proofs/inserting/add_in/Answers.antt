use Rattle.std.proofs.Common.{◌*◌, ◌<◌, length, subst, ◌∙◌}
use Rattle.em_node.specs.Node.{entries_of}
use Rattle.em_record.specs.Shape.{ShapeNumbers, fan_of}
use Rattle.em_tree_walk.proofs.Insertions.{adds_of, adds_stored}
use Rattle.em_tree_walk.proofs.Takings.{unread_stops}
use Rattle.em_tree_walk.proofs.inserting.add_in.Goals as goal

pub returns-in_err-load_node-clause-adds : goal.returns-in_err-load_node-clause-adds
returns-in_err-load_node-clause-adds g c =
    adds_of _ _ c.args.level c.args.node c.args.at c.args.entry c.from_residual.result
    c.in_err-load_node.field-0.0 c.from_residual.ensures.1
    (unread_stops c.args.node c.in_err-load_node.ensures.reads.stops)

pub returns-clause-adds : goal.returns-clause-adds
returns-clause-adds g c =
    let e = c.store.ensures in
    let x = c.in_ok-load_node.ensures.reads in
    let room = c.has_room_after.ensures.0 c.if-not-has_room_after.false in
    let P : ShapeNumbers → Type 0 = λ f.
    length (entries_of c.load_node.new.frame) < 2 * fan_of f in
    adds_stored c.store.result c.requires.sound c.requires.can room.one
    (subst P (c.shape.ensures ∙ x.reads.goes.touches.shape) room.room) x
    c.insert_after.ensures.is e.goes e.moved e.stored e.in_use e.cause
