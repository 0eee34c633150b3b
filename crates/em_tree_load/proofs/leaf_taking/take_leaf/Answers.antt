use Rattle.std.proofs.Common.{ap, arith, ◌∙◌}
use Rattle.em_record.specs.Shape.{ShapeNumbers, payload_of}
use Rattle.em_tree_load.specs.LeafTakes.{taken_count}
use Rattle.em_tree_load.proofs.TakenLeaves.{leaf_in_use, taken_few, takes_leaf_of, took_leaf, unread_leaf, unstored_leaf}
use Rattle.em_tree_load.proofs.Peaks.{peaks_same, peaks_then}
use Rattle.em_tree_load.proofs.leaf_taking.take_leaf.Goals as goal

pub fill_from-requires-clause-few : goal.fill_from-requires-clause-few
fill_from-requires-clause-few g c =
    let few = taken_few (payload_of c.shape.result) c.args.most c.args.stored.count in
    omega (arith, c.count_to_take-count.ensures, few.0)

pub fill_from-requires-clause-room : goal.fill_from-requires-clause-room
fill_from-requires-clause-room g c =
    let few = taken_few (payload_of c.shape.result) c.args.most c.args.stored.count in
    omega (arith, c.count_to_take-count.ensures, few.1, c.requires.room)

pub returns-in_err-rest-clause-takes : goal.returns-in_err-rest-clause-takes
returns-in_err-rest-clause-takes g c =
    takes_leaf_of _ _ c.args.leaf c.args.stored _ _ c.args.from c.args.most c.from_residual.result
    c.in_err-rest.field-0.0 c.from_residual.ensures.1
    (unread_leaf c.in_err-rest.ensures.peaks c.requires.can c.in_err-rest.ensures.fills)

pub store_leaf-requires-clause-in_use : goal.store_leaf-requires-clause-in_use
store_leaf-requires-clause-in_use g c =
    leaf_in_use c.requires.can c.in_ok-rest.ensures.fills

pub returns-in_err-store_leaf-clause-takes : goal.returns-in_err-store_leaf-clause-takes
returns-in_err-store_leaf-clause-takes g c =
    takes_leaf_of _ _ c.args.leaf c.args.stored _ _ c.args.from c.args.most
    c.from_residual-in_err-store_leaf.result c.in_err-store_leaf.field-0.0
    c.from_residual-in_err-store_leaf.ensures.1
    (unstored_leaf (peaks_then 0 c.in_ok-rest.ensures.peaks
    (peaks_same 0 c.in_err-store_leaf.ensures.moves.same) (omega arith)) c.requires.sound c.requires.can c.in_ok-rest.ensures.fills
    c.in_err-store_leaf.ensures)

pub returns-clause-takes : goal.returns-clause-takes
returns-clause-takes g c =
    let count = c.count_to_take-count.ensures
    ∙ ap (λ (p : ShapeNumbers). taken_count (payload_of p) c.args.most c.args.stored.count)
    c.shape.ensures in
    took_leaf (peaks_then 0 c.in_ok-rest.ensures.peaks
    (peaks_same 0 c.in_ok-store_leaf.ensures.moves.same) (omega arith)) c.requires.sound c.requires.can count c.in_ok-rest.ensures.fills
    c.in_ok-store_leaf.ensures
