use Rattle.em_tree_trim.proofs.NextJoined.{joined_two, joined_whole, joins_of, next_parts, part_writer, unlisted_stops, unparted_stops}
use Rattle.em_tree_trim.proofs.joining.join_next.Goals as goal

pub part_leaves-requires-clause-can : goal.part_leaves-requires-clause-can
part_leaves-requires-clause-can g c = next_parts c.requires.sound c.requires.is c.requires.can

pub returns-in_err-change-clause-joins : goal.returns-in_err-change-clause-joins
returns-in_err-change-clause-joins g c =
    joins_of _ _ _ _ _ _ _ c.from_residual.result _ c.from_residual.ensures.1
    (unparted_stops c.requires.sound c.requires.is c.requires.can c.in_err-change.ensures)

pub list_leaf-requires-clause-is : goal.list_leaf-requires-clause-is
list_leaf-requires-clause-is g c =
    (part_writer c.requires.sound c.requires.is c.requires.can c.in_ok-change.ensures).is

pub returns-in_err-list_leaf-in-Some-clause-joins : goal.returns-in_err-list_leaf-in-Some-clause-joins
returns-in_err-list_leaf-in-Some-clause-joins g c =
    joins_of _ _ _ _ _ _ _ c.from_residual-in_err-list_leaf-in-Some.result _
    c.from_residual-in_err-list_leaf-in-Some.ensures.1
    (unlisted_stops c.requires.sound c.requires.is c.requires.can c.in_ok-change.ensures
    c.in_err-list_leaf-in-Some.ensures.lists)

pub returns-in-None-clause-joins : goal.returns-in-None-clause-joins
returns-in-None-clause-joins g c =
    joined_whole c.requires.sound c.requires.is c.requires.can c.in_ok-change.ensures c.in-None.is

pub returns-in_ok-list_leaf-in-Some-clause-joins : goal.returns-in_ok-list_leaf-in-Some-clause-joins
returns-in_ok-list_leaf-in-Some-clause-joins g c =
    joined_two c.requires.sound c.requires.is c.requires.can c.in_ok-change.ensures c.in-Some.is
    c.in_ok-list_leaf-in-Some.ensures.lists
