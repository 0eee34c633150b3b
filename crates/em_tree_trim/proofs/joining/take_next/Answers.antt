use Rattle.em_tree_trim.proofs.NextTaken.{take_joins, take_writer, takes_next, untakes_next}
use Rattle.em_tree_trim.proofs.joining.take_next.Goals as goal

pub returns-in_err-next-clause-takes : goal.returns-in_err-next-clause-takes
returns-in_err-next-clause-takes g c =
    untakes_next c.requires.sound c.requires.can _ _ c.from_residual.result _ c.from_residual.ensures.1
    c.in_err-next.ensures

pub join_next-requires-clause-can : goal.join_next-requires-clause-can
join_next-requires-clause-can g c = take_joins c.requires.sound c.requires.can c.in_ok-next.ensures

pub join_next-requires-clause-is : goal.join_next-requires-clause-is
join_next-requires-clause-is g c = (take_writer c.requires.sound c.requires.can c.in_ok-next.ensures).is

pub returns-clause-takes : goal.returns-clause-takes
returns-clause-takes g c =
    takes_next c.requires.sound c.requires.can c.in_ok-next.ensures _ _ c.join_next.result c.join_next.ensures.joins
