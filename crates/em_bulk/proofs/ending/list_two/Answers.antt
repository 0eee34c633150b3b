use Rattle.em_bulk.proofs.TwoListed.{is_long_by, is_short, two_by_both, two_by_joined}
use Rattle.em_bulk.proofs.ending.list_two.Goals as goal

pub returns-then-is_long-clause-lists : goal.returns-then-is_long-clause-lists
returns-then-is_long-clause-lists g c =
    two_by_both c.requires.sound c.requires.can _ _ _ _ c.list_both.result
    (is_long_by c.is_long.result c.shape.result _ _ c.shape.ensures c.is_long.ensures c.if-is_long.true)
    c.list_both.ensures.lists

pub list_joined-requires-clause-short : goal.list_joined-requires-clause-short
list_joined-requires-clause-short g c =
    is_short c.is_long.result c.shape.result _ _ c.shape.ensures c.is_long.ensures c.if-is_long.false

pub returns-clause-lists : goal.returns-clause-lists
returns-clause-lists g c =
    two_by_joined c.requires.sound c.requires.can _ _ _ _ c.list_joined.result c.list_joined.ensures.lists
