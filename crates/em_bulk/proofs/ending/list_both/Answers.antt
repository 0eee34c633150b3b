use Rattle.std.proofs.Common.{arith}
use Rattle.em_bulk.proofs.TwoListed.{blocks_more, both_by, both_err}
use Rattle.em_bulk.proofs.ending.list_both.Goals as goal

pub returns-in_err-list_leaf-clause-lists : goal.returns-in_err-list_leaf-clause-lists
returns-in_err-list_leaf-clause-lists g c =
    both_err c.requires.sound c.requires.can _ _ _ _ c.from_residual.result _ c.from_residual.ensures.1
    c.in_err-list_leaf.ensures.lists

pub list_leaf-requires-2-clause-sound : goal.list_leaf-requires-2-clause-sound
list_leaf-requires-2-clause-sound g c = c.in_ok-list_leaf.ensures.lists.runs.session.sound

pub list_leaf-requires-2-clause-is : goal.list_leaf-requires-2-clause-is
list_leaf-requires-2-clause-is g c = c.in_ok-list_leaf.ensures.lists.wrote.is

pub list_leaf-requires-2-clause-count : goal.list_leaf-requires-2-clause-count
list_leaf-requires-2-clause-count g c =
    let n = c.in_ok-list_leaf.ensures.lists.wrote.count_is in omega (arith, n, c.requires.count)

pub list_leaf-requires-2-clause-blocks : goal.list_leaf-requires-2-clause-blocks
list_leaf-requires-2-clause-blocks g c =
    let n = blocks_more c.requires.sound c.requires.can.writer c.in_ok-list_leaf.ensures.lists in
    omega (arith, n, c.requires.blocks)

pub list_leaf-requires-2-clause-free : goal.list_leaf-requires-2-clause-free
list_leaf-requires-2-clause-free g c =
    let f = c.in_ok-list_leaf.ensures.lists.runs.frames.free in omega (arith, f, c.requires.free)

pub returns-clause-lists : goal.returns-clause-lists
returns-clause-lists g c =
    both_by c.requires.sound c.requires.can _ _ c.in_ok-list_leaf.ensures.lists _ _ c.list_leaf-2.result
    c.list_leaf-2.ensures.lists
