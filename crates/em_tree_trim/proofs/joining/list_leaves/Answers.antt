use Rattle.std.proofs.Common.{arith, refl}
use Rattle.em_tree_trim.proofs.JoinsOver.{joins_begin, joins_can, joins_end, joins_next, joins_over, joins_stop, lists_of, on_blocks, on_count, same_device, unbegun}
use Rattle.em_tree_trim.proofs.joining.list_leaves.Goals as goal

pub returns-in_err-stored-clause-lists : goal.returns-in_err-stored-clause-lists
returns-in_err-stored-clause-lists g c =
    lists_of _ _ _ _ _ _ c.from_residual.result _ c.from_residual.ensures.1
    (unbegun c.requires.sound c.requires.can c.in_err-stored.ensures)

pub loop-init : goal.loop-init
loop-init g c = joins_begin c.requires.sound c.requires.can _ refl c.in_ok-stored.ensures

pub list_leaf-requires-clause-sound : goal.list_leaf-requires-clause-sound
list_leaf-requires-clause-sound g c = c.loop.invariant.runs.session.sound

pub list_leaf-requires-clause-is : goal.list_leaf-requires-clause-is
list_leaf-requires-clause-is g c = c.loop.invariant.wrote.is

pub list_leaf-requires-clause-count : goal.list_leaf-requires-clause-count
list_leaf-requires-clause-count g c =
    let same = same_device c.in_ok-stored.ensures in
    on_count c.requires.sound c.requires.can c.loop.invariant
    (omega (arith, c.loop-test.true, c.blocks-end.ensures, same))

pub list_leaf-requires-clause-blocks : goal.list_leaf-requires-clause-blocks
list_leaf-requires-clause-blocks g c =
    let same = same_device c.in_ok-stored.ensures in
    on_blocks c.requires.sound c.requires.can c.loop.invariant
    (omega (arith, c.loop-test.true, c.blocks-end.ensures, same))

pub list_leaf-requires-clause-free : goal.list_leaf-requires-clause-free
list_leaf-requires-clause-free g c =
    let frames = c.loop.invariant.runs.frames.free in omega (arith, frames, c.requires.more)

pub returns-then-not-held-clause-lists : goal.returns-then-not-held-clause-lists
returns-then-not-held-clause-lists g c =
    joins_end c.requires.sound c.requires.can c.loop.invariant c.if-not-held.true _ _ c.list_leaf.result
    c.list_leaf.ensures.lists

pub take_next-requires-clause-sound : goal.take_next-requires-clause-sound
take_next-requires-clause-sound g c = c.loop.invariant.runs.session.sound

pub take_next-requires-clause-can : goal.take_next-requires-clause-can
take_next-requires-clause-can g c =
    joins_can c.requires.sound c.requires.can c.loop.invariant c.if-not-held.false

pub take_next-requires-clause-count : goal.take_next-requires-clause-count
take_next-requires-clause-count g c =
    let same = same_device c.in_ok-stored.ensures in
    on_count c.requires.sound c.requires.can c.loop.invariant
    (omega (arith, c.loop-test.true, c.blocks-end.ensures, same))

pub take_next-requires-clause-blocks : goal.take_next-requires-clause-blocks
take_next-requires-clause-blocks g c =
    let same = same_device c.in_ok-stored.ensures in
    on_blocks c.requires.sound c.requires.can c.loop.invariant
    (omega (arith, c.loop-test.true, c.blocks-end.ensures, same))

pub take_next-requires-clause-free : goal.take_next-requires-clause-free
take_next-requires-clause-free g c =
    let frames = c.loop.invariant.runs.frames.free in omega (arith, frames, c.requires.free)

pub take_next-requires-clause-more : goal.take_next-requires-clause-more
take_next-requires-clause-more g c =
    let frames = c.loop.invariant.runs.frames.free in omega (arith, frames, c.requires.more)

pub returns-in_err-held-clause-lists : goal.returns-in_err-held-clause-lists
returns-in_err-held-clause-lists g c =
    lists_of _ _ _ _ _ _ c.from_residual-in_err-held.result _ c.from_residual-in_err-held.ensures.1
    (joins_stop c.requires.sound c.requires.can c.loop.invariant c.if-not-held.false c.in_err-held.ensures.takes)

pub loop-preserved : goal.loop-preserved
loop-preserved g c =
    joins_next c.requires.sound c.requires.can c.loop.invariant c.if-not-held.false c.in_ok-held.ensures.takes

pub returns-clause-frame : goal.returns-clause-frame
returns-clause-frame g c = c.loop.invariant.wrote.is.frame

pub returns-clause-lists : goal.returns-clause-lists
returns-clause-lists g c =
    let same = same_device c.in_ok-stored.ensures in
    joins_over c.requires.sound c.requires.can c.loop.invariant
    (omega (arith, c.loop-test.false, c.blocks-end.ensures, same))
