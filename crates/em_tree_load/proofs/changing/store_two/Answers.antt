use Rattle.std.proofs.Common.{arith}
use Rattle.em_tree_load.proofs.Alterations.{room_for, two_stored}
use Rattle.em_tree_load.proofs.changing.store_two.Goals as goal

pub put_two-requires-clause-room : goal.put_two-requires-clause-room
put_two-requires-clause-room g c = room_for _ _ _ c.requires.sound.shape c.requires.room c.requires.len

pub put_two-requires-clause-below : goal.put_two-requires-clause-below
put_two-requires-clause-below g c =
    omega (arith, c.requires.below, c.requires.sound.numbers.blocks_high)

pub returns-clause-stores : goal.returns-clause-stores
returns-clause-stores g c =
    let e = c.store.ensures in
    two_stored c.args.at c.args.low c.args.block _ c.store.result c.requires.sound c.requires.in_use
    c.requires.node c.requires.at c.requires.room c.requires.below c.put_two.ensures.is e.goes e.moved
    e.stored e.in_use e.cause
