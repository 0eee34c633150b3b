use Rattle.std.proofs.Common.{arith}
use Rattle.em_tree_load.proofs.LeafBlocks.{leaf_stored}
use Rattle.em_tree_load.proofs.leaf_block.store_leaf.Goals as goal

pub returns : goal.returns
returns g c =
    let e = c.store-done.ensures in
    let low = c.requires.sound.shape.block_low in
    leaf_stored c.args.stored.now _ _ c.store-done.result c.requires.sound c.requires.free c.requires.in_use
    c.lend-frame.ensures.lent (omega (arith, low, c.lend-frame.ensures.len))
    c.put_leaf.ensures.is e.goes e.moved e.stored e.in_use e.cause c.give.ensures.given
