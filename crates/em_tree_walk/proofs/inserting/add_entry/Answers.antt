use Rattle.em_tree_walk.proofs.Insertions.{adds_framed, can_lent}
use Rattle.em_tree_walk.proofs.inserting.add_entry.Goals as goal

pub add_in-added-requires-clause-can : goal.add_in-added-requires-clause-can
add_in-added-requires-clause-can g c = can_lent c.lend-frame.ensures.lent c.requires.can

pub returns : goal.returns
returns g c =
    adds_framed _ _ _ _ _ c.add_in-added.result c.requires.sound c.requires.free
    c.lend-frame.ensures.lent c.add_in-added.ensures.adds c.give.ensures.given
