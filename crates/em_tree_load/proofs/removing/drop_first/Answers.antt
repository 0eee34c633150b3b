use Rattle.em_tree_load.proofs.GoneNodes.{can_drop_lent, drops_framed}
use Rattle.em_tree_load.proofs.removing.drop_first.Goals as goal

pub drop_in-dropped-requires-clause-can : goal.drop_in-dropped-requires-clause-can
drop_in-dropped-requires-clause-can g c = can_drop_lent c.lend-frame.ensures.lent c.requires.can

pub returns : goal.returns
returns g c =
    drops_framed c.args.level c.args.node _ c.drop_in-dropped.result c.requires.sound
    c.requires.free c.lend-frame.ensures.lent c.drop_in-dropped.ensures.drops c.give.ensures.given
