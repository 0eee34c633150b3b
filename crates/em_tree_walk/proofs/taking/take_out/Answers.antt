use Rattle.em_tree_walk.proofs.Takings.{place_lent, takes_framed}
use Rattle.em_tree_walk.proofs.taking.take_out.Goals as goal

pub take_out_in-taken-requires-clause-place : goal.take_out_in-taken-requires-clause-place
take_out_in-taken-requires-clause-place g c =
    place_lent c.lend-frame.ensures.lent c.requires.place

pub returns : goal.returns
returns g c =
    takes_framed _ _ _ _ c.take_out_in-taken.result c.requires.sound c.requires.free
    c.lend-frame.ensures.lent c.take_out_in-taken.ensures.takes c.give.ensures.given
