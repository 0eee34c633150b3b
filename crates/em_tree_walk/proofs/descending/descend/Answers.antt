use Rattle.em_tree_walk.proofs.Downwards.{descends_framed}
use Rattle.em_tree_walk.proofs.Standing.{leads_lent}
use Rattle.em_tree_walk.proofs.descending.descend.Goals as goal

pub descend_in-found-requires-clause-leads : goal.descend_in-found-requires-clause-leads
descend_in-found-requires-clause-leads g c =
    leads_lent c.lend-frame.ensures.lent c.requires.leads

pub returns : goal.returns
returns g c =
    descends_framed _ _ _ _ _ c.descend_in-found.result c.requires.sound c.requires.free
    c.lend-frame.ensures.lent c.descend_in-found.ensures.descends c.give.ensures.given
