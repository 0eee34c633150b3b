use Rattle.em_tree_walk.proofs.Standing.{leads_lent}
use Rattle.em_tree_load.proofs.FirstWays.{way_framed}
use Rattle.em_tree_load.proofs.seeking.find_way.Goals as goal

pub first_way-way-requires-clause-leads : goal.first_way-way-requires-clause-leads
first_way-way-requires-clause-leads g c = leads_lent c.lend-frame.ensures.lent c.requires.leads

pub returns : goal.returns
returns g c =
    way_framed c.args.level c.args.root _ c.first_way-way.result c.requires.sound c.requires.free
    c.lend-frame.ensures.lent c.first_way-way.ensures.finds c.give.ensures.given
