use Rattle.em_tree_walk.proofs.Standing.{leads_lent}
use Rattle.em_tree_load.proofs.GoneNodes.{lowers_framed}
use Rattle.em_tree_load.proofs.removing.lower_node.Goals as goal

pub lower_in-lowered-requires-clause-leads : goal.lower_in-lowered-requires-clause-leads
lower_in-lowered-requires-clause-leads g c = leads_lent c.lend-frame.ensures.lent c.requires.leads

pub returns : goal.returns
returns g c =
    lowers_framed c.args.level c.args.node _ c.lower_in-lowered.result c.requires.sound
    c.requires.free c.lend-frame.ensures.lent c.lower_in-lowered.ensures.lowers
    c.give.ensures.given
