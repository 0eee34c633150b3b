use Rattle.em_tree_walk.proofs.Standing.{leads_lent}
use Rattle.em_tree_load.proofs.GoneNodes.{child_framed}
use Rattle.em_tree_load.proofs.removing.first_child.Goals as goal

pub child_by-child-requires-clause-leads : goal.child_by-child-requires-clause-leads
child_by-child-requires-clause-leads g c = leads_lent c.lend-frame.ensures.lent c.requires.leads

pub returns : goal.returns
returns g c =
    child_framed c.args.node _ c.child_by-child.result c.requires.sound c.requires.free
    c.lend-frame.ensures.lent c.child_by-child.ensures.reads c.give.ensures.given
