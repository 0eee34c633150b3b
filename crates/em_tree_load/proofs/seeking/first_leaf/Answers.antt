use Rattle.em_tree_load.proofs.FirstWays.{found_first, leaf_leads}
use Rattle.em_tree_load.proofs.seeking.first_leaf.Goals as goal

pub read_leaf-requires-clause-leads : goal.read_leaf-requires-clause-leads
read_leaf-requires-clause-leads g c = leaf_leads c.requires.can c.in_ok-way.ensures

pub returns : goal.returns
returns g c = found_first c.in_ok-way.ensures c.in_ok-stored.ensures
