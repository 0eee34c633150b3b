use Rattle.em_tree_walk.proofs.Found.{node_searched}
use Rattle.em_tree_walk.proofs.searching.search_in.Goals as goal

pub returns-clause-searches : goal.returns-clause-searches
returns-clause-searches g c =
    node_searched c.args.level c.args.limit c.find_in.result c.requires.leads
    c.in_ok-load_node.ensures.reads c.find_in.ensures
