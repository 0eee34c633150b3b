use Rattle.em_node.specs.Node.{entries_of}
use Rattle.em_tree_load.proofs.GoneNodes.{dropped_entries, dropped_node, dropped_some}
use Rattle.em_tree_load.proofs.removing.drop_entry.Goals as goal

pub lower_entry-requires-clause-node : goal.lower_entry-requires-clause-node
lower_entry-requires-clause-node c = dropped_node (entries_of c.args.frame.now) c.remove-gone.ensures.is

pub lower_entry-requires-clause-some : goal.lower_entry-requires-clause-some
lower_entry-requires-clause-some c =
    dropped_some (entries_of c.args.frame.now) c.requires.several c.remove-gone.ensures.is

pub returns-clause-is : goal.returns-clause-is
returns-clause-is c =
    dropped_entries (entries_of c.args.frame.now) c.remove-gone.ensures.is c.lower_entry.ensures.is
