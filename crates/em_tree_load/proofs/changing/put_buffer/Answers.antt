use Rattle.std.proofs.Common.{ap}
use Rattle.em_node.specs.declared.entry.Entry.{Entry}
use Rattle.em_node.specs.Node.{entries_of}
use Rattle.em_node.proofs.Orders.{rises_same}
use Rattle.em_tree_load.proofs.changing.put_buffer.Goals as goal

pub set_entry-requires-clause-order : goal.set_entry-requires-clause-order
set_entry-requires-clause-order c =
    rises_same (entries_of c.args.frame.now) c.args.at _ c.requires.at
    (ap (λ (e : Entry). e.low) c.entry_at-entry.ensures) c.requires.node.is.rises
