use Rattle.std.proofs.Common.{ap, subst, sym}
use Rattle.em_node.specs.declared.entry.Entry.{Entry}
use Rattle.em_node.specs.Node.{IsLimited, entries_of}
use Rattle.em_node.proofs.Orders.{rises_same}
use Rattle.em_tree_walk.proofs.Takings.{limit_of}
use Rattle.em_tree_walk.proofs.taking.take_in.Goals as goal

pub set_entry-requires-clause-order : goal.set_entry-requires-clause-order
set_entry-requires-clause-order c =
    rises_same (entries_of c.args.frame.now) c.args.at _ c.requires.at
    (ap (λ (e : Entry). e.low) c.entry_at-entry.ensures) c.requires.node.is.rises

pub buffer_of-buffer-requires : goal.buffer_of-buffer-requires
buffer_of-buffer-requires c = subst (λ (e : Entry). IsLimited e) (sym c.entry_at-entry.ensures)
    (limit_of (entries_of c.args.frame.now) c.args.at c.requires.at c.requires.node.is.limited)
