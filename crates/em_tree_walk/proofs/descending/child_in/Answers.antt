use Rattle.std.proofs.Common.{◌≤◌, subst, sym}
use Rattle.em_node.specs.declared.entry.Entry.{Entry}
use Rattle.em_tree_walk.proofs.Standing.{link_of}
use Rattle.em_tree_walk.proofs.descending.child_in.Goals as goal

pub overflow_sub-result : goal.overflow_sub-result
overflow_sub-result c = subst (λ (e : Entry). 1 ≤ e.child) (sym c.entry_at.ensures)
    (link_of _ _ c.requires.at c.requires.linked)
