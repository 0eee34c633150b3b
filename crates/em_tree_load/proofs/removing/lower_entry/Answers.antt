use Rattle.std.proofs.Common.{ap, subst, sym, ◌∙◌, List, set}
use Rattle.em_node.specs.declared.entry.Entry.{Entry}
use Rattle.em_node.specs.Node.{Is, IsLimited, LowsRise, entries_of, level_of}
use Rattle.em_tree_load.proofs.GoneNodes.{least_entry, least_limited, least_rises, set_least}
use Rattle.em_tree_load.proofs.removing.lower_entry.Goals as goal

pub set_entry-requires-clause-limited : goal.set_entry-requires-clause-limited
set_entry-requires-clause-limited c =
    subst (λ (e : Entry). IsLimited (least_entry e)) (sym c.entry_at-entry.ensures)
    (least_limited (entries_of c.args.frame.now) c.requires.some c.requires.node.is.limited)

pub set_entry-requires-clause-order : goal.set_entry-requires-clause-order
set_entry-requires-clause-order c =
    let es = entries_of c.args.frame.now in
    subst (λ (fs : List Entry). LowsRise fs)
    (sym (ap (λ (e : Entry). set es 0 (least_entry e)) c.entry_at-entry.ensures
    ∙ set_least es c.requires.some))
    (least_rises es c.requires.node.is.rises)

pub returns-clause-is : goal.returns-clause-is
returns-clause-is c =
    let es = entries_of c.args.frame.now in
    subst (λ (fs : List Entry). Is c.set_entry.new.frame (level_of c.args.frame.now) fs)
    (ap (λ (e : Entry). set es 0 (least_entry e)) c.entry_at-entry.ensures
    ∙ set_least es c.requires.some) c.set_entry.ensures.is
