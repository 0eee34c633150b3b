use Rattle.std.proofs.Common.{List, subst, sym}
use Rattle.em_node.specs.declared.entry.Entry.{Entry}
use Rattle.em_node.specs.Node.{Is, LowsRise, entries_of, level_of}
use Rattle.em_tree_walk.proofs.Insertions.{inserted_after, rises_after}
use Rattle.em_tree_walk.proofs.inserting.insert_after.Goals as goal

pub insert-requires-clause-order : goal.insert-requires-clause-order
insert-requires-clause-order c =
    let es = entries_of c.args.frame.now in
    subst (λ (fs : List Entry). LowsRise fs) (sym (inserted_after es c.args.at c.args.entry))
    (rises_after es c.args.at c.args.entry c.requires.at c.requires.node.is.rises
    c.requires.follow)

pub returns-clause-is : goal.returns-clause-is
returns-clause-is c =
    let es = entries_of c.args.frame.now in
    subst (λ (fs : List Entry). Is c.insert.new.frame (level_of c.args.frame.now) fs)
    (inserted_after es c.args.at c.args.entry) c.insert.ensures.is
