use Rattle.std.proofs.Common.{◌∙◌, sym}
use Rattle.std.proofs.lemmas.Bool.{false≢true}
use Rattle.em_node.specs.Node.{entries_of}
use Rattle.em_tree_raise.proofs.FilledNodes.{added, left_alone, rises_last, unrisen}
use Rattle.em_tree_raise.proofs.filling.add_subtree.Goals as goal

pub next_subtree-requires-clause-left : goal.next_subtree-requires-clause-left
next_subtree-requires-clause-left g c = λ z. left_alone (c.requires.left z)

pub returns-then-not-is_above-clause-adds : goal.returns-then-not-is_above-clause-adds
returns-then-not-is_above-clause-adds g c =
    unrisen c.args.count c.requires.left c.in_ok-entry.ensures.reads c.requires.count
    (λ f. false≢true (sym c.if-not-is_above.true ∙ c.is_above.ensures.passes f))

pub insert-requires-clause-order : goal.insert-requires-clause-order
insert-requires-clause-order g c =
    rises_last (entries_of c.args.frame.now) c.args.count c.in_ok-entry.entry c.requires.count
    c.requires.node.is.rises (c.is_above.ensures.above c.if-not-is_above.false)

pub returns-clause-adds : goal.returns-clause-adds
returns-clause-adds g c =
    added c.args.frame.now c.insert.new.frame c.args.count c.in_ok-entry.ensures.reads c.requires.count
    c.insert.ensures.is
