use Rattle.std.proofs.Common.{ap, sym, ◌∙◌, arith}
use Rattle.em_record.specs.Order.{is_below}
use Rattle.em_node.specs.declared.entry.Entry.{Entry}
use Rattle.em_node.specs.Node.{entries_of}
use Rattle.em_balance.proofs.Together.{between_set}
use Rattle.em_balance.proofs.sharing.comes_between.Goals as goal

pub returns-then-at-last-clause-order : goal.returns-then-at-last-clause-order
returns-then-at-last-clause-order c = λ t e h.
    let n = c.count-last.ensures in
    let l = c.if-at-last.true in
    between_set (entries_of c.args.parent.now) c.args.at c.args.key e c.requires.two c.requires.node.is.rises
    (ap (λ (x : Entry). is_below x.low c.args.key) (sym c.entry_at.ensures)
    ∙ (sym c.comes_before.ensures ∙ c.if-comes_before.true)) (λ o. absurd (omega arith)) h

pub returns-else-at-last-clause-order : goal.returns-else-at-last-clause-order
returns-else-at-last-clause-order c = λ t e h.
    between_set (entries_of c.args.parent.now) c.args.at c.args.key e c.requires.two c.requires.node.is.rises
    (ap (λ (x : Entry). is_below x.low c.args.key) (sym c.entry_at.ensures)
    ∙ (sym c.comes_before.ensures ∙ c.if-comes_before.true))
    (λ o. ap (λ (x : Entry). is_below c.args.key x.low) (sym c.entry_at-else-at-last.ensures)
    ∙ (sym c.comes_before-else-at-last.ensures ∙ t)) h
