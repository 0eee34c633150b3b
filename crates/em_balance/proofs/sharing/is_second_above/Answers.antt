use Rattle.std.proofs.Common.{ap, sym, ◌∙◌, arith}
use Rattle.em_record.specs.Order.{is_below}
use Rattle.em_node.specs.declared.entry.Entry.{Entry}
use Rattle.em_node.specs.Node.{entries_of}
use Rattle.em_balance.proofs.Together.{above_few, above_second, second_at}
use Rattle.em_balance.proofs.sharing.is_second_above.Goals as goal

pub returns-then-count-lt2-clause-above : goal.returns-then-count-lt2-clause-above
returns-then-count-lt2-clause-above c = λ h.
    let n = c.count.ensures in
    let f = c.if-count-lt2.true in
    above_few (entries_of c.args.frame.now) c.args.key (omega arith)

pub returns-else-count-lt2-clause-above : goal.returns-else-count-lt2-clause-above
returns-else-count-lt2-clause-above c = λ t.
    let n = c.count.ensures in
    let f = c.if-count-lt2.false in
    above_second (entries_of c.args.frame.now) c.args.key c.requires.node.is.rises (omega arith)
    (ap (λ (e : Entry). is_below c.args.key e.low) (sym c.entry_at.ensures) ∙ (sym c.comes_before.ensures ∙ t))

pub returns-else-count-lt2-clause-passes : goal.returns-else-count-lt2-clause-passes
returns-else-count-lt2-clause-passes c = λ h.
    let n = c.count.ensures in
    let f = c.if-count-lt2.false in
    c.comes_before.ensures ∙ (ap (λ (e : Entry). is_below c.args.key e.low) c.entry_at.ensures
    ∙ second_at (entries_of c.args.frame.now) c.args.key (omega arith) h)
