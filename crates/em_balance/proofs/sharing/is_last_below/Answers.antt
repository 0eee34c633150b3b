use Rattle.std.proofs.Common.{◌-◌, ap, ◌∙◌, arith}
use Rattle.em_record.specs.Order.{is_below}
use Rattle.em_node.specs.declared.entry.Entry.{Entry}
use Rattle.em_node.specs.Node.{entries_of}
use Rattle.em_balance.proofs.Together.{below_at}
use Rattle.em_balance.proofs.sharing.is_last_below.Goals as goal

pub returns-else-count-eq0-clause-passes : goal.returns-else-count-eq0-clause-passes
returns-else-count-eq0-clause-passes c = λ h.
    let n = c.count-count.ensures in
    let f = c.if-count-eq0.false in
    c.comes_before.ensures ∙ (ap (λ (e : Entry). is_below e.low c.args.key) c.entry_at.ensures
    ∙ below_at (entries_of c.args.frame.now) c.args.key (c.count-count.result - 1) (omega arith) h)
