use Rattle.std.proofs.Common.{List, ap, sym, ◌∙◌, arith, subst}
use Rattle.em_node.specs.declared.entry.Entry.{Entry}
use Rattle.em_node.specs.Node.{IsLimited, LowsRise, entries_of}
use Rattle.em_node.proofs.Nodes.{limited_one}
use Rattle.em_balance.specs.Fusing.{lowered_to}
use Rattle.em_balance.proofs.Together.{from_rises, from_set}
use Rattle.em_balance.proofs.sharing.begin_from.Goals as goal

pub set_entry-requires-clause-limited : goal.set_entry-requires-clause-limited
set_entry-requires-clause-limited c =
    let n = c.count.ensures in
    let o = c.if-count-gt0.true in
    let l = limited_one c.args.frame.now 0 c.requires.node (omega arith) in
    let P : Entry → Type 0 = IsLimited in
    subst P (sym (c.lowered.ensures ∙ ap (lowered_to c.args.key) c.entry_at-first.ensures))
    (record { words = l.words; count = l.count; blocks = l.blocks })

pub set_entry-requires-clause-order : goal.set_entry-requires-clause-order
set_entry-requires-clause-order c =
    let ys = entries_of c.args.frame.now in
    let n = c.count.ensures in
    let o = c.if-count-gt0.true in
    let P : List Entry → Type 0 = LowsRise in
    subst P (sym (from_set ys c.args.key c.lowered.result (omega arith)
    (c.lowered.ensures ∙ ap (lowered_to c.args.key) c.entry_at-first.ensures)))
    (from_rises ys c.args.key c.requires.above c.requires.node.is.rises)
