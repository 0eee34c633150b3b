use Rattle.std.proofs.Common.{◌+◌, length-append, ap, sym, ◌∙◌, arith, subst}
use Rattle.em_node.specs.declared.entry.Entry.{Entry}
use Rattle.em_node.specs.Node.{IsLimited, entries_of}
use Rattle.em_node.proofs.Nodes.{limited_one}
use Rattle.em_balance.specs.Fusing.{lowered_to}
use Rattle.em_balance.proofs.Dealt.{dealt_high, dealt_more}
use Rattle.em_balance.proofs.sharing.share.Goals as goal

pub entry_at-requires-clause-node : goal.entry_at-requires-clause-node
entry_at-requires-clause-node c = dealt_high c.deal.ensures.deals

pub entry_at-requires-clause-at : goal.entry_at-requires-clause-at
entry_at-requires-clause-at c =
    let m = dealt_more c.deal.ensures.deals in
    let n = length-append (entries_of c.args.low.now) (entries_of c.args.high.now) in
    let s = c.requires.some in omega arith

pub set_entry-requires-clause-limited : goal.set_entry-requires-clause-limited
set_entry-requires-clause-limited c =
    let l = limited_one c.args.parent.now (c.args.at + 1) c.requires.parent_node c.requires.two in
    let P : Entry → Type 0 = IsLimited in
    subst P (sym (c.lowered.ensures ∙ ap (lowered_to c.entry_at.result.low) c.entry_at-upper.ensures))
    (record { words = l.words; count = l.count; blocks = l.blocks })
