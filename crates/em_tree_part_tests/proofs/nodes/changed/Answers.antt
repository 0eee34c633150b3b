use Rattle.std.proofs.Common.{List, length, set, ap, sym, subst, arith}
use Rattle.std.proofs.lemmas.List.{length-set}
use Rattle.em_node.specs.declared.entry.Entry.{Entry}
use Rattle.em_node.specs.Node.{IsLimited, LowsRise, entries_of}
use Rattle.em_node.proofs.Nodes.{limited_one}
use Rattle.em_node.proofs.Orders.{rises_same}
use Rattle.em_node.proofs.Seams.{entries_is, node_is}
use Rattle.em_tree_part_tests.proofs.nodes.changed.Goals as goal

-- an entry with another child
abbrev linked : Entry → Entry
linked e = record { low = e.low; child = 12; buffer = e.buffer }

pub entry_at-old-requires-clause-node : goal.entry_at-old-requires-clause-node
entry_at-old-requires-clause-node c = node_is c.put_back-entry.new.frame _ _ c.put_back-entry.ensures.is

pub entry_at-old-requires-clause-at : goal.entry_at-old-requires-clause-at
entry_at-old-requires-clause-at c =
    let e = ap length (entries_is c.put_back-entry.new.frame _ _ c.put_back-entry.ensures.is) in
    let h = c.requires.at in omega arith

pub set_entry-requires-clause-node : goal.set_entry-requires-clause-node
set_entry-requires-clause-node c = node_is c.put_back-entry.new.frame _ _ c.put_back-entry.ensures.is

pub set_entry-requires-clause-at : goal.set_entry-requires-clause-at
set_entry-requires-clause-at c =
    let e = ap length (entries_is c.put_back-entry.new.frame _ _ c.put_back-entry.ensures.is) in
    let h = c.requires.at in omega arith

pub set_entry-requires-clause-limited : goal.set_entry-requires-clause-limited
set_entry-requires-clause-limited c =
    let P : Entry → Type 0 = IsLimited in
    let l = subst P (sym c.put_back-entry.ensures.entry)
    (limited_one c.args.frame.now c.args.at c.requires.node c.requires.at) in
    record { words = l.words; count = l.count; blocks = l.blocks }

pub set_entry-requires-clause-order : goal.set_entry-requires-clause-order
set_entry-requires-clause-order c =
    let at = c.args.at in
    let new : Entry = linked c.put_back-entry.result in
    let P : List Entry → Type 0 = λ xs. LowsRise (set xs at new) in
    subst P (sym (entries_is c.put_back-entry.new.frame _ _ c.put_back-entry.ensures.is))
    (rises_same (entries_of c.args.frame.now) at new c.requires.at
    (ap (λ e. e.low) c.put_back-entry.ensures.entry) c.requires.node.is.rises)

pub entry_at-new-requires-clause-node : goal.entry_at-new-requires-clause-node
entry_at-new-requires-clause-node c = node_is c.set_entry.new.frame _ _ c.set_entry.ensures.is

pub entry_at-new-requires-clause-at : goal.entry_at-new-requires-clause-at
entry_at-new-requires-clause-at c =
    let e = ap length (entries_is c.put_back-entry.new.frame _ _ c.put_back-entry.ensures.is) in
    let f = ap length (entries_is c.set_entry.new.frame _ _ c.set_entry.ensures.is) in
    let l = length-set (entries_of c.put_back-entry.new.frame) c.args.at (linked c.put_back-entry.result) in
    let h = c.requires.at in omega arith

pub returns-clause-node : goal.returns-clause-node
returns-clause-node c = node_is c.set_entry.new.frame _ _ c.set_entry.ensures.is

pub returns-clause-count : goal.returns-clause-count
returns-clause-count c =
    let e = ap length (entries_is c.put_back-entry.new.frame _ _ c.put_back-entry.ensures.is) in
    let f = ap length (entries_is c.set_entry.new.frame _ _ c.set_entry.ensures.is) in
    let l = length-set (entries_of c.put_back-entry.new.frame) c.args.at (linked c.put_back-entry.result) in
    omega arith
