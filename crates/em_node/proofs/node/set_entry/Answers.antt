use Rattle.std.proofs.Common.{sym, arith, subst, List}
use Rattle.std.specs.Prelude.{set}
use Rattle.em_record.specs.declared.record.Record.{Record}
use Rattle.em_node.specs.Node.{Is, entries_of, level_of}
use Rattle.em_node.proofs.Nodes.{room_in, set_is}
use Rattle.em_node.proofs.node.set_entry.Goals as goal

pub put_entry-requires : goal.put_entry-requires
put_entry-requires c = let r = room_in c.args.frame.now c.requires.node in let h = c.requires.at in omega arith

pub returns-clause-is : goal.returns-clause-is
returns-clause-is c =
    let b = c.args.frame.now in
    let P : List Record → Type 0 = λ rs. Is rs (level_of b) (set (entries_of b) c.args.at c.args.entry) in
    subst P (sym c.put_entry.ensures) (set_is b (level_of b) (entries_of b) c.args.at c.args.entry
    c.requires.node.is c.requires.at c.requires.limited c.requires.order)
