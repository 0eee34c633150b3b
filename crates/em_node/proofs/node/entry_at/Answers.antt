use Rattle.std.proofs.Common.{◌∙◌, arith}
use Rattle.em_node.specs.Node.{entries_of, level_of}
use Rattle.em_node.proofs.Nodes.{room_in, entry_read}
use Rattle.em_node.proofs.node.entry_at.Goals as goal

pub read_entry-requires : goal.read_entry-requires
read_entry-requires c = let r = room_in c.args.frame.now c.requires.node in let h = c.requires.at in omega arith

pub returns : goal.returns
returns c = c.read_entry.ensures
    ∙ entry_read c.args.frame.now (level_of c.args.frame.now) (entries_of c.args.frame.now) c.args.at
    c.requires.node.is c.requires.at
