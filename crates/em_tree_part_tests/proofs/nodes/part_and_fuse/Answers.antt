use Rattle.std.proofs.Common.{List, length, ap, sym, subst, arith}
use Rattle.std.proofs.lemmas.List.{length-append}
use Rattle.em_node.specs.declared.entry.Entry.{Entry}
use Rattle.em_node.specs.Node.{entries_of, LowsRise}
use Rattle.em_node.proofs.Nodes.{room_in}
use Rattle.em_node.proofs.Seams.{node_is}
use Rattle.em_tree_part_tests.proofs.nodes.part_and_fuse.Goals as goal

pub fuse-requires-clause-room : goal.fuse-requires-clause-room
fuse-requires-clause-room c =
    let all = ap length c.part.ensures.parts in
    let sum = length-append (entries_of c.part.new.frame) (entries_of c.part.new.upper) in
    let r = room_in c.args.frame.now c.requires.node in
    let old = c.requires.len in
    let new = c.part.ensures.len in omega arith

pub fuse-requires-clause-order : goal.fuse-requires-clause-order
fuse-requires-clause-order c =
    let P : List Entry → Type 0 = LowsRise in subst P (sym c.part.ensures.parts) c.requires.node.is.rises

pub returns-clause-node : goal.returns-clause-node
returns-clause-node c = node_is c.fuse.new.frame _ _ c.fuse.ensures.is
