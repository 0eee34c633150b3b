use Rattle.std.proofs.Common.{arith}
use Rattle.em_tree_raise.proofs.BuiltNodes.{builds_framed, reader_frame_lent}
use Rattle.em_tree_raise.proofs.filling.store_node.Goals as goal

pub build_node-built-requires-clause-is : goal.build_node-built-requires-clause-is
build_node-built-requires-clause-is g c =
    reader_frame_lent c.requires.sound (omega (arith, c.requires.free)) c.lend-frame.ensures.lent c.requires.is

pub returns-clause-builds : goal.returns-clause-builds
returns-clause-builds g c =
    builds_framed _ c.build_node-built.new.list c.args.level c.args.count c.requires.sound
    (omega (arith, c.requires.free)) c.requires.is c.build_node-built.result c.lend-frame.ensures.lent
    c.build_node-built.ensures.builds c.give.ensures.given
