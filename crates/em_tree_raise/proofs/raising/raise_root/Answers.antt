use Rattle.std.proofs.Common.{arith}
use Rattle.em_tree_raise.proofs.Levels.{level_few}
use Rattle.em_tree_raise.proofs.Opened.{opened_left}
use Rattle.em_tree_raise.proofs.RaisedRoots.{raised_root, unraised_root}
use Rattle.em_tree_raise.proofs.raising.raise_root.Goals as goal

pub store_node-node-requires-clause-level : goal.store_node-node-requires-clause-level
store_node-node-requires-clause-level g c = let few = level_few c.requires.level in omega (arith, few)

pub store_node-node-requires-clause-left : goal.store_node-node-requires-clause-left
store_node-node-requires-clause-left g c =
    let o = c.taking-reader.ensures in
    opened_left o.lends o.unmoved o.opens c.args.count c.requires.can c.requires.all

pub returns-in-Ok : goal.returns-in-Ok
returns-in-Ok g c =
    let o = c.taking-reader.ensures in
    let e = c.abandon.ensures in
    let f = c.root_of.ensures in
    raised_root c.requires.can c.requires.level c.requires.all c.requires.few o.lends o.unmoved o.opens
    c.in-Ok.ensures.builds e.gives e.unmoved c.root_of.result f.block f.level

pub returns-in-Err : goal.returns-in-Err
returns-in-Err g c =
    let o = c.taking-reader.ensures in
    let e = c.abandon.ensures in
    unraised_root c.store_node-node.new.list c.args.level c.args.count o.lends o.unmoved o.opens
    c.in-Err.ensures.builds e.gives e.unmoved
