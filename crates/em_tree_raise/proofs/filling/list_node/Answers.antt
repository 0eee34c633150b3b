use Rattle.std.proofs.Common.{Result}
use Rattle.em_space.specs.Seen.{seen}
use Rattle.em_space.specs.declared.fault.EmFault.{EmFault}
use Rattle.em_tree_raise.specs.Nodes.{ListsNode}
use Rattle.em_tree_raise.proofs.Listings.{of_error}
use Rattle.em_tree_raise.proofs.ListedNodes.{built_writer, lists_node, unbuilt_node}
use Rattle.em_tree_raise.proofs.filling.list_node.Goals as goal

pub returns-in_err-node-clause-lists : goal.returns-in_err-node-clause-lists
returns-in_err-node-clause-lists g c =
    let s = seen g.D.Device.state c.args.rig.now in
    let u = seen g.D.Device.state c.store_node.new.rig in
    let w = c.args.upper.now in
    let P : Result (Unit {0}) EmFault → Type 0 =
    λ x. ListsNode s u c.args.list.now c.store_node.new.list w w c.args.level c.args.count x in
    of_error P c.from_residual.result _ c.from_residual.ensures.1
    (unbuilt_node c.requires.sound c.requires.pair c.in_err-node.ensures.builds)

pub list_subtree-requires-clause-is : goal.list_subtree-requires-clause-is
list_subtree-requires-clause-is g c =
    (built_writer c.requires.sound c.requires.pair c.in_ok-node.ensures.builds).is

pub returns-clause-lists : goal.returns-clause-lists
returns-clause-lists g c =
    lists_node c.requires.sound c.requires.pair c.in_ok-node.ensures.builds _ c.list_subtree.new.list
    c.list_subtree.result c.requires.many c.requires.few c.list_subtree.ensures.lists
    c.list_subtree.ensures.costs
