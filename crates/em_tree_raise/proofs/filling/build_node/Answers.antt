use Rattle.std.proofs.Common.{subst, sym, Result}
use Rattle.em_space.specs.Seen.{seen}
use Rattle.em_space.specs.declared.fault.EmFault.{EmFault}
use Rattle.em_node.specs.declared.entry.Entry.{Entry}
use Rattle.em_tree_raise.specs.Nodes.{BuildsNode, BuiltNode}
use Rattle.em_tree_raise.proofs.BuiltNodes.{built_node, unstored_node}
use Rattle.em_tree_raise.proofs.Listings.{of_error}
use Rattle.em_tree_raise.proofs.filling.build_node.Goals as goal

pub returns-in_err-block-clause-builds : goal.returns-in_err-block-clause-builds
returns-in_err-block-clause-builds g c =
    let s = seen g.D.Device.state c.args.rig.now in
    let t = seen g.D.Device.state c.store_new.new.rig in
    let P : Result Entry EmFault → Type 0 =
    λ x. BuildsNode s t c.args.list.now c.fill_node.new.list c.args.level c.args.count x in
    of_error P c.from_residual-in_err-block.result _ c.from_residual-in_err-block.ensures.1
    (unstored_node c.requires.is c.in_ok-fill_node.ensures.fills c.in_err-block.ensures)

pub returns-clause-builds : goal.returns-clause-builds
returns-clause-builds g c =
    let s = seen g.D.Device.state c.args.rig.now in
    let t = seen g.D.Device.state c.store_new.new.rig in
    let P : Entry → Type 0 = λ e. BuiltNode s t c.args.list.now c.fill_node.new.list c.args.level c.args.count e in
    subst P (sym c.entry_over.ensures)
    (built_node c.requires.is c.in_ok-fill_node.ensures.fills c.requires.few c.in_ok-block.ensures)
