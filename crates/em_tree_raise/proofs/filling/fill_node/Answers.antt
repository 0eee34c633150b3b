use Rattle.std.proofs.Common.{◌∙◌, Result}
use Rattle.em_space.specs.Seen.{seen}
use Rattle.em_space.specs.declared.fault.EmFault.{EmFault}
use Rattle.em_tree_raise.specs.Subtrees.{FillsNode}
use Rattle.em_tree_raise.proofs.FilledNodes.{filled_left, filled_next, filled_none, filled_stops}
use Rattle.em_tree_raise.proofs.Listings.{of_error}
use Rattle.em_tree_raise.proofs.filling.fill_node.Goals as goal

pub loop-at-init : goal.loop-at-init
loop-at-init g c =
    (filled_none c.requires.sound c.requires.is c.requires.taking c.fresh.ensures.is, c.fresh.ensures.len)

pub add_subtree-requires-clause-left : goal.add_subtree-requires-clause-left
add_subtree-requires-clause-left g c =
    filled_left c.loop-at.at c.args.count c.loop-at-test.true c.loop-at.invariant.0 c.requires.left

pub returns-in_err-add_subtree-clause-fills : goal.returns-in_err-add_subtree-clause-fills
returns-in_err-add_subtree-clause-fills g c =
    let s = seen g.D.Device.state c.args.rig.now in
    let t = seen g.D.Device.state c.add_subtree.new.rig in
    let P : Result (Unit {0}) EmFault → Type 0 =
    λ x. FillsNode s t c.args.list.now c.add_subtree.new.list c.args.level c.args.count
    c.add_subtree.new.frame x in
    of_error P c.from_residual.result _ c.from_residual.ensures.1
    (filled_stops c.loop-at.invariant.0 c.in_err-add_subtree.ensures.adds)

pub loop-at-preserved : goal.loop-at-preserved
loop-at-preserved g c =
    let e = c.in_ok-add_subtree.ensures in
    let i = c.loop-at.invariant in (filled_next c.loop-at.at i.0 e.adds, e.len ∙ i.1)
