use Rattle.std.proofs.Common.{◌≡◌, ℕ, ◌∙◌, ap, subst, Result}
use Rattle.em_record.specs.Shape.{fan_of}
use Rattle.em_space.specs.Seen.{seen}
use Rattle.em_space.specs.declared.fault.EmFault.{EmFault}
use Rattle.em_tree_raise.specs.Nodes.{NodeSize, RaisesNodes}
use Rattle.em_tree_raise.proofs.Listings.{of_error}
use Rattle.em_tree_raise.proofs.RaisedNodes.{fan_low, raising_begins, raising_blocks, raising_count, raising_left, raising_many, raising_next, raising_pair, raising_stops}
use Rattle.em_tree_raise.proofs.raising.raise_nodes.Goals as goal

pub loop-left-init : goal.loop-left-init
loop-left-init g c =
    raising_begins c.args.level c.args.count c.requires.sound c.requires.pair c.requires.many

pub list_node-requires-clause-pair : goal.list_node-requires-clause-pair
list_node-requires-clause-pair g c = raising_pair c.requires.pair.taking c.loop-left.invariant

pub list_node-requires-clause-left : goal.list_node-requires-clause-left
list_node-requires-clause-left g c =
    raising_left c.node_size-next.result c.node_size-next.ensures.within c.loop-left.invariant c.requires.left

pub list_node-requires-clause-count : goal.list_node-requires-clause-count
list_node-requires-clause-count g c =
    let i = c.loop-left.invariant in
    raising_count i (raising_many c.requires.sound i c.loop-left-test.true) c.requires.count

pub list_node-requires-clause-blocks : goal.list_node-requires-clause-blocks
list_node-requires-clause-blocks g c =
    let i = c.loop-left.invariant in
    raising_blocks i (raising_many c.requires.sound i c.loop-left-test.true) c.requires.blocks

pub returns-in_err-list_node-clause-raises : goal.returns-in_err-list_node-clause-raises
returns-in_err-list_node-clause-raises g c =
    let s = seen g.D.Device.state c.args.rig.now in
    let t = seen g.D.Device.state c.list_node.new.rig in
    let i = c.loop-left.invariant in
    let P : Result (Unit {0}) EmFault → Type 0 =
    λ x. RaisesNodes s t c.args.list.now c.list_node.new.list c.args.upper.now c.list_node.new.upper
    c.args.level c.args.count x in
    of_error P c.from_residual.result _ c.from_residual.ensures.1
    (raising_stops i (raising_many c.requires.sound i c.loop-left-test.true) c.in_err-list_node.ensures.lists)

pub loop-left-preserved : goal.loop-left-preserved
loop-left-preserved g c =
    let s = seen g.D.Device.state c.args.rig.now in
    let fan : c.fan-fan.result ≡ fan_of s.pool.shape = c.fan-fan.ensures.value ∙ ap fan_of c.shape.ensures in
    let P : ℕ → Type 0 = λ f. NodeSize f c.loop-left.left c.node_size-next.result in
    raising_next c.node_size-next.result c.loop-left.invariant c.in_ok-list_node.ensures.lists
    (subst P fan c.node_size-next.ensures) (fan_low s.pool.shape c.requires.sound.shape)
