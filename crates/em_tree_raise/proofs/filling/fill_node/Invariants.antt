use Rattle.std.proofs.Common.{◌≡◌, length}
use Rattle.em_space.specs.Seen.{seen}
use Rattle.em_tree_raise.specs.Subtrees.{FilledNode}
use Rattle.em_tree_raise.proofs.filling.fill_node.Given as goal

abbrev pub invariant-loop-at : goal.invariant-loop-at
invariant-loop-at g l =
    FilledNode (seen g.D.Device.state l.fn.rig) (seen g.D.Device.state l.rig) l.fn.list l.list l.level
    l.at l.frame × (length l.frame ≡ length l.fn.frame)
