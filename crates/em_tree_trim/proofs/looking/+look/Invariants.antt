use Rattle.std.proofs.Common.{◌+◌, ◌*◌, drop}
use Rattle.em_space.specs.Seen.{seen}
use Rattle.em_node.specs.Node.{entries_of}
use Rattle.em_tree_trim.specs.Finding.{LooksOn}
use Rattle.em_tree_trim.proofs.looking.+look.Given as goal

abbrev pub decreases-are_children_trim : goal.decreases-are_children_trim
decreases-are_children_trim g l = 3 * l.below + 2

abbrev pub decreases-is_child_trim : goal.decreases-is_child_trim
decreases-is_child_trim g l = 3 * l.level + 1

abbrev pub decreases-is_node_trim : goal.decreases-is_node_trim
decreases-is_node_trim g l = 3 * l.level

abbrev pub invariant-are_children_trim-loop-at : goal.invariant-are_children_trim-loop-at
invariant-are_children_trim-loop-at g l =
    LooksOn l.fn.below (seen g.D.Device.state l.fn.rig) (seen g.D.Device.state l.rig) (entries_of l.frame)
    (drop l.at (entries_of l.frame))
