use Rattle.std.proofs.Common.{◌+◌, ◌-◌, ◌*◌, drop}
use Rattle.em_space.specs.Seen.{seen}
use Rattle.em_node.specs.Node.{entries_of}
use Rattle.em_tree_load.specs.Releases.{Releasing}
use Rattle.em_tree_load.proofs.releasing.+release.Given as goal

abbrev pub decreases-release_tree : goal.decreases-release_tree
decreases-release_tree g l = 2 * l.level + 1

abbrev pub decreases-release_node : goal.decreases-release_node
decreases-release_node g l = 2 * l.level

abbrev pub invariant-release_node-loop-at : goal.invariant-release_node-loop-at
invariant-release_node-loop-at g l =
    Releasing (seen g.D.Device.state l.fn.rig) (seen g.D.Device.state l.rig) (l.level - 1) l.node
    (drop l.at (entries_of l.frame))
