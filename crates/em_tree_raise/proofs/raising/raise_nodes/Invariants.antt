use Rattle.em_space.specs.Seen.{seen}
use Rattle.em_tree_raise.specs.Nodes.{RaisingNodes}
use Rattle.em_tree_raise.proofs.raising.raise_nodes.Given as goal

abbrev pub invariant-loop-left : goal.invariant-loop-left
invariant-loop-left g l =
    RaisingNodes (seen g.D.Device.state l.fn.rig) (seen g.D.Device.state l.rig) l.fn.list l.list
    l.fn.upper l.upper l.level l.count l.left

abbrev pub decreases-loop-left : goal.decreases-loop-left
decreases-loop-left g l = l.left
