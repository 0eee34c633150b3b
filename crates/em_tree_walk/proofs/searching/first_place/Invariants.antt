use Rattle.em_node.specs.Node.{entries_of}
use Rattle.em_tree_walk.specs.Searches.{AreThinFrom}
use Rattle.em_tree_walk.proofs.searching.first_place.Given as goal

abbrev pub invariant-loop-at : goal.invariant-loop-at
invariant-loop-at l = AreThinFrom l.limit (entries_of l.fn.frame) l.first l.at
