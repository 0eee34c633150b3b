use Rattle.em_node.specs.Node.{entries_of}
use Rattle.em_empty.specs.FirstFull.{AreThin}
use Rattle.em_empty.proofs.answer.first_full.Given as goal

abbrev pub invariant-loop-at : goal.invariant-loop-at
invariant-loop-at l = AreThin l.limit (entries_of l.fn.frame) l.at
