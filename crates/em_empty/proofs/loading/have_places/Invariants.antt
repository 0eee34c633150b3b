use Rattle.std.proofs.Common.{take}
use Rattle.em_node.specs.Node.{entries_of}
use Rattle.em_empty.specs.Node.{HavePlaces}
use Rattle.em_empty.proofs.loading.have_places.Given as goal

abbrev pub invariant-loop-at : goal.invariant-loop-at
invariant-loop-at l = HavePlaces l.records (take l.at (entries_of l.fn.frame))
