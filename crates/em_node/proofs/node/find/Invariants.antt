use Rattle.std.proofs.Common.{◌≡◌, ◌+◌, ◌-◌, drop}
use Rattle.em_node.specs.Node.{entries_of, place_of}
use Rattle.em_node.proofs.node.find.Given as goal

abbrev pub invariant-loop-at : goal.invariant-loop-at
invariant-loop-at l = place_of l.key (entries_of l.frame)
    ≡ (l.at - 1) + place_of l.key (drop (l.at - 1) (entries_of l.frame))
