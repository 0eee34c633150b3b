use Rattle.std.proofs.Common.{◌≡◌, ◌+◌, ◌<◌, ◌^◌, drop}
use Rattle.em_node.specs.Node.{entries_of}
use Rattle.empty_bench.specs.Places.{weight_from}
use Rattle.empty_bench.proofs.nodes.weight.Given as goal

abbrev pub invariant-loop-at : goal.invariant-loop-at
invariant-loop-at l = weight_from 1 (entries_of l.frame) < 2 ^ 64
    → weight_from 1 (entries_of l.frame)
    ≡ l.sum + weight_from (l.at + 1) (drop l.at (entries_of l.frame))
