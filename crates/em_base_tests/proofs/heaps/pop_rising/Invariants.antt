use Rattle.std.proofs.Common.{◌≡◌}
use Rattle.em_base_tests.proofs.heaps.pop_rising.Given as goal

abbrev pub invariant-loop-number : goal.invariant-loop-number
invariant-loop-number l = l.heap.capacity ≡ l.initial.heap.capacity
