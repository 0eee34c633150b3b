use Rattle.std.proofs.Common.{◌≡◌, ◌++◌, drop}
use Rattle.sort_bench.specs.Lots.{numbered_from}
use Rattle.sort_bench.proofs.sorting.fill.Given as goal

abbrev pub invariant-loop-place : goal.invariant-loop-place
invariant-loop-place l = l.area ≡ numbered_from l.first l.place ++ drop l.place l.fn.area
