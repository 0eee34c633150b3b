use Rattle.std.proofs.Common.{◌≡◌, ◌+◌, ◌<◌, ◌^◌, drop, take}
use Rattle.sort_bench.specs.Lots.{place_sum}
use Rattle.sort_bench.proofs.sorting.weigh.Given as goal

abbrev pub invariant-loop-place : goal.invariant-loop-place
invariant-loop-place l = place_sum 1 (take l.count l.area) < 2 ^ 64
    → place_sum 1 (take l.count l.area)
    ≡ l.sum + place_sum (l.place + 1) (drop l.place (take l.count l.area))
