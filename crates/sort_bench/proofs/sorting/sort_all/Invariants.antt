use Rattle.std.proofs.Common.{◌≡◌, ◌<◌, ◌^◌, length}
use Rattle.sort_bench.specs.Lots.{whole_sum}
use Rattle.sort_bench.proofs.sorting.sort_all.Given as goal

abbrev pub invariant-loop-lot : goal.invariant-loop-lot
invariant-loop-lot l = (length l.area ≡ length l.fn.area)
    × (whole_sum (length l.fn.area) l.lot < 2 ^ 64 → l.sum ≡ whole_sum (length l.fn.area) l.lot)
