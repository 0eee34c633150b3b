-- Rows worked by hand. The first words of the records 0 to 4 are 0, 0.618, 0.236, 0.854 and 0.472 times 2^64.
use Rattle.std.proofs.Common.{◌≡◌, ◌+◌, ◌*◌, refl}
use Rattle.sort_bench.specs.Lots.{lots_sum, sorted_sum}

-- in order 0, 2, 4, 1, 3
five : sorted_sum 0 5 ≡ 1 * 1 + 2 * 3 + 3 * 5 + 4 * 2 + 5 * 4
five = refl

-- lots of two: 0, 1, then 2, 3, then 4
two_at_a_time : lots_sum 2 5 ≡ (1 * 1 + 2 * 2) + (1 * 3 + 2 * 4) + 1 * 5
two_at_a_time = refl
