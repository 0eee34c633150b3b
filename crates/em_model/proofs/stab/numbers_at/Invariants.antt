use Rattle.std.proofs.Common.{◌≡◌, ◌++◌, drop}
use Rattle.em_model.specs.Stab.{holders_of}
use Rattle.em_model.proofs.stab.numbers_at.Given as goal

abbrev pub invariant-loop-interval : goal.invariant-loop-interval
invariant-loop-interval l =
    holders_of l.point l.intervals
    ≡ l.numbers.items ++ holders_of l.point (drop l.interval-index l.intervals)
