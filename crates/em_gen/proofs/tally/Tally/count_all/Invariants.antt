use Rattle.std.proofs.Common.{◌≡◌, [], take}
use Rattle.em_gen.specs.Tally.{tallied}
use Rattle.em_gen.proofs.tally.Tally.count_all.Given as goal

abbrev pub invariant-loop-at : goal.invariant-loop-at
invariant-loop-at l = tallied l.self [] ≡ tallied l.initial.self (take l.at l.fn.bytes)
