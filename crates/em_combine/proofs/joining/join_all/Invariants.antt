use Rattle.std.proofs.Common.{length, ◌-◌}
use Rattle.em_settle.specs.Add.{apply_of}
use Rattle.em_combine.specs.Front.{JoinsSome}
use Rattle.em_combine.proofs.joining.join_all.Given as goal

abbrev pub invariant-loop-at : goal.invariant-loop-at
invariant-loop-at g l = JoinsSome (apply_of l.initial.settle.kind) l.initial.records l.records l.kept l.at

abbrev pub decreases-loop-at : goal.decreases-loop-at
decreases-loop-at g l = length l.initial.records - l.at
