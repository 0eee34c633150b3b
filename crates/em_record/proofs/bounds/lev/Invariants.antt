use Rattle.std.proofs.Common.{◌≡◌, ◌+◌, ◌≤◌}
use Rattle.em_record.specs.Cost.{lev}
use Rattle.em_record.proofs.bounds.lev.Given as goal

abbrev pub invariant-loop-left : goal.invariant-loop-left
invariant-loop-left l = record {
  few : l.levels + l.left ≤ l.fn.x;
  value : lev l.shape l.fn.x ≡ l.levels + lev l.shape l.left;
}

abbrev pub decreases-loop-left : goal.decreases-loop-left
decreases-loop-left l = l.left
