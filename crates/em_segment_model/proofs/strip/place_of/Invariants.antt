use Rattle.std.proofs.Common.{◌≡◌, ◌≤◌, ◌*◌}
use Rattle.em_segment_model.proofs.Places.{skipped}
use Rattle.em_segment_model.proofs.strip.place_of.Given as goal

abbrev pub invariant-loop-k : goal.invariant-loop-k
invariant-loop-k l = record {
  is : l.place ≡ skipped l.count l.k;
  most : l.place ≤ 16 * l.k;
}
