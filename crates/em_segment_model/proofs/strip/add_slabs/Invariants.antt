use Rattle.std.proofs.Common.{◌≡◌, ◌+◌, ◌-◌, ◌++◌, length}
use Rattle.em_segment_model.specs.Slabs.{slabs_at}
use Rattle.em_segment_model.proofs.strip.add_slabs.Given as goal

abbrev pub invariant-loop-less : goal.invariant-loop-less
invariant-loop-less l = record {
  is : l.slabs.items ++ slabs_at l.first (l.count - l.first - l.less)
      ≡ l.fn.slabs.items ++ slabs_at l.first (l.count - l.first);
  len : length l.slabs.items ≡ length l.fn.slabs.items + l.less;
}
