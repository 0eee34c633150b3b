use Rattle.std.proofs.Common.{◌≡◌, ◌≤◌, ◌+◌, ◌-◌, ◌*◌, ◌++◌, length}
use Rattle.em_segment_model.specs.Slabs.{slabs_from}
use Rattle.em_segment_model.proofs.strip.slabs_of.Given as goal

abbrev pub invariant-loop-first : goal.invariant-loop-first
invariant-loop-first l = record {
  is : l.slabs.items ++ slabs_from l.first (l.count - l.first) ≡ slabs_from 0 l.count;
  room : 2 * length l.slabs.items + (l.count - l.first) * (l.count - l.first + 1)
      ≡ l.count * (l.count + 1);
}
