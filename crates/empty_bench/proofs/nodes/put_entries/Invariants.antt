use Rattle.std.proofs.Common.{◌≡◌, ◌-◌, length}
use Rattle.em_node.specs.Node.{Is}
use Rattle.empty_bench.specs.Places.{bare_entries}
use Rattle.empty_bench.proofs.nodes.put_entries.Given as goal

abbrev pub invariant-loop-done : goal.invariant-loop-done
invariant-loop-done l = record {
  len : length l.frame ≡ length l.initial.frame;
  is : Is l.frame 1 (bare_entries l.child (64 - l.done) l.done);
}
