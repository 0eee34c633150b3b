use Rattle.std.proofs.Common.{◌≡◌, ◌≤◌, length}
use Rattle.std.specs.Prelude.{Ok}
use Rattle.em_space.specs.Seen.{seen}
use Rattle.em_structure_tests.specs.Ready.{KeepsBatch}
use Rattle.em_structure_tests.proofs.batches.step_all.Given as goal

abbrev pub invariant-loop-call : goal.invariant-loop-call
invariant-loop-call g l = record {
  kept : KeepsBatch {T = Unit {0}} l.call-index (seen g.D.Device.state l.fn.rig)
      (seen g.D.Device.state l.rig) l.fn.batch l.batch (Ok tt);
  rule : l.batch.tree.settle ≡ l.fn.batch.tree.settle;
  within : l.call-index ≤ length l.calls;
}
