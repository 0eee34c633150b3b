use Rattle.std.proofs.Common.{◌≡◌, ◌≤◌, length}
use Rattle.std.specs.Prelude.{Ok}
use Rattle.em_space.specs.Seen.{seen}
use Rattle.em_structure_tests.specs.Ready.{KeepsTree}
use Rattle.em_structure_tests.proofs.trees.step_all.Given as goal

abbrev pub invariant-loop-call : goal.invariant-loop-call
invariant-loop-call g l = record {
  area : length l.area ≡ length l.fn.area;
  kept : KeepsTree {T = Unit {0}} l.call-index (seen g.D.Device.state l.fn.rig)
      (seen g.D.Device.state l.rig) l.fn.tree.trunk l.tree.trunk (Ok tt);
  within : l.call-index ≤ length l.calls;
}
