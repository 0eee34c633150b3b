use Rattle.std.proofs.Common.{◌≡◌, ◌≤◌, []}
use Rattle.em_space.specs.Rig.{Goes}
use Rattle.em_space.specs.Seen.{seen}
use Rattle.bench_runs.specs.Numbered.{WritesBelow}
use Rattle.bench_runs.proofs.records.append_all.Given as goal

abbrev pub invariant-loop-number : goal.invariant-loop-number
invariant-loop-number g l = record {
  goes : Goes [] (seen g.D.Device.state l.fn.rig) (seen g.D.Device.state l.rig);
  writes : WritesBelow (seen g.D.Device.state l.fn.rig) (seen g.D.Device.state l.rig) l.writer
      l.number;
  count : l.writer.count ≡ l.number;
  few : l.writer.blocks ≤ l.number;
}
