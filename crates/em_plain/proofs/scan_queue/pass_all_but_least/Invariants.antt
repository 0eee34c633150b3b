use Rattle.std.proofs.Common.{◌≡◌, ◌+◌}
use Rattle.em_space.specs.Seen.{seen}
use Rattle.em_plain.specs.Least.{Passes}
use Rattle.em_plain.proofs.scan_queue.pass_all_but_least.Given as goal

abbrev pub invariant-loop : goal.invariant-loop
invariant-loop g l = record {
  passes : Passes (seen g.D.Device.state l.fn.rig) (seen g.D.Device.state l.rig) l.fn.reader
      l.reader l.fn.writer l.writer l.least;
  count : l.writer.count + 1 ≡ l.counter;
}
