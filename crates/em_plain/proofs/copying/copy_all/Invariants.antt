use Rattle.std.proofs.Common.{◌≡◌}
use Rattle.em_space.specs.Seen.{seen}
use Rattle.em_plain.specs.Anew.{Copies}
use Rattle.em_plain.proofs.copying.copy_all.Given as goal

abbrev pub invariant-loop : goal.invariant-loop
invariant-loop g l = record {
  copies : Copies (seen g.D.Device.state l.fn.rig) (seen g.D.Device.state l.rig) l.fn.reader
      l.reader l.fn.writer l.writer;
  count : l.writer.count ≡ l.counter;
}
