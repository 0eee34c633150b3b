use Rattle.std.proofs.Common.{◌≤◌}
use Rattle.em_space.specs.Seen.{seen}
use Rattle.aig_edges.specs.Copies.{CopiesOn}
use Rattle.aig_edges.proofs.copying.copy_all.Given as goal

abbrev pub invariant-loop-number : goal.invariant-loop-number
invariant-loop-number g l = record {
  most : l.number ≤ l.count;
  copies : CopiesOn l.kind 0 l.number (seen g.D.Device.state l.fn.rig)
      (seen g.D.Device.state l.rig) l.fn.reader l.reader l.fn.writer l.writer;
}
