use Rattle.std.proofs.Common.{◌≡◌, ◌≤◌, length}
use Rattle.em_space.specs.Seen.{seen}
use Rattle.aig_order.specs.Rewrites.{RewritesOn}
use Rattle.aig_order.proofs.rewriting.rewrite_all.Given as goal

abbrev pub invariant-loop : goal.invariant-loop
invariant-loop g l = record {
  most : l.counter ≤ l.count;
  long : length l.row ≡ length l.fn.row;
  rewrites : RewritesOn l.last l.counter (seen g.D.Device.state l.fn.rig)
      (seen g.D.Device.state l.rig) l.fn.reader l.reader l.fn.writer l.writer l.fn.standing
      l.standing l.fn.row l.row;
}
