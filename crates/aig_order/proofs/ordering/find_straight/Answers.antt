use Rattle.std.proofs.Common.{Result, refl}
use Rattle.em_space.specs.Seen.{seen}
use Rattle.aig_text.specs.declared.stop.AigStop.{AigStop}
use Rattle.aig_text.proofs.Lines.{of_error}
use Rattle.aig_edges.specs.declared.graph.Ordered.{Ordered}
use Rattle.aig_order.specs.Straight.{OrdersStraight}
use Rattle.aig_order.proofs.ordering.find_straight.Goals as goal

pub returns-in_err-edges : goal.returns-in_err-edges
returns-in_err-edges g c = record {
  finds = of_error (λ (r : Result Ordered AigStop). OrdersStraight
      (seen g.D.Device.state c.args.rig.now) (seen g.D.Device.state c.straight_edges.new.rig)
      c.args.graph r) _ _ c.from_residual.ensures.1 c.in_err-edges.ensures.makes;
}

pub returns : goal.returns
returns g c =
    let resets = c.in_ok-edges.ensures.makes.1 in
    let passes = c.straight_passes.ensures in
    record { finds = record { makes = c.in_ok-edges.ensures.makes.0; is = rw (resets, passes) refl } }
