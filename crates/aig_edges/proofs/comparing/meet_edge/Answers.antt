use Rattle.std.proofs.Common.{refl, Result}
use Rattle.em_space.specs.Seen.{seen}
use Rattle.aig_text.specs.declared.stop.AigStop.{AigStop}
use Rattle.aig_text.proofs.Lines.{of_error}
use Rattle.aig_edges.specs.Comparison.{MeetsEdge}
use Rattle.aig_edges.proofs.Advances.{advances_edge, stops_edge, writes_item}
use Rattle.aig_edges.proofs.comparing.meet_edge.Goals as goal

pub returns-in_err-append-clause-meets : goal.returns-in_err-append-clause-meets
returns-in_err-append-clause-meets g c =
    let o = c.in_err-append.ensures in
    of_error (λ (r : Result (Unit {0}) AigStop). MeetsEdge (seen g.D.Device.state c.args.rig.now)
    (seen g.D.Device.state c.append.new.rig) c.args.lists.now (record { weave = c.args.lists.now.weave; sources = c.args.lists.now.sources; edges = c.append.new.self; last = c.args.lists.now.last }) c.args.edge r) _ _
    c.from_residual.ensures.1 (stops_edge c.requires.are o.goes o.spends o.cause)

pub returns-clause-meets : goal.returns-clause-meets
returns-clause-meets g c =
    let o = c.in_ok-append.ensures in
    record {
      advances = advances_edge c.requires.are
          (writes_item c.in_ok-append.field-0 o.goes o.appends o.costs o.spends);
      met = cc;
      weave_is = refl;
      last_is = refl;
    }
