use Rattle.std.proofs.Common.{Result, arith}
use Rattle.em_space.specs.Seen.{seen}
use Rattle.aig_text.specs.declared.stop.AigStop.{AigStop}
use Rattle.aig_text.proofs.Lines.{of_error}
use Rattle.aig_edges.specs.Comparison.{AllTo}
use Rattle.aig_edges.proofs.AllCompared.{can_on, for_more, on_none, stopped_by}
use Rattle.aig_edges.proofs.comparing.compare_all.Goals as goal

pub loop-init : goal.loop-init
loop-init g c =
    let e = c.requires.total in
    record { compares = on_none c.requires.can; left = omega (arith, e) }

pub compare_next-requires : goal.compare_next-requires
compare_next-requires g c = record { can = can_on c.requires.can c.loop.invariant.compares }

pub returns-in_err-compare_next-clause-done : goal.returns-in_err-compare_next-clause-done
returns-in_err-compare_next-clause-done g c =
    of_error (λ (r : Result (Unit {0}) AigStop). AllTo c.args.count
    (seen g.D.Device.state c.args.rig.now) (seen g.D.Device.state c.compare_next.new.rig)
    c.args.lists.now c.compare_next.new.lists r) _ _ c.from_residual.ensures.1
    (stopped_by (seen g.D.Device.state c.compare_next.new.rig) c.compare_next.new.lists _
    c.requires.can c.loop.invariant.compares c.in_err-compare_next.ensures.steps)

pub loop-preserved : goal.loop-preserved
loop-preserved g c =
    for_more c.loop-test.true c.loop.invariant c.in_ok-compare_next.ensures.steps
