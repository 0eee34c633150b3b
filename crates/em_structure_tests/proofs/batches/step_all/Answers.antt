use Rattle.std.proofs.Common.{◌+◌, ◌∙◌, arith, length, refl}
use Rattle.std.specs.Prelude.{Err}
use Rattle.em_space.specs.Seen.{seen}
use Rattle.em_structure_tests.proofs.BatchKeeps.{batch_more, batch_next, batch_none, batch_on, batch_then}
use Rattle.em_structure_tests.proofs.batches.step_all.Goals as goal

pub loop-call-init : goal.loop-call-init
loop-call-init g c = record {
  kept = batch_none 0 (length c.args.calls.now) (seen g.D.Device.state c.args.rig.now) _ tt c.requires.ready;
  rule = refl;
  within = omega arith;
}

pub step-requires-clause-ready : goal.step-requires-clause-ready
step-requires-clause-ready g c =
    let less = c.loop-call-test.true in
    batch_next (c.loop-call.call-index) 1 (length c.args.calls.now) (seen g.D.Device.state c.args.rig.now)
    (seen g.D.Device.state c.loop-call.rig) _ _ tt (omega (arith, less)) c.requires.ready
    c.loop-call.invariant.kept

pub returns-in_err-step-clause-kept : goal.returns-in_err-step-clause-kept
returns-in_err-step-clause-kept g c =
    let less = c.loop-call-test.true in
    let n = length c.args.calls.now in
    batch_on n n _ _ _ _ c.in_err-step.field-0.0 c.from_residual.result c.from_residual.ensures.1
    (batch_then (c.loop-call.call-index) 1 n (seen g.D.Device.state c.args.rig.now)
    (seen g.D.Device.state c.loop-call.rig) (seen g.D.Device.state c.step.new.rig) _ _ _ tt
    (Err c.in_err-step.field-0.0) (omega (arith, less)) c.loop-call.invariant.kept
    c.in_err-step.ensures.kept)

pub loop-call-preserved : goal.loop-call-preserved
loop-call-preserved g c =
    let less = c.loop-call-test.true in
    let i = c.loop-call.call-index in
    let n = (i + 1) in
    record {
      kept = batch_more n n _ _ _ _ _ tt (omega arith)
          (batch_then (i) 1 n (seen g.D.Device.state c.args.rig.now)
          (seen g.D.Device.state c.loop-call.rig) (seen g.D.Device.state c.step.new.rig) _ _ _ tt _
          (omega arith) c.loop-call.invariant.kept c.in_ok-step.ensures.kept);
      rule = c.in_ok-step.ensures.rule ∙ c.loop-call.invariant.rule;
      within = omega (arith, less);
    }

pub returns-clause-kept : goal.returns-clause-kept
returns-clause-kept g c =
    let within = c.loop-call.invariant.within in
    batch_more (c.loop-call.call-index) (length c.args.calls.now) _ _ _ _ _ _ (omega (arith, within))
    c.loop-call.invariant.kept
