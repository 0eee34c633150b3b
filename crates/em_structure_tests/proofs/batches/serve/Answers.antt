use Rattle.std.proofs.Common.{arith, length}
use Rattle.em_space.specs.Seen.{seen}
use Rattle.em_structure_tests.proofs.BatchKeeps.{abandoned_keeps, batch_next, finished_keeps, new_ready}
use Rattle.em_structure_tests.proofs.Frames.{kept_goes, some_free}
use Rattle.em_structure_tests.proofs.batches.serve.Goals as goal

pub step_all-requires-clause-ready : goal.step_all-requires-clause-ready
step_all-requires-clause-ready g c =
    let few = c.is_long.ensures c.if-is_long.false in
    new_ready (length c.args.calls.now) _ _ _ (omega (arith, few)) c.requires
    c.in_ok-batch.ensures.makes

pub finish-requires-clause-free : goal.finish-requires-clause-free
finish-requires-clause-free g c =
    let few = c.is_long.ensures c.if-is_long.false in
    let n = length c.args.calls.now in
    (batch_next n 0 n _ _ _ _ _ (omega arith) (new_ready n _ _ _ (omega (arith, few))
    c.requires c.in_ok-batch.ensures.makes) c.in-Ok.ensures.kept).ready.serves

pub returns-in_err-chain-in-Ok : goal.returns-in_err-chain-in-Ok
returns-in_err-chain-in-Ok g c =
    finished_keeps (length c.args.calls.now) _ _ _ (seen g.D.Device.state c.finish.new.rig) _ _ _
    c.finish.result c.in_ok-batch.ensures.makes c.in-Ok.ensures.kept c.finish.ensures.finishes

pub read_all-requires-clause-free : goal.read_all-requires-clause-free
read_all-requires-clause-free g c =
    let k = finished_keeps (length c.args.calls.now) (seen g.D.Device.state c.args.rig.now) _ _
    (seen g.D.Device.state c.finish.new.rig) _ _ _ c.finish.result c.in_ok-batch.ensures.makes
    c.in-Ok.ensures.kept c.finish.ensures.finishes in
    some_free _ (seen g.D.Device.state c.finish.new.rig) c.requires.frames k.frames

pub returns-in_ok-chain-in-Ok : goal.returns-in_ok-chain-in-Ok
returns-in_ok-chain-in-Ok g c =
    let k = finished_keeps (length c.args.calls.now) (seen g.D.Device.state c.args.rig.now) _ _
    (seen g.D.Device.state c.finish.new.rig) _ _ _ c.finish.result c.in_ok-batch.ensures.makes
    c.in-Ok.ensures.kept c.finish.ensures.finishes in
    kept_goes _ _ _ _ k c.read_all.ensures.goes

pub returns-in-Err : goal.returns-in-Err
returns-in-Err g c =
    abandoned_keeps (length c.args.calls.now) _ _ _ _ _ _ _ c.in_ok-batch.ensures.makes
    c.in-Err.ensures.kept c.abandon.ensures.leaves
