use Rattle.std.proofs.Common.{◌*◌, ◌^◌, arith, length}
use Rattle.em_structure_tests.proofs.Kept.{ready_next}
use Rattle.em_structure_tests.proofs.QueueKeeps.{ended_keeps, new_ready}
use Rattle.em_structure_tests.proofs.queues.serve.Goals as goal

pub step_all-requires : goal.step_all-requires
step_all-requires g c =
    let few = c.is_long.ensures c.if-is_long.false in
    new_ready (2 ^ 20 * length c.args.calls.now) _ _ _ (omega (arith, few)) c.requires
    c.in_ok-queue.ensures.makes

pub end-requires-clause-free : goal.end-requires-clause-free
end-requires-clause-free g c =
    let few = c.is_long.ensures c.if-is_long.false in
    let n = 2 ^ 20 * length c.args.calls.now in
    (ready_next n 0 n _ _ _ _ _ _ _ _ (omega arith) (new_ready n _ _ _ (omega (arith, few))
    c.requires c.in_ok-queue.ensures.makes) c.in-Ok.ensures).serves

pub returns-in-Ok : goal.returns-in-Ok
returns-in-Ok g c =
    ended_keeps (2 ^ 20 * length c.args.calls.now) _ _ _ _ _ _ _ c.in_ok-queue.ensures.makes
    c.in-Ok.ensures c.end.ensures.ends.frames c.end.ensures.ends.sound

pub returns-in-Err : goal.returns-in-Err
returns-in-Err g c =
    ended_keeps (2 ^ 20 * length c.args.calls.now) _ _ _ _ _ _ _ c.in_ok-queue.ensures.makes
    c.in-Err.ensures c.abandon.ensures.leaves.frames c.abandon.ensures.leaves.sound
