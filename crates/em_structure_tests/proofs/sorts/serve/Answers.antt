use Rattle.std.proofs.Common.{◌*◌, arith, length}
use Rattle.em_structure_tests.proofs.Kept.{ready_next}
use Rattle.em_structure_tests.proofs.QueueKeeps.{ended_keeps, new_ready}
use Rattle.em_structure_tests.proofs.SortKeeps.{new_free}
use Rattle.em_structure_tests.proofs.sorts.serve.Goals as goal

pub sort_all-requires-clause-ready : goal.sort_all-requires-clause-ready
sort_all-requires-clause-ready g c =
    let few = c.is_long.ensures c.if-is_long.false in
    new_ready (2 * length c.args.calls.now) _ _ _ (omega (arith, few)) c.requires
    c.in_ok-queue.ensures.makes

pub sort_all-requires-clause-empty : goal.sort_all-requires-clause-empty
sort_all-requires-clause-empty g c = c.in_ok-queue.ensures.makes.new.len

pub sort_all-requires-clause-few : goal.sort_all-requires-clause-few
sort_all-requires-clause-few g c = c.is_long.ensures c.if-is_long.false

pub sort_all-requires-clause-free : goal.sort_all-requires-clause-free
sort_all-requires-clause-free g c = new_free c.requires c.in_ok-queue.ensures.makes

pub end-requires-clause-free : goal.end-requires-clause-free
end-requires-clause-free g c =
    let few = c.is_long.ensures c.if-is_long.false in
    let n = 2 * length c.args.calls.now in
    (ready_next n 0 n _ _ _ _ _ _ _ _ (omega arith) (new_ready n _ _ _ (omega (arith, few))
    c.requires c.in_ok-queue.ensures.makes) c.in-Ok.ensures.kept).serves

pub returns-in-Ok : goal.returns-in-Ok
returns-in-Ok g c =
    ended_keeps (2 * length c.args.calls.now) _ _ _ _ _ _ _ c.in_ok-queue.ensures.makes
    c.in-Ok.ensures.kept c.end.ensures.ends.frames c.end.ensures.ends.sound

pub returns-in-Err : goal.returns-in-Err
returns-in-Err g c =
    ended_keeps (2 * length c.args.calls.now) _ _ _ _ _ _ _ c.in_ok-queue.ensures.makes
    c.in-Err.ensures.kept c.abandon.ensures.leaves.frames c.abandon.ensures.leaves.sound
