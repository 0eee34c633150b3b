use Rattle.std.proofs.Common.{arith}
use Rattle.em_space.specs.Seen.{seen}
use Rattle.em_space.proofs.Paying.{pays_more}
use Rattle.em_answers.proofs.Stepping.{call_full, has_answered, has_same, none_at_other, one_at_sync, other_within, prints_other, prints_sync, sync_within}
use Rattle.em_answers.proofs.read.give.Goals as goal

-- a sync was answered, or that stopped
pub returns-in-Sync-clause-has : goal.returns-in-Sync-clause-has
returns-in-Sync-clause-has g c =
    let s = seen g.D.Device.state c.args.rig.now in
    let t = seen g.D.Device.state c.answer_sync.new.rig in
    has_answered (g.S.Service.Has c.args.service.now s) (g.S.Service.Has c.answer_sync.new.service t) c.args.command
    c.answer_sync.result c.in-Sync.is c.answer_sync.ensures.has

pub returns-in-Sync-clause-takes : goal.returns-in-Sync-clause-takes
returns-in-Sync-clause-takes g c =
    rw (one_at_sync g.S.Service.KIND c.args.command c.in-Sync.is (rw c.in-Sync.is at c.requires.kind))
    c.answer_sync.ensures.takes

pub returns-in-Sync-clause-moves : goal.returns-in-Sync-clause-moves
returns-in-Sync-clause-moves g c = λ given has.
    let v = c.args.service.now in
    let s = seen g.D.Device.state c.args.rig.now in
    sync_within g.S.Service.allowance (g.S.Service.size v s.pool.shape) g.S.Service.KIND given c.args.command
    (g.S.Service.counts v).syncs (g.S.Service.counts v).spent s (seen g.D.Device.state c.answer_sync.new.rig)
    c.in-Sync.is (rw c.in-Sync.is at c.requires.kind) (c.answer_sync.ensures.moves _ _ has)

pub returns-in-Sync-clause-prints : goal.returns-in-Sync-clause-prints
returns-in-Sync-clause-prints g c = λ told given has.
    prints_sync (g.S.Service.combiner c.args.service.now) g.S.Service.KIND given c.args.command c.in-Sync.is g.met.S.Service.no_queue
    (rw c.in-Sync.is at c.requires.kind) (c.answer_sync.ensures.prints told _ _ has)

-- another command was taken
pub returns-in-Ok-clause-has : goal.returns-in-Ok-clause-has
returns-in-Ok-clause-has g c = λ given has.
    has_same (g.S.Service.Has c.take.new.self (seen g.D.Device.state c.take.new.rig)) given c.args.command
    c.in_default.not-Sync (c.in-Ok.ensures.has _ _ has)

pub returns-in-Ok-clause-takes : goal.returns-in-Ok-clause-takes
returns-in-Ok-clause-takes g c =
    rw (none_at_other g.S.Service.KIND c.args.command c.in_default.not-Sync) c.in-Ok.ensures.takes

pub returns-in-Ok-clause-moves : goal.returns-in-Ok-clause-moves
returns-in-Ok-clause-moves g c = λ given has.
    let v = c.args.service.now in
    let s = seen g.D.Device.state c.args.rig.now in
    other_within g.S.Service.allowance (g.S.Service.size v s.pool.shape) g.S.Service.KIND given c.args.command
    (g.S.Service.counts v).syncs (g.S.Service.counts v).spent s (seen g.D.Device.state c.take.new.rig)
    c.in_default.not-Sync (c.in-Ok.ensures.moves _ _ has)

pub returns-in-Ok-clause-prints : goal.returns-in-Ok-clause-prints
returns-in-Ok-clause-prints g c = λ told given has.
    prints_other (g.S.Service.combiner c.args.service.now) g.met.W.Sink.rule (g.met.W.Sink.is_state c.args.out.now) g.S.Service.KIND given c.args.command _
    c.in_default.not-Sync

-- or the service gave up
pub returns-in-Err-clause-moves : goal.returns-in-Err-clause-moves
returns-in-Err-clause-moves g c = λ given has.
    let v = c.args.service.now in
    let s = seen g.D.Device.state c.args.rig.now in
    other_within g.S.Service.allowance (g.S.Service.size v s.pool.shape) g.S.Service.KIND given c.args.command
    (g.S.Service.counts v).syncs (g.S.Service.counts v).spent s (seen g.D.Device.state c.take.new.rig)
    c.in_default.not-Sync (c.in-Err.ensures.moves _ _ has)

pub returns-in-Err-clause-prints : goal.returns-in-Err-clause-prints
returns-in-Err-clause-prints g c = λ told given has.
    prints_other (g.S.Service.combiner c.args.service.now) g.met.W.Sink.rule (g.met.W.Sink.is_state c.args.out.now) g.S.Service.KIND given c.args.command _
    c.in_default.not-Sync

pub returns-in-Err-clause-full : goal.returns-in-Err-clause-full
returns-in-Err-clause-full g c =
    call_full g.S.Service.room _ _ _ _ c.in-Err.fault c.in-Err.ensures.full
    (pays_more c.in-Err.ensures.owes (omega arith))
