use Rattle.em_space.specs.Seen.{seen}
use Rattle.em_space.proofs.Queues.{out_given}
use Rattle.em_space.proofs.Steps.{same_frames_then}
use Rattle.em_chain.specs.Writer.{writer_blocks}
use Rattle.em_plain.specs.QueueLaws.{holds, out}
use Rattle.em_plain.specs.ScanQueue.{queue_blocks}
use Rattle.em_queued.proofs.Queued.{apart_after, shares_frames}
use Rattle.em_list_tests.proofs.Beside.{frames_back, holds_none, never_ok, on_ok, queue_given, queue_lent, queue_read}
use Rattle.em_list_tests.proofs.queued.pops_into.Goals as goal

pub pop_into-requires-clause-is : goal.pop_into-requires-clause-is
pop_into-requires-clause-is g c = queue_lent c.requires.ready.is c.new-list.ensures.lends

pub pop_into-requires-clause-holds : goal.pop_into-requires-clause-holds
pop_into-requires-clause-holds g c = λ told.
    let t = seen g.D.Device.state c.new-list.new.rig in
    let q = c.args.queue.now.queue in
    holds_none (queue_blocks t q) _ c.new-list.ensures.begins.held
    (holds q t (queue_lent c.requires.ready.is c.new-list.ensures.lends) told)

pub returns-in_err-chain-in-Ok : goal.returns-in_err-chain-in-Ok
returns-in_err-chain-in-Ok g c =
    let s = seen g.D.Device.state c.args.rig.now in
    let t = seen g.D.Device.state c.new-list.new.rig in
    let u = seen g.D.Device.state c.pop_into.new.rig in
    let v = seen g.D.Device.state c.finish.new.rig in
    let p = c.pop_into.new.queue.queue in
    let l = c.pop_into.new.list in
    let lent = c.new-list.ensures.lends.frames in
    let runs = c.in-Ok.ensures.pops.runs in
    let gives = c.finish.ensures.gives in
    let at_end = out_given 1 _ _ s.pool t.pool u.pool v.pool
    (out c.args.queue.now.queue s c.requires.ready.is.rest) lent
    (shares_frames runs.runs.frames runs.calls_on.frames runs.calls_on.areas) gives.frames in
    record {
      kept = record {
        sound = gives.sound;
        frames = frames_back s.pool t.pool u.pool v.pool lent runs.runs.frames gives.frames;
        has = (queue_given (writer_blocks u l) c.in-Ok.ensures.queue gives
            (apart_after (queue_blocks u p) (writer_blocks u l) runs) at_end).rest;
        is = never_ok _ c.from_residual.result c.from_residual.ensures.0;
      };
    }

pub returns-in_ok-chain-in-Ok : goal.returns-in_ok-chain-in-Ok
returns-in_ok-chain-in-Ok g c =
    let s = seen g.D.Device.state c.args.rig.now in
    let t = seen g.D.Device.state c.new-list.new.rig in
    let u = seen g.D.Device.state c.pop_into.new.rig in
    let v = seen g.D.Device.state c.finish.new.rig in
    let x = seen g.D.Device.state c.takes.new.rig in
    let p = c.pop_into.new.queue.queue in
    let l = c.pop_into.new.list in
    let lent = c.new-list.ensures.lends.frames in
    let runs = c.in-Ok.ensures.pops.runs in
    let gives = c.finish.ensures.gives in
    let goes = c.takes.ensures.goes in
    let at_end = out_given 1 _ _ s.pool t.pool u.pool v.pool
    (out c.args.queue.now.queue s c.requires.ready.is.rest) lent
    (shares_frames runs.runs.frames runs.calls_on.frames runs.calls_on.areas) gives.frames in
    let is = queue_read c.in-Ok.ensures.queue gives c.in_ok-chain-in-Ok.ensures.finishes goes
    (apart_after (queue_blocks u p) (writer_blocks u l) runs) at_end in
    record {
      kept = record {
        sound = goes.sound;
        frames = same_frames_then s.pool v.pool x.pool
            (frames_back s.pool t.pool u.pool v.pool lent runs.runs.frames gives.frames)
            goes.frames;
        has = is.rest;
        is = on_ok c.takes.result is;
      };
    }
