use Rattle.std.proofs.Common.{◌≤◌, ℕ, List, subst, ap, ◌∙◌, Ok, Err}
use Rattle.em_record.specs.Shape.{ShapeNumbers}
use Rattle.em_io.specs.Feed.{Fed, rest}
use Rattle.em_io.specs.declared.shelf.Slot.TheVariants.{First}
use Rattle.em_space.specs.Seen.{seen}
use Rattle.em_space.proofs.Steps.{touches_then}
use Rattle.em_model.specs.declared.command.Command.{Command}
use Rattle.em_lines.specs.RunSize.{commands_taken, run_size}
use Rattle.em_lines.specs.declared.text.FileKind.TheVariants as kind
use Rattle.em_ends.specs.Stop.{fault_counts}
use Rattle.em_services.specs.Service.{size_of}
use Rattle.em_answers.specs.Limits.{queue_limits, taken_size}
use Rattle.em_answers.proofs.FileRuns.{runs_answered, runs_sized}
use Rattle.em_answers.proofs.QueueRuns.{calls_within, gives_up, queue_filled, queue_stops}
use Rattle.em_answers.proofs.Rooms.{queue_keeps}
use Rattle.em_answers.proofs.answering.run_queue.Goals as goal

pub returns-in-Ok-clause-gives : goal.returns-in-Ok-clause-gives
returns-in-Ok-clause-gives g c =
    gives_up g.Q.Queue c.args.queue (g.Q.Queue.counts c.serve-done.new.queue) _
    (seen g.D.Device.state c.serve-done.new.rig) _ c.serve-done.ensures.calls_only
    c.abandon.ensures.leaves

pub returns-in-Err-clause-gives : goal.returns-in-Err-clause-gives
returns-in-Err-clause-gives g c =
    gives_up g.Q.Queue c.args.queue (g.Q.Queue.counts c.serve-done.new.queue) _
    (seen g.D.Device.state c.serve-done.new.rig) _ c.serve-done.ensures.calls_only
    c.abandon.ensures.leaves

pub returns-in-Ok-clause-moves : goal.returns-in-Ok-clause-moves
returns-in-Ok-clause-moves g c = λ t d.
    let stand = g.H.Shelf.stand c.args.shelf.now in
    let after = g.H.Shelf.stand c.serve-done.new.shelf in
    let first = seen g.D.Device.state c.args.rig.now in
    let mid = seen g.D.Device.state c.serve-done.new.rig in
    let last = seen g.D.Device.state c.abandon.new.rig in
    let queue = c.serve-done.new.queue in
    let counts = g.Q.Queue.counts queue in
    let text = (stand.slot First).left in
    let r = c.serve-done.ensures in
    let calls : counts.n ≤ commands_taken kind.Queue text (after.slot First).left =
    subst (λ (f : Fed). counts.n ≤ commands_taken kind.Queue (rest f stand)
    (after.slot f.slot).left) c.new-feed.ensures (r.calls t) in
    let laws = g.met.Q.Queue in
    let touches = r.calls_only.touches in
    calls_within g.Q.Queue.allowance (g.Q.Queue.counts c.args.queue) counts mid.pool.shape
    first.pool.shape first.moves mid.moves last.moves
    (commands_taken kind.Queue text (after.slot First).left) laws.rising
    (laws.spends queue mid r.frames (touches.told ∙ d)) (laws.k_most queue mid r.frames) calls
    touches.shape r.calls_only.spent c.requires.alone.moved
    (ap (λ s. s.moves) c.abandon.ensures.leaves.same)

pub returns-in-Err-clause-moves : goal.returns-in-Err-clause-moves
returns-in-Err-clause-moves g c = λ t d.
    let stand = g.H.Shelf.stand c.args.shelf.now in
    let after = g.H.Shelf.stand c.serve-done.new.shelf in
    let first = seen g.D.Device.state c.args.rig.now in
    let mid = seen g.D.Device.state c.serve-done.new.rig in
    let last = seen g.D.Device.state c.abandon.new.rig in
    let queue = c.serve-done.new.queue in
    let counts = g.Q.Queue.counts queue in
    let text = (stand.slot First).left in
    let r = c.serve-done.ensures in
    let calls : counts.n ≤ commands_taken kind.Queue text (after.slot First).left =
    subst (λ (f : Fed). counts.n ≤ commands_taken kind.Queue (rest f stand)
    (after.slot f.slot).left) c.new-feed.ensures (r.calls t) in
    let laws = g.met.Q.Queue in
    let touches = r.calls_only.touches in
    calls_within g.Q.Queue.allowance (g.Q.Queue.counts c.args.queue) counts mid.pool.shape
    first.pool.shape first.moves mid.moves last.moves
    (commands_taken kind.Queue text (after.slot First).left) laws.rising
    (laws.spends queue mid r.frames (touches.told ∙ d)) (laws.k_most queue mid r.frames) calls
    touches.shape r.calls_only.spent c.requires.alone.moved
    (ap (λ s. s.moves) c.abandon.ensures.leaves.same)

pub returns-in-Ok-clause-runs : goal.returns-in-Ok-clause-runs
returns-in-Ok-clause-runs g c = λ apply.
    let first = seen g.D.Device.state c.args.rig.now in
    let mid = seen g.D.Device.state c.serve-done.new.rig in
    let last = seen g.D.Device.state c.abandon.new.rig in
    let stand = g.H.Shelf.stand c.args.shelf.now in
    let after = g.H.Shelf.stand c.serve-done.new.shelf in
    let feed = c.new-feed.result in
    let queue = c.serve-done.new.queue in
    let counts = g.Q.Queue.counts queue in
    let r = c.in-Ok.ensures in
    let l = c.abandon.ensures.leaves in
    let laws = g.met.Q.Queue in
    let plain : ShapeNumbers → List Command → ℕ = λ shape. size_of kind.Queue in
    runs_sized apply (taken_size plain kind.Queue) (λ shape. run_size kind.Queue)
    (runs_answered apply plain g.H.Shelf g.W.Sink (queue_limits g.Q.Queue.room) kind.Queue
    (g.Q.Queue.blocks c.args.queue first) c.args.shelf.now c.args.out.now c.serve-done.new.feed
    c.serve-done.new.shelf c.serve-done.new.out first last c.requires.ready feed (Ok tt)
    c.new-feed.ensures (record {
      sound = l.sound;
      touches = touches_then _ first mid last r.calls_only.touches l.touches;
      reads = r.reads;
      read_later = r.read_later;
      write_later = r.write_later;
      whole = r.whole;
      answers = r.answers;
      stop = tt;
      moves = λ t. tt;
      most = queue_keeps g.Q.Queue.room g.H.Shelf.tells (rest feed stand) (after.slot feed.slot).left counts mid last
          laws.rising_room (laws.k_most queue mid r.frames) r.calls (laws.fits queue mid r.frames) r.most l;
    }))

pub returns-in-Err-clause-runs : goal.returns-in-Err-clause-runs
returns-in-Err-clause-runs g c = λ apply.
    let first = seen g.D.Device.state c.args.rig.now in
    let mid = seen g.D.Device.state c.serve-done.new.rig in
    let last = seen g.D.Device.state c.abandon.new.rig in
    let stand = g.H.Shelf.stand c.args.shelf.now in
    let after = g.H.Shelf.stand c.serve-done.new.shelf in
    let feed = c.new-feed.result in
    let queue = c.serve-done.new.queue in
    let counts = g.Q.Queue.counts queue in
    let stop = c.in-Err.stop in
    let r = c.in-Err.ensures in
    let l = c.abandon.ensures.leaves in
    let laws = g.met.Q.Queue in
    let plain : ShapeNumbers → List Command → ℕ = λ shape. size_of kind.Queue in
    rw (c.status_of.ensures.is) (runs_sized apply (taken_size plain kind.Queue) (λ shape. run_size kind.Queue)
    (runs_answered apply plain g.H.Shelf g.W.Sink (queue_limits g.Q.Queue.room) kind.Queue
    (g.Q.Queue.blocks c.args.queue first) c.args.shelf.now c.args.out.now c.serve-done.new.feed
    c.serve-done.new.shelf c.serve-done.new.out first last c.requires.ready feed (Err stop)
    c.new-feed.ensures (record {
      sound = l.sound;
      touches = touches_then _ first mid last r.calls_only.touches l.touches;
      reads = r.reads;
      read_later = r.read_later;
      write_later = r.write_later;
      whole = r.whole;
      answers = r.answers;
      stop = record {
        cause = queue_stops g.H.Shelf.tells kind.Queue (rest feed stand)
            (fault_counts (g.H.Shelf.faults c.args.shelf.now) (g.W.Sink.faults c.args.out.now))
            (fault_counts (g.H.Shelf.faults c.serve-done.new.shelf) (g.W.Sink.faults c.serve-done.new.out))
            first mid last counts stop l r.stop;
        full = queue_filled g.Q.Queue.room g.H.Shelf.tells (rest feed stand) (after.slot feed.slot).left mid last
            counts stop laws.rising_room (laws.k_most queue mid r.frames) r.calls l r.full;
      };
      moves = λ t. tt;
      most = queue_keeps g.Q.Queue.room g.H.Shelf.tells (rest feed stand) (after.slot feed.slot).left counts mid last
          laws.rising_room (laws.k_most queue mid r.frames) r.calls (laws.fits queue mid r.frames) r.most l;
    })))
