use Rattle.std.proofs.Common.{◌≡◌, ◌+◌, ◌++◌, ap, sym, ◌∙◌, refl, arith, length, IsTrue}
use Rattle.em_io.specs.Feed.{rest}
use Rattle.em_io.proofs.Sent.{sent-nothing}
use Rattle.em_model.specs.Queue.{no_items, queue_answer_of, queue_answers_from, queue_step}
use Rattle.em_space.specs.Seen.{seen}
use Rattle.em_space.proofs.Numbered.{numbered_none}
use Rattle.em_space.proofs.Queues.{shares_none, shares_then, still_serves}
use Rattle.em_space.proofs.Steps.{goes_nothing}
use Rattle.em_space.proofs.Within.{touches_within, within_same, within_then}
use Rattle.em_chain.proofs.Keeps.{touches_none}
use Rattle.em_answers.specs.Answer.{queue_text}
use Rattle.em_answers.specs.Serve.{IsFilledBy}
use Rattle.em_lines.specs.CommandLine.{parsed_from}
use Rattle.em_lines.specs.LineTaken.{LineTaken}
use Rattle.em_lines.specs.Lines.{lines_of}
use Rattle.em_lines.specs.declared.text.FileKind.TheVariants.{Queue}
use Rattle.em_ends.proofs.Printing.{sent_step}
use Rattle.em_answers.proofs.QueueModel.{follows_first}
use Rattle.em_lines.proofs.ReadLaws.{counted_left, counted_more, counted_none, counted_read}
use Rattle.em_answers.proofs.Served.{alone_next, most_next, next_answer, stops_by, stops_full}
use Rattle.em_answers.proofs.Waiting.{answers_done, answers_fault, answers_read, answers_stopped, answers_unsent, serving_sent}
use Rattle.em_lines.proofs.Steps.{reads_then}
use Rattle.em_answers.proofs.serving.serve_lines.Goals as goal

pub loop-feed-init : goal.loop-feed-init
loop-feed-init g c =
    let r = c.requires in
    let s = seen g.D.Device.state c.args.rig.now in
    let items = g.Q.Queue.items c.args.queue.now s in
    let laws = g.met.Q.Queue in
    let none : IsTrue s.device.told → 0 ≡ length items =
    λ d. sym r.fresh.len ∙ laws.len_is c.args.queue.now s r.queue d in
    record {
      sound = r.sound;
      touches = touches_none _ s s (goes_nothing s r.sound).touches;
      queue = r.queue;
      shares = shares_none (g.Q.Queue.counts c.args.queue.now) s.pool;
      free = r.free;
      within = within_same s _;
      alone = r.alone;
      spent = refl;
      number = omega (arith, r.fresh.n);
      few = omega (arith, r.fresh.n);
      limit = omega (arith, r.fresh.len);
      pushes = omega arith;
      numbers = λ d. numbered_none 0 items (none d);
      place = omega (arith, r.place);
      reads = record {
        slot = refl;
        leaves = record { text = refl; others = λ other n. refl };
        opened = refl;
        ready = refl;
        shorter = λ t. omega arith;
        lost = λ t. refl;
      };
      read_later = omega arith;
      write_later = omega arith;
      fault = λ t. rw r.fresh.n refl;
      counted = λ t.
          rw r.fresh.n (counted_none Queue (rest c.args.feed.now (g.H.Shelf.stand c.args.shelf.now)));
      serving = λ t d. rw r.fresh.n (record {
        model = no_items;
        follows = follows_first items (sym (none d));
        sent = rw r.none (sent-nothing g.met.W.Sink.rule (g.met.W.Sink.is_state c.args.out.now) _ refl);
      });
    }

pub returns-in_err-send_before_reading-clause-calls : goal.returns-in_err-send_before_reading-clause-calls
returns-in_err-send_before_reading-clause-calls g c = λ told.
    let inv = c.loop-feed.invariant in
    counted_left Queue _ _ c.loop-feed.feed (g.H.Shelf.stand c.loop-feed.shelf)
    c.args.feed.now.slot _ (inv.counted told) inv.reads.slot (omega arith)

pub returns-in-Err-Read-clause-calls : goal.returns-in-Err-Read-clause-calls
returns-in-Err-Read-clause-calls g c = λ told.
    counted_read Queue c.loop-feed.invariant.reads c.in-Err-Read.ensures.reads.reads told
    (c.loop-feed.invariant.counted told)

pub returns-in-Err-Fault-clause-calls : goal.returns-in-Err-Fault-clause-calls
returns-in-Err-Fault-clause-calls g c = λ told.
    counted_read Queue c.loop-feed.invariant.reads c.in-Err-Fault.ensures.reads.reads told
    (c.loop-feed.invariant.counted told)

pub returns-in_err-send_before_reading-clause-answers : goal.returns-in_err-send_before_reading-clause-answers
returns-in_err-send_before_reading-clause-answers g c = λ told dev.
    answers_unsent g.met.W.Sink.rule (g.met.W.Sink.is_state c.args.out.now) _ _
    c.from_residual.ensures.1 (c.loop-feed.invariant.serving told dev)
    c.in_err-send_before_reading.ensures.part

pub returns-in-Err-Read-clause-answers : goal.returns-in-Err-Read-clause-answers
returns-in-Err-Read-clause-answers g c = λ told dev.
    answers_read (serving_sent g.met.W.Sink.rule (g.met.W.Sink.is_state c.args.out.now)
    (c.loop-feed.invariant.serving told dev) c.in_ok-send_before_reading.ensures.sent)

pub returns-in-Err-Fault-clause-answers : goal.returns-in-Err-Fault-clause-answers
returns-in-Err-Fault-clause-answers g c = λ told dev.
    answers_fault c.at_line.result
    (serving_sent g.met.W.Sink.rule (g.met.W.Sink.is_state c.args.out.now)
    (c.loop-feed.invariant.serving told dev) c.in_ok-send_before_reading.ensures.sent)
    (let faulty = rw c.in-Err-Fault.field-0-is at (c.in-Err-Fault.ensures.fault told) in
    ap (λ r. r.good) (rw c.loop-feed.invariant.number at faulty))

pub returns-in_default-clause-answers : goal.returns-in_default-clause-answers
returns-in_default-clause-answers g c = λ told dev.
    let ended = rw c.in_default.is at (c.in-Ok.ensures.ended told) in
    answers_done (serving_sent g.met.W.Sink.rule (g.met.W.Sink.is_state c.args.out.now)
    (c.loop-feed.invariant.serving told dev) c.in_ok-send_before_reading.ensures.sent)
    (ap (λ s. (parsed_from Queue ((g.Q.Queue.counts c.loop-feed.queue).n + 1) (lines_of s)).good) ended.0)

pub returns-in_err-pushes-clause-answers : goal.returns-in_err-pushes-clause-answers
returns-in_err-pushes-clause-answers g c = λ told dev.
    let inv = c.loop-feed.invariant in
    let v = c.in_err-pushes.ensures in
    let count = (g.Q.Queue.counts c.loop-feed.queue).n in
    let after = rest c.take_line.new.feed (g.H.Shelf.stand c.take_line.new.shelf) in
    let command = c.in-Some.command in
    let line = rw inv.number at (rw c.in-Some.is at (c.in-Ok.ensures.taken told)) in
    let p = serving_sent g.met.W.Sink.rule (g.met.W.Sink.is_state c.args.out.now)
    (inv.serving told dev) c.in_ok-send_before_reading.ensures.sent in
    let later = (parsed_from Queue (count + 1 + 1) (lines_of after)).good in
    answers_stopped g.met.W.Sink.rule (g.met.W.Sink.is_state c.args.out.now)
    (queue_text (queue_answer_of p.model command))
    (queue_text (queue_answers_from (queue_step p.model command) later))
    (g.W.Sink.faults c.send_before_reading.new.out) (g.W.Sink.faults c.serve_one.new.out)
    (seen g.D.Device.state c.loop-feed.rig) (seen g.D.Device.state c.serve_one.new.rig) _ _
    c.from_residual-in_err-pushes.ensures.1 v.cause p
    (next_answer p.model command _ later (ap (λ r. r.good) line.from))
    (v.prints (inv.touches.told ∙ dev) p.model p.follows)

pub returns-in_err-pushes-clause-full : goal.returns-in_err-pushes-clause-full
returns-in_err-pushes-clause-full g c =
    let v = c.in_err-pushes.ensures in
    let mid = seen g.D.Device.state c.loop-feed.rig in
    let last = seen g.D.Device.state c.serve_one.new.rig in
    let before = g.Q.Queue.counts c.loop-feed.queue in
    let after = g.Q.Queue.counts c.serve_one.new.queue in
    stops_by (IsFilledBy g.Q.Queue.room after last) _ _ c.from_residual-in_err-pushes.ensures.1
    (stops_full g.Q.Queue (g.Q.Queue.blocks c.loop-feed.queue mid) mid last before after
    (g.W.Sink.faults c.send_before_reading.new.out) (g.W.Sink.faults c.serve_one.new.out) _ c.loop-feed.invariant.alone
    v.serves v.cause v.owes v.full)

pub returns-in_err-pushes-clause-most : goal.returns-in_err-pushes-clause-most
returns-in_err-pushes-clause-most g c =
    most_next (g.Q.Queue.blocks c.loop-feed.queue (seen g.D.Device.state c.loop-feed.rig))
    (seen g.D.Device.state c.loop-feed.rig) (seen g.D.Device.state c.serve_one.new.rig)
    (g.Q.Queue.counts c.loop-feed.queue) (g.Q.Queue.counts c.serve_one.new.queue) c.loop-feed.invariant.alone
    c.in_err-pushes.ensures.serves

pub returns-in_err-pushes-clause-calls_only : goal.returns-in_err-pushes-clause-calls_only
returns-in_err-pushes-clause-calls_only g c =
    let inv = c.loop-feed.invariant in
    let v = c.in_err-pushes.ensures in
    let e = v.serves.spent in
    record {
      sound = v.serves.sound;
      touches = touches_within (seen g.D.Device.state c.args.rig.now)
          (seen g.D.Device.state c.loop-feed.rig) (seen g.D.Device.state c.serve_one.new.rig) _ _
          inv.touches inv.within v.serves.touches;
      shares = shares_then _ _ _ _ _ _ inv.shares v.serves.frames;
      spent = omega (arith, e, inv.spent);
    }

pub returns-in_err-pushes-clause-calls : goal.returns-in_err-pushes-clause-calls
returns-in_err-pushes-clause-calls g c = λ told.
    let inv = c.loop-feed.invariant in
    let l = c.in-Ok.ensures in
    let v = c.in_err-pushes.ensures in
    let count = (g.Q.Queue.counts c.loop-feed.queue).n in
    let line = rw inv.number at (rw c.in-Some.is at (l.taken told)) in
    let more = counted_more Queue _ _ _ count c.in-Some.command (inv.counted told) line in
    let n = counted_left Queue _ _ c.take_line.new.feed (g.H.Shelf.stand c.take_line.new.shelf)
    c.args.feed.now.slot _ more (l.reads.reads.slot ∙ inv.reads.slot) (omega arith) in
    rw v.serves.n n

pub loop-feed-preserved : goal.loop-feed-preserved
loop-feed-preserved g c =
    let inv = c.loop-feed.invariant in
    let l = c.in-Ok.ensures in
    let v = c.in_ok-pushes.ensures in
    let count = (g.Q.Queue.counts c.loop-feed.queue).n in
    let before = rest c.loop-feed.feed (g.H.Shelf.stand c.loop-feed.shelf) in
    let after = rest c.take_line.new.feed (g.H.Shelf.stand c.take_line.new.shelf) in
    let command = c.in-Some.command in
    let first = seen g.D.Device.state c.args.rig.now in
    let mid = seen g.D.Device.state c.loop-feed.rig in
    let last = seen g.D.Device.state c.serve_one.new.rig in
    let line : IsTrue g.H.Shelf.tells → LineTaken Queue (count + 1) before after command =
    λ told. rw inv.number at (rw c.in-Some.is at (l.taken told)) in
    let n = v.serves.n in
    record {
      sound = v.serves.sound;
      touches = touches_within first mid last _ _ inv.touches inv.within v.serves.touches;
      queue = v.queue;
      shares = shares_then _ _ _ _ _ _ inv.shares v.serves.frames;
      free = still_serves _ _ _ _ inv.free v.serves.frames v.served.frames v.served.areas;
      within = within_then first mid _ _ _ inv.touches inv.within v.within;
      alone = alone_next _ mid last _ _ inv.alone v.serves v.served;
      spent = let e = v.serves.spent in omega (arith, e, inv.spent);
      number = omega (arith, inv.number, n);
      few = let m = rw c.in-Some.is at l.number in omega (arith, m, n, inv.number);
      limit = v.limit;
      pushes = v.pushes;
      numbers = λ d. v.numbers (sym v.serves.touches.told ∙ d);
      place = omega (arith, l.reads.place, inv.place, n);
      reads = reads_then _ _ _ _ _ _ _ inv.reads l.reads.reads;
      read_later = omega (arith, inv.read_later, l.reads.later);
      write_later = omega (arith, inv.write_later, v.later);
      fault = λ told. rw n (inv.fault told ∙ ap (λ r. r.fault) (line told).from);
      counted = λ told.
          rw n (counted_more Queue _ _ _ count command (inv.counted told) (line told));
      serving = λ told dev.
          let p = serving_sent g.met.W.Sink.rule (g.met.W.Sink.is_state c.args.out.now)
          (inv.serving told dev) c.in_ok-send_before_reading.ensures.sent in
          let z = inv.touches.told ∙ dev in
          let later = (parsed_from Queue (count + 1 + 1) (lines_of after)).good in
          rw n (record {
            model = queue_step p.model command;
            follows = v.follows z p.model p.follows;
            sent = sent_step g.met.W.Sink.rule (g.met.W.Sink.is_state c.args.out.now)
                c.send_before_reading.new.printer (queue_text (queue_answer_of p.model command))
                (queue_text (queue_answers_from (queue_step p.model command) later)) p.sent
                (ap (λ l. c.send_before_reading.new.printer ++ l)
                (next_answer p.model command _ later (ap (λ r. r.good) (line told).from)))
                (v.prints z p.model p.follows).all;
          });
    }
