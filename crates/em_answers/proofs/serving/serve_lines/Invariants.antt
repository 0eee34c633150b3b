use Rattle.std.proofs.Common.{◌≡◌, ◌+◌, ◌-◌, ◌*◌, ◌≤◌, ◌^◌, IsTrue}
use Rattle.em_io.specs.Feed.{rest}
use Rattle.em_space.specs.Held.{Within}
use Rattle.em_space.specs.Numbered.{NumberedTo}
use Rattle.em_space.specs.Queue.{CanServe, Shares}
use Rattle.em_space.specs.Rig.{Sound, Touches}
use Rattle.em_space.specs.Seen.{seen}
use Rattle.em_model.specs.Queue.{queue_answers}
use Rattle.em_answers.specs.Answer.{queue_text}
use Rattle.em_lines.specs.CommandLine.{first_fault, good_commands, parsed_from}
use Rattle.em_lines.specs.Lines.{lines_of}
use Rattle.em_lines.specs.Reads.{Reads}
use Rattle.em_answers.specs.Serve.{IsAlone}
use Rattle.em_lines.specs.declared.text.FileKind.TheVariants.{Queue}
use Rattle.em_lines.proofs.ReadLaws.{Counted}
use Rattle.em_answers.proofs.Served.{Serving}
use Rattle.em_answers.proofs.serving.serve_lines.Given as goal

abbrev pub invariant-loop-feed : goal.invariant-loop-feed
invariant-loop-feed g l =
    let first = seen g.D.Device.state l.fn.rig in
    let now = seen g.D.Device.state l.rig in
    let text = rest l.fn.feed (g.H.Shelf.stand l.fn.shelf) in
    let left = rest l.feed (g.H.Shelf.stand l.shelf) in
    let c = g.Q.Queue.counts l.queue in
    let held = g.Q.Queue.blocks l.fn.queue first in
    record {
      sound : Sound now;
      touches : Touches held first now;
      queue : g.Q.Queue.IsQueue l.queue now;
      shares : Shares (g.Q.Queue.counts l.fn.queue) c first.pool now.pool;
      free : CanServe now.pool;
      within : Within first held (g.Q.Queue.blocks l.queue now);
      alone : IsAlone now c;
      spent : now.moves + (g.Q.Queue.counts l.fn.queue).spent ≡ first.moves + c.spent;
      number : l.number ≡ c.n + 1;
      few : c.n ≤ 2 ^ 40;
      limit : c.len ≤ c.n;
      pushes : l.pushes ≤ c.n;
      numbers : IsTrue now.device.told → NumberedTo l.pushes (g.Q.Queue.items l.queue now);
      place : l.feed.place ≤ 48 * c.n;
      reads : Reads g.H.Shelf.tells l.fn.feed (g.H.Shelf.stand l.fn.shelf)
          l.feed (g.H.Shelf.stand l.shelf);
      read_later : g.H.Shelf.faults l.fn.shelf ≤ g.H.Shelf.faults l.shelf;
      write_later : g.W.Sink.faults l.fn.out ≤ g.W.Sink.faults l.out;
      fault : IsTrue g.H.Shelf.tells
          → first_fault Queue text ≡ (parsed_from Queue (c.n + 1) (lines_of left)).fault;
      counted : IsTrue g.H.Shelf.tells → Counted Queue text left c.n;
      serving : IsTrue g.H.Shelf.tells → IsTrue first.device.told
          → Serving g.W.Sink.took (queue_text (queue_answers (good_commands Queue text)))
          (parsed_from Queue (c.n + 1) (lines_of left)).good
          (g.Q.Queue.items l.queue now) l.pushes (g.W.Sink.state l.fn.out) (g.W.Sink.state l.out)
          l.printer;
    }

abbrev pub decreases-loop-feed : goal.decreases-loop-feed
decreases-loop-feed g l = 2 ^ 40 + 1 - l.number
