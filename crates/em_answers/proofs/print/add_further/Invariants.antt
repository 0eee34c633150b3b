use Rattle.std.proofs.Common.{◌≡◌, ◌+◌, ◌++◌, ◌≤◌, IsTrue}
use Rattle.em_io.specs.Sink.{Sent}
use Rattle.em_space.specs.Seen.{seen}
use Rattle.em_chain.specs.Reader.{owed, reader_items}
use Rattle.em_answers.specs.Answer.{further_words}
use Rattle.em_answers.specs.Print.{KeepsBlocks, LooksAt, intervals_at, pairs_behind}
use Rattle.em_answers.proofs.print.add_further.Given as goal

abbrev pub invariant-loop-pair : goal.invariant-loop-pair
invariant-loop-pair g l =
    let first = seen g.D.Device.state l.fn.rig in
    let now = seen g.D.Device.state l.rig in
    record {
      keeps : KeepsBlocks first now;
      reader : LooksAt now l.reader;
      behind : IsTrue first.device.told
          → pairs_behind l.stab (reader_items now l.reader)
          ≡ pairs_behind l.stab (reader_items first l.fn.reader);
      sent : IsTrue first.device.told → Sent g.W.Sink.took (g.W.Sink.state l.fn.out)
          (l.fn.printer ++ further_words (intervals_at l.stab (reader_items first l.fn.reader)))
          (g.W.Sink.state l.out)
          (l.printer ++ further_words (intervals_at l.stab (reader_items now l.reader)));
      later : g.W.Sink.faults l.fn.out ≤ g.W.Sink.faults l.out;
      moves : now.moves + owed l.reader ≤ first.moves + owed l.fn.reader;
    }

abbrev pub decreases-loop-pair : goal.decreases-loop-pair
decreases-loop-pair g l = l.reader.count
