use Rattle.std.proofs.Common.{◌+◌, ◌++◌, ◌≤◌, IsTrue}
use Rattle.em_io.specs.Sink.{Sent}
use Rattle.em_space.specs.Seen.{seen}
use Rattle.em_chain.specs.Reader.{owed, reader_items}
use Rattle.em_lines.specs.BaseLine.{pairs_text}
use Rattle.em_answers.specs.Print.{KeepsBlocks, LooksAt, pairs_in}
use Rattle.em_answers.proofs.print.print_pairs.Given as goal

abbrev pub invariant-loop-item : goal.invariant-loop-item
invariant-loop-item g l = record {
  keeps : KeepsBlocks (seen g.D.Device.state l.fn.rig) (seen g.D.Device.state l.rig);
  reader : LooksAt (seen g.D.Device.state l.rig) l.reader;
  sent : IsTrue (seen g.D.Device.state l.fn.rig).device.told → Sent g.W.Sink.took
      (g.W.Sink.state l.fn.out) (l.fn.printer
      ++ pairs_text (pairs_in (reader_items (seen g.D.Device.state l.fn.rig) l.fn.reader)))
      (g.W.Sink.state l.out) (l.printer
      ++ pairs_text (pairs_in (reader_items (seen g.D.Device.state l.rig) l.reader)));
  later : g.W.Sink.faults l.fn.out ≤ g.W.Sink.faults l.out;
  moves : (seen g.D.Device.state l.rig).moves + owed l.reader
      ≤ (seen g.D.Device.state l.fn.rig).moves + owed l.fn.reader;
}

abbrev pub decreases-loop-item : goal.decreases-loop-item
decreases-loop-item g l = l.reader.count
