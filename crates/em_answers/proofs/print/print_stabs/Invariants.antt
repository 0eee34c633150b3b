use Rattle.std.proofs.Common.{◌≡◌, ◌+◌, ◌-◌, ◌++◌, ◌≤◌, IsTrue}
use Rattle.std.specs.Prelude.{IfNone, option_to_list}
use Rattle.em_io.specs.Sink.{Sent}
use Rattle.em_space.specs.Seen.{seen}
use Rattle.em_chain.specs.Reader.{owed, reader_items}
use Rattle.em_answers.specs.Answer.{stab_text}
use Rattle.em_answers.specs.Print.{KeepsBlocks, LooksAt, groups_from}
use Rattle.em_answers.proofs.print.print_stabs.Given as goal

abbrev pub invariant-loop-stab : goal.invariant-loop-stab
invariant-loop-stab g l =
    let first = seen g.D.Device.state l.fn.rig in
    let now = seen g.D.Device.state l.rig in
    record {
      keeps : KeepsBlocks first now;
      reader : LooksAt now l.reader;
      none : IfNone l.next (l.reader.count ≡ 0);
      sent : IsTrue first.device.told → Sent g.W.Sink.took (g.W.Sink.state l.fn.out)
          (l.fn.printer ++ stab_text (groups_from 0 l.stabs (reader_items first l.fn.reader)))
          (g.W.Sink.state l.out)
          (l.printer ++ stab_text (groups_from l.stab (l.stabs - l.stab)
          (option_to_list l.next ++ reader_items now l.reader)));
      later : g.W.Sink.faults l.fn.out ≤ g.W.Sink.faults l.out;
      moves : now.moves + owed l.reader ≤ first.moves + owed l.fn.reader;
    }
