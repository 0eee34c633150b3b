use Rattle.std.proofs.Common.{◌≡◌, ◌+◌, ◌-◌, ◌*◌, ◌<◌, ◌≤◌, ◌^◌, List, [], length, IsTrue}
use Rattle.em_io.specs.Feed.{rest}
use Rattle.em_model.specs.declared.command.Command.{Command}
use Rattle.em_space.specs.Rig.{Goes}
use Rattle.em_space.specs.Seen.{seen}
use Rattle.em_lines.specs.Reads.{Reads}
use Rattle.em_rows.specs.Writing.{WroteRows}
use Rattle.em_rows.specs.declared.kinds.RowKind.TheVariants.{Pair}
use Rattle.em_rows.proofs.RowLaws.{RowsGiven}
use Rattle.em_rows.proofs.listing.write_rows.Given as goal

abbrev pub invariant-loop-next : goal.invariant-loop-next
invariant-loop-next g l =
    let first = seen g.D.Device.state l.fn.rig in
    let now = seen g.D.Device.state l.rig in
    record {
      goes : Goes [] first now;
      free : 0 < now.pool.free;
      rows : List Command;
      wrote : WroteRows rows first now l.writer;
      number : l.number ≡ length rows;
      few : l.number ≤ 2 ^ 39;
      place : l.feed.place ≤ 43 * l.number;
      reads : Reads g.H.Shelf.tells l.fn.feed (g.H.Shelf.stand l.fn.shelf)
          l.feed (g.H.Shelf.stand l.shelf);
      later : g.H.Shelf.faults l.fn.shelf ≤ g.H.Shelf.faults l.shelf;
      given : IsTrue g.H.Shelf.tells → RowsGiven Pair (l.number + 1)
          (rest l.fn.feed (g.H.Shelf.stand l.fn.shelf)) (rest l.feed (g.H.Shelf.stand l.shelf)) rows;
    }

abbrev pub decreases-loop-next : goal.decreases-loop-next
decreases-loop-next g l = 2 ^ 39 + 1 - l.number
