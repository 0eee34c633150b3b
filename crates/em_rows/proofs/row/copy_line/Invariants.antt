use Rattle.std.proofs.Common.{◌≡◌, ◌≤◌, ◌-◌, ◌+◌, ◌++◌, take, length, IsTrue}
use Rattle.em_io.specs.Feed.{rest}
use Rattle.em_lines.specs.Stream.{after_line, line_at}
use Rattle.em_lines.specs.Reads.{Reads}
use Rattle.em_rows.proofs.row.copy_line.Given as goal

abbrev pub invariant-loop-byte : goal.invariant-loop-byte
invariant-loop-byte g l = record {
  line : IsTrue g.H.Shelf.tells
      → line_at (rest l.fn.feed (g.H.Shelf.stand l.fn.shelf))
      ≡ take l.n l.into ++ line_at (rest l.feed (g.H.Shelf.stand l.shelf));
  after : IsTrue g.H.Shelf.tells
      → after_line (rest l.fn.feed (g.H.Shelf.stand l.fn.shelf))
      ≡ after_line (rest l.feed (g.H.Shelf.stand l.shelf));
  room : l.n ≤ length l.into;
  few : length l.into ≤ 42;
  same : length l.into ≡ length l.fn.into;
  place : l.feed.place ≤ l.fn.feed.place + l.n;
  reads : Reads g.H.Shelf.tells l.fn.feed (g.H.Shelf.stand l.fn.shelf)
      l.feed (g.H.Shelf.stand l.shelf);
  later : g.H.Shelf.faults l.fn.shelf ≤ g.H.Shelf.faults l.shelf;
}

abbrev pub decreases-loop-byte : goal.decreases-loop-byte
decreases-loop-byte g l = length l.into - l.n
