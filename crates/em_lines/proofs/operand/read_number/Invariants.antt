use Rattle.std.proofs.Common.{◌≡◌, ◌<◌, ◌≤◌, ◌^◌, ◌-◌, ◌+◌, IsTrue}
use Rattle.em_io.specs.Feed.{rest}
use Rattle.em_lines.specs.CommandLine.{number_of}
use Rattle.em_lines.specs.Stream.{word_at, after_word}
use Rattle.em_lines.specs.Reads.{Reads}
use Rattle.em_lines.proofs.NumberLemmas.{number_rest}
use Rattle.em_lines.proofs.operand.read_number.Given as goal

abbrev pub invariant-loop-byte : goal.invariant-loop-byte
invariant-loop-byte g l = record {
  value : IsTrue g.H.Shelf.tells
      → number_of (word_at (rest l.fn.feed (g.H.Shelf.stand l.fn.shelf)))
      ≡ number_rest l.value l.count (word_at (rest l.feed (g.H.Shelf.stand l.shelf)));
  after : IsTrue g.H.Shelf.tells
      → after_word (rest l.fn.feed (g.H.Shelf.stand l.fn.shelf))
      ≡ after_word (rest l.feed (g.H.Shelf.stand l.shelf));
  few : l.count ≤ 20;
  small : l.value < 10 ^ l.count;
  place : l.feed.place ≤ l.fn.feed.place + l.count;
  reads : Reads g.H.Shelf.tells l.fn.feed (g.H.Shelf.stand l.fn.shelf)
      l.feed (g.H.Shelf.stand l.shelf);
  later : g.H.Shelf.faults l.fn.shelf ≤ g.H.Shelf.faults l.shelf;
}

abbrev pub decreases-loop-byte : goal.decreases-loop-byte
decreases-loop-byte g l = 20 - l.count
