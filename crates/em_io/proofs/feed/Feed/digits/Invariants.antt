use Rattle.std.proofs.Common.{◌≤◌, ◌-◌, ◌^◌}
use Rattle.em_io.specs.Digits.{TakesNumber}
use Rattle.em_io.proofs.feed.Feed.digits.Given as goal

abbrev pub invariant-loop-byte : goal.invariant-loop-byte
invariant-loop-byte g l = record {
  number : TakesNumber g.H.Shelf.tells l.initial.self (g.H.Shelf.stand l.initial.shelf)
      l.self (g.H.Shelf.stand l.shelf) l.value l.count;
  place : l.self.place ≤ 2 ^ 50;
  later : g.H.Shelf.faults l.initial.shelf ≤ g.H.Shelf.faults l.shelf;
}

abbrev pub decreases-loop-byte : goal.decreases-loop-byte
decreases-loop-byte g l = 20 - l.count
