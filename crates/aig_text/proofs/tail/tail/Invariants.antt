use Rattle.std.proofs.Common.{◌^◌, ◌-◌}
use Rattle.aig_text.specs.Passed.{PassesLines}
use Rattle.aig_text.specs.Source.{source}
use Rattle.aig_text.proofs.tail.tail.Given as goal

abbrev pub invariant-loop-stop : goal.invariant-loop-stop
invariant-loop-stop g l =
    PassesLines g.H.Shelf.tells l.header (source g.H.Shelf l.fn.feed l.fn.shelf)
    (source g.H.Shelf l.feed l.shelf)

abbrev pub decreases-loop-stop : goal.decreases-loop-stop
decreases-loop-stop g l = 2 ^ 50 - l.feed.place
