use Rattle.std.proofs.Common.{◌^◌, ◌-◌}
use Rattle.aig_defs.specs.Tail.{comment}
use Rattle.aig_text.specs.Passed.{PassesSome}
use Rattle.aig_text.specs.Source.{source}
use Rattle.aig_text.proofs.tail.comment.Given as goal

abbrev pub invariant-loop-stop : goal.invariant-loop-stop
invariant-loop-stop g l =
    PassesSome g.H.Shelf.tells comment (source g.H.Shelf l.fn.feed l.fn.shelf)
    (source g.H.Shelf l.feed l.shelf)

abbrev pub decreases-loop-stop : goal.decreases-loop-stop
decreases-loop-stop g l = 2 ^ 50 - l.feed.place
