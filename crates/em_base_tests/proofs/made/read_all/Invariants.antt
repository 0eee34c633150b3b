use Rattle.std.proofs.Common.{◌≡◌, true}
use Rattle.em_base_tests.proofs.made.read_all.Given as goal

-- the slot stays open
abbrev pub invariant-loop : goal.invariant-loop
invariant-loop g l = ((g.H.Shelf.stand l.shelf).slot l.slot).ready ≡ true
