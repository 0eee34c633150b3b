use Rattle.std.proofs.Common.{◌+◌}
use Rattle.em_space.specs.Seen.{seen}
use Rattle.em_tree_trim.specs.Listings.{JoinsOn}
use Rattle.em_tree_trim.proofs.joining.list_leaves.Given as goal

abbrev pub invariant-loop : goal.invariant-loop
invariant-loop g l =
    JoinsOn (g.S.Settle.key_of l.fn.settle) (seen g.D.Device.state l.fn.rig) (seen g.D.Device.state l.rig) l.fn.root
    (l.counter + 1) l.fn.list l.list l.held
