use Rattle.em_space.specs.Seen.{seen}
use Rattle.aig_edges.specs.Comparison.{ComparesFor}
use Rattle.aig_edges.proofs.comparing.compare_all.Given as goal

abbrev pub invariant-loop : goal.invariant-loop
invariant-loop g l =
    ComparesFor l.counter l.fn.total l.fn.count (seen g.D.Device.state l.fn.rig)
    (seen g.D.Device.state l.rig) l.fn.lists l.lists
