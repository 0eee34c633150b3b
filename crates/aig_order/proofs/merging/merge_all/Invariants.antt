use Rattle.em_space.specs.Seen.{seen}
use Rattle.aig_order.specs.Merges.{MergesFor}
use Rattle.aig_order.proofs.merging.merge_all.Given as goal

abbrev pub invariant-loop : goal.invariant-loop
invariant-loop g l =
    MergesFor l.counter l.fn.total l.fn.header l.fn.merge (seen g.D.Device.state l.fn.rig)
    (seen g.D.Device.state l.rig) l.fn.weave l.weave l.fn.writer l.writer
