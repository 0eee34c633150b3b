use Rattle.em_space.specs.Seen.{seen}
use Rattle.em_segment_parts.specs.Lists.{ReadsAll}
use Rattle.em_segment_parts.proofs.listing.add_front.Given as goal

abbrev pub invariant-loop : goal.invariant-loop
invariant-loop g l =
    ReadsAll l.load l.counter (seen g.D.Device.state l.fn.rig) (seen g.D.Device.state l.rig)
    l.fn.reader l.reader l.fn.pairs l.pairs
