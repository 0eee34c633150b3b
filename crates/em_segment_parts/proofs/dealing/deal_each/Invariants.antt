use Rattle.em_space.specs.Seen.{seen}
use Rattle.em_segment_parts.specs.Deals.{DealsPast}
use Rattle.em_segment_parts.proofs.dealing.deal_each.Given as goal

abbrev pub invariant-loop : goal.invariant-loop
invariant-loop g l =
    DealsPast l.counter l.spans (seen g.D.Device.state l.fn.rig) (seen g.D.Device.state l.rig)
    l.fn.reader l.reader l.fn.group l.group
