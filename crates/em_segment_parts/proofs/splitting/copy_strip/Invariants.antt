use Rattle.em_space.specs.Seen.{seen}
use Rattle.em_segment_parts.specs.Splits.{CopiesStrip}
use Rattle.em_segment_parts.proofs.splitting.copy_strip.Given as goal

abbrev pub invariant-loop : goal.invariant-loop
invariant-loop g l =
    CopiesStrip l.counter (record { first = l.first; last = l.last }) (seen g.D.Device.state l.fn.rig)
    (seen g.D.Device.state l.rig) l.fn.reader l.reader l.fn.writer l.writer
