use Rattle.em_space.specs.Seen.{seen}
use Rattle.em_segment_parts.specs.Loads.{ReadsLoad}
use Rattle.em_segment_parts.proofs.loading.read_load.Given as goal

abbrev pub invariant-loop-place : goal.invariant-loop-place
invariant-loop-place g l =
    ReadsLoad l.place (seen g.D.Device.state l.fn.rig) (seen g.D.Device.state l.rig) l.fn.reader
    l.reader l.fn.area l.area
