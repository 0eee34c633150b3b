use Rattle.std.proofs.Common.{◌-◌}
use Rattle.em_space.specs.Seen.{seen}
use Rattle.aig_defs.specs.Stimulus.{stimulus_line}
use Rattle.aig_forward.specs.BitList.{AddedFront, list_moment}
use Rattle.aig_forward.proofs.line.read_bits.Given as goal

abbrev pub invariant-loop : goal.invariant-loop
invariant-loop g l = AddedFront g.H.Shelf.tells l.counter (stimulus_line l.inputs)
    (stimulus_line (l.inputs - l.counter))
    (list_moment g.H.Shelf l.fn.feed l.fn.shelf (seen g.D.Device.state l.fn.rig) l.fn.list)
    (list_moment g.H.Shelf l.feed l.shelf (seen g.D.Device.state l.rig) l.list)
