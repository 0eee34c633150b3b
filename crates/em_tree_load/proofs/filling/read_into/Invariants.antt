use Rattle.std.proofs.Common.{◌≡◌, drop, length, take}
use Rattle.em_space.specs.Seen.{seen}
use Rattle.em_tree_load.specs.AreaFills.{ReadFirst}
use Rattle.em_tree_load.proofs.filling.read_into.Given as goal

abbrev pub invariant-loop-place : goal.invariant-loop-place
invariant-loop-place g l =
    ReadFirst (seen g.D.Device.state l.fn.rig) (seen g.D.Device.state l.rig) l.fn.reader l.reader
    (drop l.from l.fn.area) (drop l.from l.area) l.place
    × (take l.from l.area ≡ take l.from l.fn.area) × (length l.area ≡ length l.fn.area)
