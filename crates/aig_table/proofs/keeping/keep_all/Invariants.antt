use Rattle.em_space.specs.Seen.{seen}
use Rattle.aig_table.specs.Keeps.{KeepsBits}
use Rattle.aig_table.specs.Tables.{bits_at}
use Rattle.aig_table.proofs.keeping.keep_all.Given as goal

abbrev pub invariant-loop-number : goal.invariant-loop-number
invariant-loop-number g l =
    KeepsBits (seen g.D.Device.state l.fn.rig) (seen g.D.Device.state l.rig) l.fn.list l.list
    (bits_at l.table l.first l.number)
