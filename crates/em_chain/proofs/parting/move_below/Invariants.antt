use Rattle.std.proofs.Common.{◌≡◌, ◌+◌, List, length}
use Rattle.em_record.specs.declared.record.Record.{Record}
use Rattle.em_space.specs.Seen.{seen}
use Rattle.em_chain.specs.Parts.{Moved, HadRoom}
use Rattle.em_chain.specs.Reader.{rest_of}
use Rattle.em_chain.proofs.parting.move_below.Given as goal

abbrev pub invariant-loop : goal.invariant-loop
invariant-loop g l = (xs : List Record)
    × Moved ((rest_of l.fn.reader).blocks + 1) (seen g.D.Device.state l.fn.rig)
    (seen g.D.Device.state l.rig) l.fn.low l.fn.reader l.reader l.fn.writer l.writer xs
    × (length xs ≡ l.counter)
    × HadRoom (seen g.D.Device.state l.fn.rig) (seen g.D.Device.state l.rig) (length xs)
