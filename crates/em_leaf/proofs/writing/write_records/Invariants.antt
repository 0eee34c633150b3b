use Rattle.std.proofs.Common.{◌≡◌, List, length}
use Rattle.em_record.specs.declared.record.Record.{Record}
use Rattle.em_space.specs.Seen.{seen}
use Rattle.em_leaf.specs.Writing.{Writing, head_of, writing_peak}
use Rattle.em_leaf.proofs.writing.write_records.Given as goal

abbrev pub invariant-loop : goal.invariant-loop
invariant-loop g l = (items : List Record)
    × Writing (writing_peak (seen g.D.Device.state l.fn.rig) l.fn.reader l.fn.answers l.fn.out
    l.fn.front
    (length l.ops)) (g.S.Settle.key_of l.settle) (g.S.Settle.step_of l.settle) l.ops
    (seen g.D.Device.state l.fn.rig) (seen g.D.Device.state l.rig) l.fn.reader l.reader l.fn.answers
    l.answers l.fn.out l.out l.fn.front l.front items
    × (l.first ≡ head_of items)
    × (length items ≡ l.counter)
