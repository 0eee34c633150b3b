use Rattle.em_space.specs.Seen.{seen}
use Rattle.aig_table.specs.Columns.{PushesColumns}
use Rattle.aig_table.specs.Tables.{bits_at}
use Rattle.aig_table.proofs.pushing.push_columns.Given as goal

abbrev pub invariant-loop-number : goal.invariant-loop-number
invariant-loop-number g l =
    let here = seen g.D.Device.state l.rig in
    record {
      queue : g.Q.Queue.IsQueue l.queue here;
      pushes : PushesColumns g.Q.Queue (bits_at l.row 0 l.number) l.fn.queue l.queue
          (seen g.D.Device.state l.fn.rig) here;
    }
