use Rattle.std.proofs.Common.{◌≡◌, length}
use Rattle.em_space.specs.Seen.{seen}
use Rattle.aig_table.specs.Loads.{LoadsSome}
use Rattle.aig_table.proofs.loading.load_all.Given as goal

abbrev pub invariant-loop-number : goal.invariant-loop-number
invariant-loop-number g l =
    record {
      loads : LoadsSome 0 l.number (seen g.D.Device.state l.fn.rig) (seen g.D.Device.state l.rig)
          l.fn.reader l.reader l.fn.table l.table;
      long : length l.table ≡ length l.fn.table;
    }
