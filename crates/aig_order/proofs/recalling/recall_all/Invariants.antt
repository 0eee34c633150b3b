use Rattle.std.proofs.Common.{◌≡◌, ◌≤◌, IsTrue, length}
use Rattle.em_space.specs.Seen.{seen}
use Rattle.em_chain.specs.Reader.{reader_items}
use Rattle.aig_edges.specs.Looks.{LooksPast}
use Rattle.aig_order.specs.Sweeps.{at_constant}
use Rattle.aig_order.proofs.Marked.{Recalled}
use Rattle.aig_order.proofs.recalling.recall_all.Given as goal

abbrev pub invariant-loop : goal.invariant-loop
invariant-loop g l =
    let first = seen g.D.Device.state l.fn.rig in
    let now = seen g.D.Device.state l.rig in
    record {
      past : LooksPast first now l.fn.reader l.reader l.counter;
      recalled : IsTrue first.device.told → Recalled l.last (reader_items first l.fn.reader)
          (reader_items now l.reader) (at_constant l.next) l.standing l.fn.row l.row;
      long : length l.row ≡ length l.fn.row;
      most : l.counter ≤ l.count;
    }
